-- A field looked at: rejected, too long, or kept. Assumes nothing.
use mathlib.Core.Path.{refl}
use Rattle.collect_type.proofs.Turns.{why_some, look_rejected, look_long, look_short}
use Rattle.collect_type.proofs.look.Goals as goal

pub returns-in-Err : goal.returns-in-Err
returns-in-Err c = rw c.in-Err.is (look_rejected c.args.owner.line c.args.owner.name _ c.args.f.name c.args.f.ty.head c.args.f.ty.arg c.args.s c.args.b.now c.args.d.now c.requires.1 (why_some _) c.reject.ensures)

pub returns-then-s-more : goal.returns-then-s-more
returns-then-s-more c = rw c.in_default.is (look_long c.args.owner.line c.args.owner.name _ c.args.f.name c.args.f.ty.head c.args.f.ty.arg c.args.s c.args.b.now c.args.d.now c.requires.1 refl c.requires.0.1 _ c.type_words-more.ensures c.if-s-more.true c.stop.ensures)

pub returns : goal.returns
returns c = rw c.in_default.is (look_short c.args.owner.line c.args.owner.name _ c.args.f.name c.args.f.ty.head c.args.f.ty.arg c.args.s c.args.b.now c.args.d.now c.requires.1 refl c.requires.0.1 _ c.type_words-more.ensures c.if-s-more.false)
