-- A use is noted: its name has no mark, or one that stays, or its two words are written. Assumes nothing.
use native.Mathlib.Omega.{arith}
use Rattle.collect_subscript_count.proofs.Table.{note_low, note_past, note_kept, note_written}
use Rattle.collect_subscript_count.proofs.note.Goals as goal

pub returns-then-f-base : goal.returns-then-f-base
returns-then-f-base c = note_low c.args.base c.args.t.now c.args.k c.args.f c.args.n c.if-f-base.true

pub returns-then-t-i : goal.returns-then-t-i
returns-then-t-i c = note_past c.args.base c.args.t.now c.args.k c.args.f c.args.n c.if-f-base.false c.if-t-i.true

pub returns-then-t-i-2 : goal.returns-then-t-i-2
returns-then-t-i-2 c = note_kept c.args.base c.args.t.now c.args.k c.args.f c.args.n c.if-f-base.false c.if-t-i.false c.if-t-i-ne0.true c.if-t-i-2.true

pub returns : goal.returns
returns c = note_written c.args.base c.args.t.now c.args.k c.args.f c.args.n c.if-f-base.false c.if-t-i.false (grind arith) (omega (arith, c.ranges.n))
