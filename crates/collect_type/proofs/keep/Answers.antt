-- A field entered, or passed over. Assumes nothing.
use mathlib.Core.Path.{sym, ◌∙◌}
use Rattle.collect_type.proofs.Turns.{failed_some, passed_none, keep_none, keep_some}
use Rattle.collect_type.proofs.keep.Goals as goal

pub returns-then-is_err : goal.returns-then-is_err
returns-then-is_err c = keep_none c.args.owner.name _ c.args.f.name c.args.f.ty.head c.args.f.ty.arg c.args.s c.args.b.now c.requires.1 c.requires.0 (failed_some _ (sym c.is_err.ensures.value ∙ c.if-is_err.true))

pub returns : goal.returns
returns c = keep_some c.args.owner.name _ c.args.f.name c.args.f.ty.head c.args.f.ty.arg c.args.s c.args.b.now (passed_none _ (sym c.is_err.ensures.value ∙ c.if-is_err.false)) _ _ c.type_words.ensures c.grown-w.ensures.0 c.grown-w.ensures.1 c.enter-t.ensures
