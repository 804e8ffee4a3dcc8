-- A negation of an answer, which a CONST row may hold. Assumes nothing.
use mathlib.Core.Path.{ap, ◌∙◌}
use Rattle.fold_values.specs.Fold.{negate_of}
use Rattle.fold_const_eval.proofs.Laws.{some_negated}
use Rattle.fold_const_eval.proofs.negated.Goals as goal

pub laid-requires : goal.laid-requires
laid-requires c = some_negated (c.negate.ensures ∙ ap negate_of c.fold_of.ensures) c.requires
