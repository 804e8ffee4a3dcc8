-- `is_element` is `element`: a procedure's row decides first, then the array. Assumes nothing.
use mathlib.Core.Bool.{not}
use mathlib.Core.Path.{sym, ap, ◌∙◌}
use Rattle.rows_runs.specs.Laws.{holds_keeps}
use Rattle.resolve_definition.proofs.Asked.{a_procedure, no_procedure}
use Rattle.resolve_definition.proofs.is_element.Goals as goal

pub returns-else-not-has : goal.returns-else-not-has
returns-else-not-has c = λ rows H. ap not c.if-not-has.false ∙ a_procedure rows c.args.f c.args.scope (sym (c.has.ensures rows (holds_keeps H)) ∙ c.if-not-has.false)

pub returns-then-not-has : goal.returns-then-not-has
returns-then-not-has c = λ rows H. no_procedure rows c.args.f c.args.scope _ (sym (c.has.ensures rows (holds_keeps H)) ∙ c.if-not-has.true) (c.is_array.ensures rows H)
