-- `by_ref` is `places`: the procedure's own row decides first, then the parameter's row. Assumes nothing.
use mathlib.Core.Path.{sym, ap, ◌∙◌}
use Rattle.rows_runs.specs.Laws.{holds_keeps}
use Rattle.resolve_definition.specs.FromRows.{by_ref}
use Rattle.resolve_definition.proofs.Asked.{known, unknown}
use Rattle.resolve_definition.proofs.by_ref.Goals as goal

pub returns-then-has : goal.returns-then-has
returns-then-has c = λ rows H. known rows c.args.f c.args.i _ (sym (c.has.ensures rows (holds_keeps H)) ∙ c.if-has.true) (c.takes.ensures ∙ ap by_ref (c.find_entry.ensures.found rows (holds_keeps H)))

pub returns-else-has : goal.returns-else-has
returns-else-has c = λ rows H. c.if-has.false ∙ unknown rows c.args.f c.args.i (sym (c.has.ensures rows (holds_keeps H)) ∙ c.if-has.false)
