-- The row at the place of the module's key tells the least scope. Assumes nothing.
use Prim.Native.Nat.{ℕ}
use mathlib.Core.Path.{sym, ap, ◌∙◌}
use Rattle.rows_table.specs.Rows.{rank}
use Rattle.resolve_definition.specs.Scopes.{scope_of}
use Rattle.resolve_definition.proofs.Arrays.{first_there, first_other, first_end}
use Rattle.resolve_definition.proofs.first_scope.Goals as goal

pub returns-then-k-from : goal.returns-then-k-from
unfolding scope_of
returns-then-k-from c = λ rows H. first_there H c.args.f c.lower_bound-p.result (c.lower_bound-p.ensures.ranked rows H ∙ ap (λ (k : ℕ). rank k rows) c.entry_key.ensures) c.key-k.result c.key-k.ensures c.if-p-rows.true (c.if-k-from.true ∙ c.from.ensures)

pub returns-else-k-from : goal.returns-else-k-from
unfolding scope_of
returns-else-k-from c = λ rows H. first_other H c.args.f c.lower_bound-p.result (c.lower_bound-p.ensures.ranked rows H ∙ ap (λ (k : ℕ). rank k rows) c.entry_key.ensures) c.key-k.result c.key-k.ensures c.if-p-rows.true (λ e. c.if-k-from.false (e ∙ sym c.from.ensures))

pub returns-else-p-rows : goal.returns-else-p-rows
unfolding scope_of
returns-else-p-rows c = λ rows H. first_end H c.args.f c.lower_bound-p.result (c.lower_bound-p.ensures.ranked rows H ∙ ap (λ (k : ℕ). rank k rows) c.entry_key.ensures) c.if-p-rows.false
