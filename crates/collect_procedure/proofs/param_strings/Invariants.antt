-- `param_strings`: at each turn the parameters that were read are looked at in order, beside any rows. Assumes nothing.
use Prim.Native.Nat.{ℕ, ◌*◌, ◌≤◌}
use mathlib.Core.Path.{◌≡◌}
use mathlib.Core.List.{List}
use lib.ListN.{length}
use Rattle.rows_table.specs.Rows.{width, note_width}
use Rattle.collect_buffers.specs.State.{each}
use Rattle.collect_buffers.specs.Held.{Does}
use Rattle.collect_definition.specs.Collect.{param_string}
use Rattle.collect_procedure.specs.Post.{plain}
use Rattle.collect_procedure.proofs.Walk.{Walked}
use Rattle.collect_procedure.proofs.param_strings.Given as goal

abbrev pub invariant-loop : goal.invariant-loop
invariant-loop l =
    (length l.d ≡ length l.initial.d) × (l.c.rows ≡ l.initial.c.rows) × (l.c.notes * note_width ≤ length l.d)
    × Walked (λ ps. (b : List ℕ) → l.initial.c.rows * width ≤ length b → Does (λ N D. each (param_string (plain N D) l.p.line l.p.name) ps) l.initial.c l.c b l.initial.d b l.d) l.words l.p.params l.p.count l.at l.counter
