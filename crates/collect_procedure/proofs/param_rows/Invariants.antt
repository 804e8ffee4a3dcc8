-- `param_rows`: at each turn the rows of the parameters that were read are entered, each under its ordinal. Assumes nothing.
use Prim.Native.Nat.{ℕ, ◌*◌, ◌≤◌}
use mathlib.Core.Path.{◌≡◌}
use mathlib.Core.List.{List}
use mathlib.Core.Option.{some}
use lib.ListN.{length}
use Rattle.rows_table.specs.Rows.{width, note_width}
use Rattle.collect_buffers.specs.State.{each, enter}
use Rattle.collect_buffers.specs.Held.{Does}
use Rattle.collect_definition.specs.Collect.{param_rows}
use Rattle.collect_procedure.proofs.Walk.{Walked}
use Rattle.collect_procedure.proofs.param_rows.Given as goal

abbrev pub invariant-loop-i : goal.invariant-loop-i
invariant-loop-i l =
    (length l.b ≡ length l.initial.b) × (l.c.notes ≡ l.initial.c.notes) × (l.c.rows * width ≤ length l.b)
    × Walked (λ ps. (d : List ℕ) → l.initial.c.notes * note_width ≤ length d → Does (λ N D. each (enter (some N)) (param_rows l.p.name 0 ps)) l.initial.c l.c l.initial.b d l.b d) l.words l.p.params l.p.count l.at l.i
