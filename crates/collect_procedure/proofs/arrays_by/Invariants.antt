-- `arrays_by`: at each turn the arrays among the parameters that were read are entered. Assumes nothing.
use Prim.Native.Nat.{ℕ, ◌*◌, ◌≤◌, ◌+◌}
use mathlib.Core.Path.{◌≡◌}
use mathlib.Core.List.{List}
use lib.ListN.{length}
use Rattle.tree_stmt.specs.Sorts.{body as body_sort}
use Rattle.tree_stmt.specs.Tree.{one, Tree}
use Rattle.rows_table.specs.Rows.{width, note_width}
use Rattle.collect_buffers.specs.State.{each}
use Rattle.collect_buffers.specs.Held.{Does}
use Rattle.collect_definition.specs.Seen.{Seen}
use Rattle.collect_definition.specs.Collect.{array_param}
use Rattle.collect_procedure.specs.Post.{plain, BodyAt}
use Rattle.collect_procedure.proofs.Walk.{Walked}
use Rattle.collect_procedure.proofs.arrays_by.Given as goal

abbrev pub invariant-loop : goal.invariant-loop
invariant-loop l =
    (length l.b ≡ length l.initial.b) × (l.c.notes ≡ l.initial.c.notes) × (l.c.rows * width ≤ length l.b)
    × ((t : Tree Seen (one body_sort)) → BodyAt l.words l.p.body l.p.past t → Walked (λ ps. (d : List ℕ) → l.initial.c.notes * note_width ≤ length d → Does (λ N D. each (array_param (plain N D) (l.p.name + 1) l.p.line t) ps) l.initial.c l.c l.initial.b d l.b d) l.words l.p.params l.p.count l.at l.counter)
