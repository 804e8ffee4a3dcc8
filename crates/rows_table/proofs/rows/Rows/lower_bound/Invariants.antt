-- `lower_bound` is the key's rank: it lies between lo and hi, and a test at mid moves one of them. Assumes nothing.
use Rattle.std.specs.Prelude.{List, ◌≤◌, ◌-◌}
use Rattle.rows_table.specs.Rows.{Row, rank}
use Rattle.rows_table.specs.Answers.{HeldIn}
use Rattle.rows_table.proofs.rows.Rows.lower_bound.Given as goal

abbrev pub invariant-loop-lo : goal.invariant-loop-lo
invariant-loop-lo l =
    (l.lo ≤ l.hi) × (l.hi ≤ l.self.count) × ((rows : List Row) → HeldIn rows l.self → (l.lo ≤ rank l.k rows) × (rank l.k rows ≤ l.hi))

abbrev pub decreases-loop-lo : goal.decreases-loop-lo
decreases-loop-lo l = l.hi - l.lo
