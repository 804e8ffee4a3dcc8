-- `merge` puts the last of the rows to come in its place, until none is to come; the turns are laws of `Steps`. Assumes nothing.
use Rattle.std.specs.Prelude.{List, ◌≤◌}
use Rattle.rows_table.specs.Rows.{Row, Holds}
use Rattle.rows_merge.specs.Merge.{Apart, Merging}
use Rattle.rows_merge.proofs.merge.Given as goal

abbrev pub invariant-loop-j : goal.invariant-loop-j
invariant-loop-j l = record {
  few : l.i ≤ l.count;
  merging : (rows more : List Row) → Holds rows l.count l.initial.b → Holds more l.m l.src → Apart more rows → Merging rows more l.count l.m l.i l.j l.b;
}
