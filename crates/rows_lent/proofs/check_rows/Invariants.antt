-- `check_rows`: after n rows, `scan` from there is what the whole test comes to; each turn is a law of `LentLaws`. Assumes nothing.
use mathlib.Core.Path.{◌≡◌}
use Prim.Native.Nat.{◌-◌, ◌*◌, ◌/◌, suc}
use lib.ListN.{length, drop}
use Rattle.rows_table.specs.Rows.{width}
use Rattle.rows_lent.specs.Lent.{scan, checked}
use Rattle.rows_lent.proofs.check_rows.Given as goal

abbrev pub invariant-loop-n : goal.invariant-loop-n
invariant-loop-n l = checked l.names l.b ≡ scan l.names (length l.b / width - l.n) (suc l.last) l.n (drop (l.n * width) l.b)
