-- `put_words` pastes the row: j words of it are in. Assumes nothing.
use mathlib.Core.Path.{◌≡◌}
use lib.Seq.{paste}
use Rattle.rows_table.proofs.put_words.Given as goal

abbrev pub invariant-loop-j : goal.invariant-loop-j
invariant-loop-j l = l.b ≡ paste l.initial.b l.at l.row l.j
