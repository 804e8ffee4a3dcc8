-- `words_ok`: the words from j on decide; a turn is a law of `Words`. Assumes nothing.
use mathlib.Core.Path.{◌≡◌}
use mathlib.Core.List.{[]}
use lib.ListN.{drop, get_or}
use Rattle.rows_lent.specs.Rules.{rules, words_ok}
use Rattle.rows_lent.proofs.words_ok.Given as goal

abbrev pub invariant-loop-j : goal.invariant-loop-j
invariant-loop-j l = words_ok l.names (drop 1 (get_or rules l.k [])) (drop 1 l.row) ≡ words_ok l.names (drop l.j (get_or rules l.k [])) (drop l.j l.row)
