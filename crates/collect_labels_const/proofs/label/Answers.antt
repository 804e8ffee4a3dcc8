-- A line number is entered, and said to be double where the rows have not become more. Assumes nothing.
use Rattle.collect_labels_const.proofs.Laws.{label_inside, label_collects}
use native.Mathlib.Omega.{arith}
use Rattle.collect_labels_const.proofs.label.Goals as goal

pub bounds-words-at : goal.bounds-words-at
bounds-words-at c = omega (arith, label_inside c.requires.0)

pub bounds-words-at-2 : goal.bounds-words-at-2
bounds-words-at-2 c = label_inside c.requires.0

pub returns : goal.returns
returns c = label_collects c.enter-t.ensures c.push_if.ensures
