-- A label is entered, and said to be double where the rows have not become more. Assumes nothing.
use Rattle.collect_labels_const.proofs.Laws.{name_inside, name_collects}
use native.Mathlib.Omega.{arith}
use Rattle.collect_labels_const.proofs.label_name.Goals as goal

pub bounds-words-at : goal.bounds-words-at
bounds-words-at c = omega (arith, name_inside c.requires.0)

pub bounds-words-at-2 : goal.bounds-words-at-2
bounds-words-at-2 c = name_inside c.requires.0

pub returns : goal.returns
returns c = name_collects c.enter-t.ensures c.push_if.ensures
