-- OPTION BASE: what is said, and the row. Assumes nothing.
use Rattle.collect_labels_const.proofs.Laws.{base_inside, base_collects}
use native.Mathlib.Omega.{arith}
use Rattle.collect_labels_const.proofs.option_base.Goals as goal

pub bounds-words-at : goal.bounds-words-at
bounds-words-at c = omega (arith, base_inside c.requires.0)

pub bounds-words-at-2 : goal.bounds-words-at-2
bounds-words-at-2 c = base_inside c.requires.0

pub returns : goal.returns
returns c = base_collects c.requires.1 c.has-twice.ensures c.late_base-late.ensures c.say_base-t.ensures c.enter.ensures
