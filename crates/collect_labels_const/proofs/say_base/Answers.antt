-- One of the two diagnostics of OPTION BASE, or none. Assumes nothing.
use Rattle.collect_labels_const.proofs.Laws.{say_twice, say_late}
use Rattle.collect_labels_const.proofs.say_base.Goals as goal

pub returns-then-twice : goal.returns-then-twice
returns-then-twice c = say_twice _ _ _ c.if-twice.true c.push.ensures

pub returns-else-twice : goal.returns-else-twice
returns-else-twice c = say_late _ _ _ c.if-twice.false c.push_if.ensures
