-- An item's mark, its type, or nothing. Assumes nothing.
use Rattle.collect_shared_static.proofs.Laws.{enters_mark, enters_array, enters_untyped, enters_typed}
use Rattle.collect_shared_static.proofs.enter_item.Goals as goal

pub returns-then-kind-ne134 : goal.returns-then-kind-ne134
returns-then-kind-ne134 c = enters_mark c.if-kind-ne134.true _ c.word.ensures c.marked-mark.ensures c.enter.ensures

pub returns-then-i : goal.returns-then-i
returns-then-i c = enters_array c.if-kind-ne134.false c.requires.0 c.if-i.true

pub returns-in-None : goal.returns-in-None
returns-in-None c = enters_untyped c.if-kind-ne134.false c.requires.0 c.if-i.false c.in-None.is

pub returns-in-Some : goal.returns-in-Some
returns-in-Some c = enters_typed c.if-kind-ne134.false c.if-i.false c.in-Some.is c.enter-in-Some.ensures
