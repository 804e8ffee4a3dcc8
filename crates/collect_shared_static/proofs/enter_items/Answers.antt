-- All items of a list: the loop's invariant is what is done for those before. Assumes nothing.
use Rattle.collect_as_clause.specs.Turns.{list_inside}
use Rattle.collect_shared_static.proofs.Laws.{items_start, item_there, items_next, items_all}
use Rattle.collect_shared_static.proofs.enter_items.Goals as goal

pub bounds-words-at : goal.bounds-words-at
bounds-words-at c = list_inside c.requires.0.stands

pub loop-init : goal.loop-init
loop-init c = items_start c.requires.1

pub item_at-i-requires : goal.item_at-i-requires
item_at-i-requires c = item_there c.loop.invariant c.loop-test.true c.requires.0

pub loop-preserved : goal.loop-preserved
loop-preserved c = items_next c.loop.invariant c.loop-test.true c.item_at-i.ensures.is c.enter_item-t.auto.b c.enter_item-t.ensures

pub returns : goal.returns
returns c = items_all c.loop.invariant c.loop-test.false
