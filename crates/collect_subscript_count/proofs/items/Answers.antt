-- The items of PRINT, one after another. Assumes nothing.
use Rattle.collect_subscript_count.specs.Notes.{mark_at}
use Rattle.collect_subscript_count.proofs.Lists.{list_here, items_start, items_next, items_step, items_done}
use Rattle.collect_subscript_count.proofs.items.Goals as goal

pub loop-init : goal.loop-init
loop-init c = items_start c.args.words.now c.args.at c.args.k (mark_at c.args.base c.args.t.now)

pub item-next-requires : goal.item-next-requires
item-next-requires c = items_next c.loop.invariant c.requires c.loop-test.true

pub loop-preserved : goal.loop-preserved
loop-preserved c = items_step c.loop.invariant c.loop-test.true c.item-next.ensures

pub returns : goal.returns
returns c = items_done c.loop.invariant c.loop-test.false

pub bounds-words-at : goal.bounds-words-at
bounds-words-at c = list_here c.requires
