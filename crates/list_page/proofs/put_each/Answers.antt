-- put_each: the words, one after the other.
use Rattle.list_page.specs.Page.{word}
use Rattle.base_text.specs.Laws.{items_none, items_more, items_all}
use Rattle.list_page.proofs.put_each.Goals as goal

pub loop-w-init : goal.loop-w-init
loop-w-init c = items_none word c.args.words.now

pub loop-w-preserved : goal.loop-w-preserved
unfolding word
loop-w-preserved c = items_more word c.args.words.now _ 0 c.loop-w-test.true c.loop-w.invariant c.put_word-next.ensures

pub returns : goal.returns
returns c = items_all word c.args.words.now _ c.loop-w-test.false c.loop-w.invariant
