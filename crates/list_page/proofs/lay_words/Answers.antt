-- lay_words: the words, one after the other, nine bytes each.
use Rattle.std.proofs.Common.{arith}
use Rattle.base_text.specs.Laws.{moved, items_none, items_more, items_all}
use Rattle.list_page.specs.Page.{word}
use Rattle.list_page.proofs.lay_words.Goals as goal

pub loop-i-init : goal.loop-i-init
loop-i-init c = moved (omega arith) (items_none word c.args.words.now)

pub loop-i-preserved : goal.loop-i-preserved
unfolding word
loop-i-preserved c = moved (omega arith) (items_more word c.args.words.now c.loop-i.i 0 c.loop-i-test.true c.loop-i.invariant c.lay_word.ensures)

pub returns : goal.returns
returns c = moved (omega arith) (items_all word c.args.words.now c.loop-i.i c.loop-i-test.false c.loop-i.invariant)
