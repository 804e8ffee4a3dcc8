-- An item of PRINT by the kind of its head. Assumes nothing.
use mathlib.Core.Path.{refl}
use Rattle.collect_subscript_count.proofs.Lists.{item_here, item_there, item_done, item_alone}
use Rattle.collect_subscript_count.proofs.item.Goals as goal

pub expr-requires : goal.expr-requires
expr-requires c = item_there c.if-words-at-eq32.true c.requires

pub returns-then-words-at-eq32 : goal.returns-then-words-at-eq32
returns-then-words-at-eq32 c = item_done c.if-words-at-eq32.true c.expr.ensures

pub returns : goal.returns
returns c = item_alone c.if-words-at-eq32.false (λ x. refl)

pub bounds-words-at : goal.bounds-words-at
bounds-words-at c = item_here c.requires
