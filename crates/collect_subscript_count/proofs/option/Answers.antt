-- An expression, or the word 0, which no expression begins with. Assumes nothing.
use mathlib.Core.Path.{refl}
use Rattle.collect_subscript_count.proofs.Lists.{option_here, option_there, option_done, option_absent}
use Rattle.collect_subscript_count.proofs.option.Goals as goal

pub returns-then-words-at-eq0 : goal.returns-then-words-at-eq0
returns-then-words-at-eq0 c = option_absent c.if-words-at-eq0.true (λ x. refl)

pub expr-requires : goal.expr-requires
expr-requires c = option_there c.if-words-at-eq0.false c.requires

pub returns : goal.returns
returns c = option_done c.if-words-at-eq0.false c.expr.ensures

pub bounds-words-at : goal.bounds-words-at
bounds-words-at c = option_here c.requires
