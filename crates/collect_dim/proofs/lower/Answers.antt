-- `lower`: the word 0, or an expression. Assumes nothing.
use Rattle.collect_dim.proofs.Reading.{lower_inside, lower_absent, lower_expr, lower_present}
use Rattle.collect_dim.proofs.lower.Goals as goal

pub bounds-words-at : goal.bounds-words-at
bounds-words-at c = lower_inside c.requires

pub returns-then-words-at-eq0 : goal.returns-then-words-at-eq0
returns-then-words-at-eq0 c = lower_absent c.if-words-at-eq0.true

pub expr-requires : goal.expr-requires
expr-requires c = lower_expr c.if-words-at-eq0.false c.requires

pub returns : goal.returns
returns c = lower_present c.if-words-at-eq0.false c.expr.ensures
