-- `exprs`: so many rows of one expression, each skipped. Assumes nothing.
use Rattle.collect_as_clause.specs.Turns.{turn_some, turn_next, turn_end}
use Rattle.collect_dim.proofs.Reading.{some_expr, row_past}
use Rattle.collect_dim.proofs.exprs.Goals as goal

pub expr-at-requires : goal.expr-at-requires
expr-at-requires c = some_expr (turn_some c.loop.invariant c.loop-test.true c.requires)

pub loop-preserved : goal.loop-preserved
loop-preserved c = turn_next c.loop.invariant c.loop-test.true (λ l. Unit {0}) c.expr-at.result (λ ns n r end S. (row_past c.expr-at.ensures ns n r end S, λ l many p. tt))

pub returns : goal.returns
returns c = λ ns k rs end S e. (turn_end c.loop.invariant c.loop-test.false ns k rs end S e).0
