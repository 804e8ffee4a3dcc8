-- `exprs`: so many rows of one expression, each skipped. Assumes nothing.
use Rattle.tree_stmt.specs.Sorts.{expr, nil, ◌&◌}
use Rattle.collect_dim.proofs.Reading.{Passing}
use Rattle.collect_dim.proofs.exprs.Given as goal

abbrev pub invariant-loop : goal.invariant-loop
invariant-loop l = Passing (expr & nil) l.words l.from l.n l.at l.counter
