-- The cycle of `expr` and `exprs`: an expression is noted and then its children, so many expressions one after another. The number of words left falls. Assumes nothing.
use native.Mathlib.Omega.{arith}
use Rattle.tree_skip.proofs.Laws as S
use Rattle.collect_subscript_count.specs.Notes.{mark_at}
use Rattle.collect_subscript_count.proofs.Expressions.{children_there, expr_done, back_fits, exprs_start, next_expr, exprs_step, exprs_done}
use Rattle.collect_subscript_count.proofs.+expr_exprs.Goals as goal

pub expr-shape_at-s-requires : goal.expr-shape_at-s-requires
expr-shape_at-s-requires t c = c.requires

pub expr-here-requires : goal.expr-here-requires
expr-here-requires t c = c.requires

pub expr-exprs-next-requires : goal.expr-exprs-next-requires
expr-exprs-next-requires t c = (omega (arith, S.here c.requires, S.front_some c.requires c.shape_at-s.ensures, c.decreases), children_there c.requires c.shape_at-s.ensures)

pub expr-returns : goal.expr-returns
expr-returns t c = expr_done c.shape_at-s.ensures c.here.ensures c.exprs-next.ensures

pub exprs-loop-init : goal.exprs-loop-init
exprs-loop-init t c = exprs_start c.args.words.now c.args.at c.args.n c.args.k (mark_at c.args.base c.args.t.now)

pub exprs-expr-next-requires : goal.exprs-expr-next-requires
exprs-expr-next-requires t c = (omega (arith, c.decreases, (next_expr c.requires c.loop.invariant c.loop-test.true).1), (next_expr c.requires c.loop.invariant c.loop-test.true).0)

pub exprs-loop-preserved : goal.exprs-loop-preserved
exprs-loop-preserved t c = exprs_step c.loop.invariant c.loop-test.true c.expr-next.ensures

pub exprs-returns : goal.exprs-returns
exprs-returns t c = exprs_done c.loop.invariant c.loop-test.false

pub expr-overflow_add-at : goal.expr-overflow_add-at
expr-overflow_add-at t c = omega (arith, S.front_fits c.requires c.shape_at-s.ensures, c.well_formed)

pub expr-overflow_add-result : goal.expr-overflow_add-result
expr-overflow_add-result t c = omega (arith, back_fits c.requires c.shape_at-s.ensures c.exprs-next.ensures, c.well_formed)
