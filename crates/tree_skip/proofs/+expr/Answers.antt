-- The proof of `expr`, which calls itself in a loop over the children: the number of words left falls. At each turn what is left of the children
-- stands at the place, for whatever expression stands at the start. Assumes nothing.
use Prim.Native.Nat.{◌-◌, ◌+◌}
use native.Mathlib.Omega.{arith}
use Rattle.tree_skip.specs.Shape.{SomeExpr}
use Rattle.tree_skip.proofs.Laws.{here, front_fits, front_some, left_all, left_some, left_next, left_moves, left_none}
use Rattle.tree_skip.proofs.+expr.Goals as goal

pub overflow_add-m : goal.overflow_add-m
overflow_add-m t c = omega (arith, front_fits c.requires c.shape_at-s.ensures)

pub loop-init : goal.loop-init
loop-init t c = (omega (arith, front_some c.requires c.shape_at-s.ensures), left_all c.shape_at-s.ensures (omega arith))

pub expr-m-requires : goal.expr-m-requires
expr-m-requires t c =
    let next : SomeExpr c.args.words.now c.loop.m = left_some c.loop.invariant.1 (c.shape_at-s.result.children - (c.loop.counter + 1)) (omega arith) c.requires in
    (omega (arith, here c.requires, c.loop.invariant.0), next)

pub loop-preserved : goal.loop-preserved
loop-preserved t c =
    let next : SomeExpr c.args.words.now c.loop.m = left_some c.loop.invariant.1 (c.shape_at-s.result.children - (c.loop.counter + 1)) (omega arith) c.requires in
    (omega (arith, c.loop.invariant.0, left_moves next c.expr-m.ensures), left_next c.loop.invariant.1 _ (omega arith) c.expr-m.ensures)

pub overflow_add-result : goal.overflow_add-result
overflow_add-result t c = omega (arith, left_none c.loop.invariant.1 (omega arith) _ _ _ c.requires.stands, c.requires.stands.wrote.inside)

pub returns : goal.returns
returns t c = left_none c.loop.invariant.1 (omega arith)
