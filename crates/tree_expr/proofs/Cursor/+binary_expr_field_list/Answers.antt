-- The proof of the cycle of calls {binary, expr, field, list}: the levels left fall. `expr` at `left` calls all four at `left - 1`, and the others call `expr` at the
-- same `left`. Assumes nothing.
use mathlib.Core.Path.{refl, sym, ◌∙◌}
use native.Mathlib.Omega.{arith}
use Rattle.tree_expr.specs.Reader.{list_at}
use Rattle.tree_expr.proofs.Steps.{on, halt, stop, next_leaf, head_read, leaf_read, expr_stop, expr_deep, expr_body, body_16, body_17, body_18, body_19, body_20, body_22, body_23, exprs_none, exprs_next}
use Rattle.tree_expr.proofs.Cursor.+binary_expr_field_list.Goals as goal

pub binary-returns-in_err-c : goal.binary-returns-in_err-c
binary-returns-in_err-c t c = halt _ c.leaf.ensures c.in_err-c.was c.from_residual.ensures.1

pub binary-returns-in_err-d : goal.binary-returns-in_err-d
binary-returns-in_err-d t c = on _ c.leaf.ensures c.in_ok-c.was (halt _ c.expr.ensures c.in_err-d.was c.from_residual-in_err-d.ensures.1)

pub binary-returns : goal.binary-returns
binary-returns t c = on _ c.leaf.ensures c.in_ok-c.was (on _ c.expr.ensures c.in_ok-d.was c.expr-2.ensures)

pub expr-returns-in_err-c : goal.expr-returns-in_err-c
expr-returns-in_err-c t c = expr_stop _ _ _ _ c.head.ensures c.in_err-c.was c.from_residual.ensures.1

pub expr-returns-then-left-eq0 : goal.expr-returns-then-left-eq0
expr-returns-then-left-eq0 t c = expr_deep _ _ _ _ c.if-left-eq0.true c.head.ensures c.in_ok-c.was

pub expr-offset_bounds-words-self : goal.expr-offset_bounds-words-self
expr-offset_bounds-words-self t c = let h = head_read c.head.ensures c.in_ok-c.was in omega arith

pub expr-bounds-words-self : goal.expr-bounds-words-self
expr-bounds-words-self t c = (head_read c.head.ensures c.in_ok-c.was).inside

pub expr-returns-in_err-d-in-18 : goal.expr-returns-in_err-d-in-18
expr-returns-in_err-d-in-18 t c = expr_body _ _ _ _ c.if-left-eq0.false c.head.ensures c.in_ok-c.was (body_18 _ _ _ _ _ c.in-18.is (halt _ c.name-in-18.ensures c.in_err-d-in-18.was c.from_residual-in_err-d-in-18.ensures.1))

pub expr-returns-in_err-d-in-19 : goal.expr-returns-in_err-d-in-19
expr-returns-in_err-d-in-19 t c = expr_body _ _ _ _ c.if-left-eq0.false c.head.ensures c.in_ok-c.was (body_19 _ _ _ _ _ c.in-19.is (halt _ c.leaf.ensures c.in_err-d-in-19.was c.from_residual-in_err-d-in-19.ensures.1))

pub expr-returns-in-16 : goal.expr-returns-in-16
expr-returns-in-16 t c = expr_body _ _ _ _ c.if-left-eq0.false c.head.ensures c.in_ok-c.was (body_16 _ _ _ _ _ c.in-16.is c.literal.ensures)

pub expr-returns-in-17 : goal.expr-returns-in-17
expr-returns-in-17 t c = expr_body _ _ _ _ c.if-left-eq0.false c.head.ensures c.in_ok-c.was (body_17 _ _ _ _ _ c.in-17.is c.name.ensures)

pub expr-returns-in_ok-d-in-18 : goal.expr-returns-in_ok-d-in-18
expr-returns-in_ok-d-in-18 t c = expr_body _ _ _ _ c.if-left-eq0.false c.head.ensures c.in_ok-c.was (body_18 _ _ _ _ _ c.in-18.is (on _ c.name-in-18.ensures c.in_ok-d-in-18.was c.list.ensures))

pub expr-returns-in_ok-d-in-19 : goal.expr-returns-in_ok-d-in-19
expr-returns-in_ok-d-in-19 t c = expr_body _ _ _ _ c.if-left-eq0.false c.head.ensures c.in_ok-c.was (body_19 _ _ _ _ _ c.in-19.is (on _ c.leaf.ensures c.in_ok-d-in-19.was c.expr.ensures))

pub expr-returns-in-20 : goal.expr-returns-in-20
expr-returns-in-20 t c = expr_body _ _ _ _ c.if-left-eq0.false c.head.ensures c.in_ok-c.was (body_20 _ _ _ _ _ c.in-20.is c.binary.ensures)

pub expr-returns-in-22 : goal.expr-returns-in-22
expr-returns-in-22 t c = expr_body _ _ _ _ c.if-left-eq0.false c.head.ensures c.in_ok-c.was (body_22 _ _ _ _ _ c.in-22.is c.field.ensures)

pub expr-returns-in_default : goal.expr-returns-in_default
expr-returns-in_default t c =
    let h = head_read c.head.ensures c.in_ok-c.was in
    expr_body _ _ _ _ c.if-left-eq0.false c.head.ensures c.in_ok-c.was (body_23 _ _ _ _ _ (grind arith) c.expr-in_default.ensures)

pub field-returns-in_err-c : goal.field-returns-in_err-c
field-returns-in_err-c t c = halt _ c.expr.ensures c.in_err-c.was c.from_residual.ensures.1

pub field-returns : goal.field-returns
field-returns t c = on _ c.expr.ensures c.in_ok-c.was c.name.ensures

pub list-returns-in_err-c : goal.list-returns-in_err-c
unfolding list_at
list-returns-in_err-c t c = stop _ _ c.leaf.ensures c.in_err-c.was c.from_residual.ensures.1

pub list-offset_bounds-words-self : goal.list-offset_bounds-words-self
list-offset_bounds-words-self t c = let h = leaf_read c.leaf.ensures c.in_ok-c.was in omega arith

pub list-bounds-words-self : goal.list-bounds-words-self
list-bounds-words-self t c = (leaf_read c.leaf.ensures c.in_ok-c.was).inside

pub list-returns-in_err-c-2 : goal.list-returns-in_err-c-2
unfolding list_at
list-returns-in_err-c-2 t c = next_leaf _ _ _ _ _ c.leaf.ensures c.in_ok-c.was (halt _ c.expr.ensures c.in_err-c-2.was c.from_residual-in_err-c-2.ensures.1 ∙ sym (exprs_next _ _ _ _ _ _ c.loop-test.true) ∙ sym c.loop.invariant)

pub list-loop-preserved : goal.list-loop-preserved
list-loop-preserved t c = c.loop.invariant ∙ exprs_next _ _ _ _ _ _ c.loop-test.true ∙ sym (on _ c.expr.ensures c.in_ok-c-2.was refl)

pub list-returns : goal.list-returns
unfolding list_at
list-returns t c = next_leaf _ _ _ _ _ c.leaf.ensures c.in_ok-c.was (sym (c.loop.invariant ∙ exprs_none _ _ _ _ _ (omega arith)))
