-- `expression`: a head, and then by its kind. Assumes nothing.
use mathlib.Core.Path.{refl, sym}
use native.Mathlib.Omega.{arith}
use Rattle.tree_expr.proofs.Steps.{head_read, expr_stop, expr_deep, expr_body}
use Rattle.tree_stmt.specs.Frames.{failed}
use Rattle.tree_stmt.proofs.Steps.{expr_arm}
use Rattle.tree_stmt.proofs.Frames.{failed_goes, goes_same}
use Rattle.tree_stmt.proofs.expression.Goals as goal

pub returns-in_err-d : goal.returns-in_err-d
returns-in_err-d c = failed_goes _ _ _ (sym (expr_arm _ _ _ _ _ _ (expr_stop _ _ _ _ c.head.ensures c.in_err-d.was refl))) c.from_residual.ensures.1

pub returns-then-left-eq0 : goal.returns-then-left-eq0
returns-then-left-eq0 c = failed (sym (expr_arm _ _ _ _ _ _ (expr_deep _ _ _ _ c.if-left-eq0.true c.head.ensures c.in_ok-d.was)))

pub offset_bounds-words-c : goal.offset_bounds-words-c
offset_bounds-words-c c = let h = head_read c.head.ensures c.in_ok-d.was in omega arith

pub bounds-words-c : goal.bounds-words-c
bounds-words-c c = (head_read c.head.ensures c.in_ok-d.was).inside

pub value-requires : goal.value-requires
value-requires c = let h = head_read c.head.ensures c.in_ok-d.was in (h.from, h.upto, omega arith)

pub returns : goal.returns
returns c =
    let h = head_read c.head.ensures c.in_ok-d.was in
    goes_same _ _ _ (sym (expr_arm _ _ _ _ _ _ (expr_body _ _ _ _ c.if-left-eq0.false c.head.ensures c.in_ok-d.was refl))) (c.value.ensures _ (omega arith))
