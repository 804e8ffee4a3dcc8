-- `goto_target`: its head, and what follows a head of its kind. Assumes nothing.
use native.Mathlib.Omega.{arith}
use Rattle.tree_expr.proofs.Steps.{head_read}
use Rattle.tree_stmt.proofs.Steps.{target_stop, target_line, target_label, name_word}
use Rattle.tree_stmt.proofs.goto_target.Goals as goal

pub returns-in_err-next : goal.returns-in_err-next
returns-in_err-next c = target_stop _ _ _ _ _ _ c.head.ensures c.in_err-next.was c.from_residual.ensures.1

pub offset_bounds-words-c : goal.offset_bounds-words-c
offset_bounds-words-c c = let h = head_read c.head.ensures c.in_ok-next.was in omega arith

pub bounds-words-c : goal.bounds-words-c
bounds-words-c c = (head_read c.head.ensures c.in_ok-next.was).inside

pub returns-then-words-c-eq48 : goal.returns-then-words-c-eq48
returns-then-words-c-eq48 c =
    let h = head_read c.head.ensures c.in_ok-next.was in
    target_line _ _ _ _ _ _ h.inside h.pay (omega arith) (rw h.to at c.mark.ensures)

pub returns-else-words-c-eq48 : goal.returns-else-words-c-eq48
returns-else-words-c-eq48 c =
    let h = head_read c.head.ensures c.in_ok-next.was in
    target_label _ _ _ _ _ _ h.inside h.pay (omega arith) (name_word _ _ _ (rw h.to at c.name.ensures))
