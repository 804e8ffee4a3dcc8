-- `choice`: each head is an alternative of the definition; its row is left. Assumes nothing.
use mathlib.Core.Path.{refl, sym}
use native.Mathlib.Omega.{arith}
use Rattle.tree_expr.proofs.Steps.{head_read}
use Rattle.tree_stmt.proofs.Steps.{choice_stop, choice_go}
use Rattle.tree_stmt.proofs.Frames.{failed_goes, row_goes}
use Rattle.tree_stmt.proofs.choice.Goals as goal

pub returns-in_err-next : goal.returns-in_err-next
returns-in_err-next c = λ ns n. failed_goes _ ns n (sym (choice_stop _ ns n _ _ _ _ _ _ c.requires.0 c.requires.1 c.head.ensures c.in_err-next.was refl)) c.from_residual.ensures.1

pub offset_bounds-words-c : goal.offset_bounds-words-c
offset_bounds-words-c c = let h = head_read c.head.ensures c.in_ok-next.was in omega arith

pub bounds-words-c : goal.bounds-words-c
bounds-words-c c = (head_read c.head.ensures c.in_ok-next.was).inside

pub overflow_sub-i : goal.overflow_sub-i
overflow_sub-i c = (head_read c.head.ensures c.in_ok-next.was).from

pub returns : goal.returns
returns c =
    let h = head_read c.head.ensures c.in_ok-next.was in
    λ ns n. row_goes _ ns n c.one_row.ensures (sym (choice_go _ ns n _ _ _ _ _ _ c.requires.0 h.inside h.pay h.from (omega arith) (rw h.to refl))) (omega arith) (omega arith)
