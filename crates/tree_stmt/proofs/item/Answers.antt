-- `item`: a head alone, or one behind which an expression is left. Assumes nothing.
use mathlib.Core.Path.{refl, sym, ap, ◌∙◌}
use native.Mathlib.Omega.{arith}
use Rattle.std.specs.Prelude.{Ok}
use Rattle.tree_expr.proofs.Steps.{head_read}
use Rattle.tree_stmt.specs.Frames.{past}
use Rattle.tree_stmt.proofs.Steps.{item_stop, item_expr, item_plain}
use Rattle.tree_stmt.proofs.Frames.{failed_goes, fields_go, frame_9}
use Rattle.tree_stmt.proofs.item.Goals as goal

pub returns-in_err-next : goal.returns-in_err-next
returns-in_err-next c = λ ns n. failed_goes _ ns n (sym (item_stop _ ns n _ _ _ c.head.ensures c.in_err-next.was refl)) c.from_residual.ensures.1

pub offset_bounds-words-c : goal.offset_bounds-words-c
offset_bounds-words-c c = let h = head_read c.head.ensures c.in_ok-next.was in omega arith

pub bounds-words-c : goal.bounds-words-c
bounds-words-c c = (head_read c.head.ensures c.in_ok-next.was).inside

pub returns-then-words-c-eq32 : goal.returns-then-words-c-eq32
returns-then-words-c-eq32 c =
    let h = head_read c.head.ensures c.in_ok-next.was in
    λ ns n. fields_go _ ns n c.one_field.ensures (sym (item_expr _ ns n _ _ _ h.inside h.pay c.if-words-c-eq32.true (rw h.to refl)) ∙ sym (frame_9 _ ns n _ _)) (omega arith) (omega arith) (omega arith)

pub returns-else-words-c-eq32 : goal.returns-else-words-c-eq32
returns-else-words-c-eq32 c =
    let h = head_read c.head.ensures c.in_ok-next.was in
    λ ns n. past (sym (item_plain _ ns n _ _ _ h.inside h.pay (omega arith) h.upto) ∙ ap (λ x. Ok (record { at = x })) (sym h.to))
