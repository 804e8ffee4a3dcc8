-- `type_ref`: its head, and what follows a head of its kind. Assumes nothing.
use mathlib.Core.Path.{ap, ◌∙◌}
use native.Mathlib.Omega.{arith}
use Rattle.std.specs.Prelude.{Ok}
use Rattle.tree_expr.proofs.Steps.{head_read}
use Rattle.tree_stmt.proofs.Steps.{type_stop, type_plain, type_length, type_name, name_word}
use Rattle.tree_stmt.proofs.type_ref.Goals as goal

pub returns-in_err-next : goal.returns-in_err-next
returns-in_err-next c = type_stop _ _ _ _ _ _ c.head.ensures c.in_err-next.was c.from_residual.ensures.1

pub offset_bounds-words-c : goal.offset_bounds-words-c
offset_bounds-words-c c = let h = head_read c.head.ensures c.in_ok-next.was in omega arith

pub bounds-words-c : goal.bounds-words-c
bounds-words-c c = (head_read c.head.ensures c.in_ok-next.was).inside

pub returns-in-44 : goal.returns-in-44
returns-in-44 c =
    let h = head_read c.head.ensures c.in_ok-next.was in
    type_length _ _ _ _ _ _ h.inside h.pay c.in-44.is (rw h.to at c.mark.ensures)

pub returns-in_default : goal.returns-in_default
returns-in_default c =
    let h = head_read c.head.ensures c.in_ok-next.was in
    type_name _ _ _ _ _ _ h.inside h.pay (omega arith) (name_word _ _ _ (rw h.to at c.name.ensures))

pub returns-in-40-to-43 : goal.returns-in-40-to-43
returns-in-40-to-43 c =
    let h = head_read c.head.ensures c.in_ok-next.was in
    ap (λ x. Ok (record { at = x })) h.to ∙ type_plain _ _ _ _ _ _ h.inside h.pay h.from (omega arith)
