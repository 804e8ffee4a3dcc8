-- `literal`: the head, then what its kind asks for.
use native.Mathlib.Omega.{arith}
use Rattle.tree_expr.specs.Reader.{literal_at}
use Rattle.tree_expr.proofs.Steps.{next_head, stop, head_read, lit_raw, lit_float, lit_text}
use Rattle.tree_expr.proofs.Cursor.literal.Goals.{in_default-via-then-k-lt24, in_default-via-else-k-lt24+else-k-lt26+else-k-lt28}
use Rattle.tree_expr.proofs.Cursor.literal.Goals as goal

pub returns-in_err-c : goal.returns-in_err-c
unfolding literal_at
returns-in_err-c c = stop _ _ c.head.ensures c.in_err-c.was c.from_residual.ensures.1

pub offset_bounds-words-self : goal.offset_bounds-words-self
offset_bounds-words-self c = let h = head_read c.head.ensures c.in_ok-c.was in omega arith

pub bounds-words-self : goal.bounds-words-self
bounds-words-self c = (head_read c.head.ensures c.in_ok-c.was).inside

pub returns-in-24 : goal.returns-in-24
unfolding literal_at
returns-in-24 c = next_head _ _ _ _ _ c.head.ensures c.in_ok-c.was (lit_raw _ _ _ _ (omega arith) (omega arith) c.raw.ensures)

pub returns-in-26-to-27 : goal.returns-in-26-to-27
unfolding literal_at
returns-in-26-to-27 c = next_head _ _ _ _ _ c.head.ensures c.in_ok-c.was (lit_float _ _ _ _ (omega arith) (omega arith) c.float.ensures)

pub returns-in_default : goal.returns-in_default
unfolding literal_at
returns-in_default c =
    let h = head_read c.head.ensures c.in_ok-c.was in
    next_head _ _ _ _ _ c.head.ensures c.in_ok-c.was (lit_text _ _ _ _ (elim c.in_default.branch [ in_default-via-then-k-lt24 w ↦ omega arith | in_default-via-else-k-lt24+else-k-lt26+else-k-lt28 w ↦ omega arith ]) c.leaf.ensures)
