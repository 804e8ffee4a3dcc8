-- `list`: the count is read, and the rows are the frame that is left. Assumes nothing.
use mathlib.Core.Path.{refl, sym}
use native.Mathlib.Omega.{arith}
use Rattle.tree_expr.proofs.Steps.{leaf_read}
use Rattle.tree_stmt.proofs.Steps.{many_stop}
use Rattle.tree_stmt.proofs.Frames.{failed_goes, list_goes}
use Rattle.tree_stmt.proofs.list.Goals as goal

pub returns-in_err-d : goal.returns-in_err-d
returns-in_err-d c = λ ns n. failed_goes _ ns n (sym (many_stop _ ns n _ _ _ _ c.leaf.ensures c.in_err-d.was refl)) c.from_residual.ensures.1

pub offset_bounds-words-c : goal.offset_bounds-words-c
offset_bounds-words-c c = let h = leaf_read c.leaf.ensures c.in_ok-d.was in omega arith

pub bounds-words-c : goal.bounds-words-c
bounds-words-c c = (leaf_read c.leaf.ensures c.in_ok-d.was).inside

pub returns : goal.returns
returns c = λ ns n. list_goes _ ns n _ _ _ c.leaf.ensures c.in_ok-d.was
