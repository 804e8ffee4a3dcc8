-- `operator`: a mark is read, and the fields are the frame that is left. Assumes nothing.
use mathlib.Core.Path.{refl, sym}
use native.Mathlib.Omega.{arith}
use Rattle.tree_expr.proofs.Steps.{on, halt, leaf_read}
use Rattle.tree_stmt.proofs.Frames.{failed_goes, fields_go}
use Rattle.tree_stmt.proofs.operator.Goals as goal

pub returns-in_err-d : goal.returns-in_err-d
returns-in_err-d c = λ ns n. failed_goes _ ns n (sym (halt _ c.leaf.ensures c.in_err-d.was refl)) c.from_residual.ensures.1

pub returns : goal.returns
returns c =
    let h = leaf_read c.leaf.ensures c.in_ok-d.was in
    λ ns n. fields_go _ ns n c.one_field.ensures (sym (on _ c.leaf.ensures c.in_ok-d.was refl)) (omega arith) (omega arith) c.requires
