-- `call`: a name, and then a list. Assumes nothing.
use mathlib.Core.Path.{refl, sym}
use Rattle.tree_expr.proofs.Steps.{halt}
use Rattle.tree_stmt.proofs.Frames.{failed_goes, call_goes}
use Rattle.tree_stmt.proofs.call.Goals as goal

pub returns-in_err-d : goal.returns-in_err-d
returns-in_err-d c = λ n. failed_goes _ _ n (sym (halt _ c.name.ensures c.in_err-d.was refl)) c.from_residual.ensures.1

pub returns : goal.returns
returns c = λ n. call_goes _ _ n _ _ c.name.ensures c.in_ok-d.was (c.list.ensures _ n)
