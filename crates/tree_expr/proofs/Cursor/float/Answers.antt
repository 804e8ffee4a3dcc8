-- `float`: any word, then the high word, as `float_at` has them.
use Rattle.tree_expr.specs.Reader.{float_at}
use Rattle.tree_expr.proofs.Steps.{next, last, stop}
use Rattle.tree_expr.proofs.Cursor.float.Goals as goal

pub returns-in_err-c : goal.returns-in_err-c
unfolding float_at
returns-in_err-c c = stop _ _ c.raw.ensures c.in_err-c.was c.from_residual.ensures.1

pub returns : goal.returns
unfolding float_at
returns c = next _ _ c.raw.ensures c.in_ok-c.was (λ a _. last _ _ c.high.ensures)
