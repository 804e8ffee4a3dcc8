-- `tree_stmt::stmt` meets its contract: a statement is the field number 10. Assumes nothing.
use Rattle.tree_stmt.proofs.Frames.{stmt_is}
use Rattle.tree_stmt.proofs.stmt.Goals as goal

pub returns : goal.returns
returns c = stmt_is _ _ _ _ _ c.run.ensures.0 c.one_field.ensures
