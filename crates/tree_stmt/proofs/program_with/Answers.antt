-- `tree_stmt::program_with` meets its contract: the program is the field number 68. Assumes nothing.
use Rattle.tree_stmt.proofs.Frames.{program_is}
use Rattle.tree_stmt.proofs.program_with.Goals as goal

pub returns : goal.returns
returns c = (program_is _ _ _ c.run.ensures.0 c.one_field.ensures, c.run.ensures.1)
