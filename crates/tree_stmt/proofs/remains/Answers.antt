-- `remains`: by what is left. Assumes nothing.
use Rattle.std.proofs.Common.{arith}
use Rattle.tree_stmt.specs.Frames.{over, more}
use Rattle.tree_stmt.proofs.remains.Goals as goal

pub returns-then-f-eq0-2 : goal.returns-then-f-eq0-2
returns-then-f-eq0-2 c = over (grind arith) (grind arith)

pub returns-else-f-eq0 : goal.returns-else-f-eq0
returns-else-f-eq0 c = more
