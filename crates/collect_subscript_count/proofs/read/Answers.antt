-- READ from its parts. Assumes nothing.
use native.Mathlib.Omega.{arith}
use Rattle.collect_subscript_count.proofs.Statements.{read_there, read_done}
use Rattle.collect_subscript_count.proofs.read.Goals as goal

pub lvalues-requires : goal.lvalues-requires
lvalues-requires c = (read_there c.requires, omega arith)

pub returns : goal.returns
returns c = read_done c.requires c.lvalues.ensures
