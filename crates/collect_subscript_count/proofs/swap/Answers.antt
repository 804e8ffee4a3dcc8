-- SWAP from its parts. Assumes nothing.
use Rattle.collect_subscript_count.proofs.Statements.{swap_there, swap_next, swap_done}
use Rattle.collect_subscript_count.proofs.swap.Goals as goal

pub lvalue-next-requires : goal.lvalue-next-requires
lvalue-next-requires c = swap_there c.requires

pub lvalue-requires : goal.lvalue-requires
lvalue-requires c = swap_next c.requires c.lvalue-next.ensures

pub returns : goal.returns
returns c = swap_done c.requires c.lvalue-next.ensures c.lvalue.ensures
