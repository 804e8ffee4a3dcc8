-- LET from its parts. Assumes nothing.
use Rattle.collect_subscript_count.proofs.Statements.{let_there, let_value, let_done}
use Rattle.collect_subscript_count.proofs.assigned.Goals as goal

pub indexed-next-requires : goal.indexed-next-requires
indexed-next-requires c = let_there c.requires

pub expr-requires : goal.expr-requires
expr-requires c = let_value c.requires c.indexed-next.ensures

pub returns : goal.returns
returns c = let_done c.requires c.indexed-next.ensures c.expr.ensures
