-- `recall`: what a slot tells, of a memo that has one. Assumes nothing.
use Rattle.std.proofs.lemmas.Option.{IfSome_then}
use Rattle.tree_stmt.proofs.Memo.{recalled_slot}
use Rattle.tree_stmt.proofs.recall.Goals as goal

pub returns : goal.returns
returns c = IfSome_then _ c.slot.ensures (λ r h. recalled_slot _ _ _ _ h)
