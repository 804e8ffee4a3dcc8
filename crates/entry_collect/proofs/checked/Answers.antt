-- A memo of zeros remembers nothing. Assumes nothing.
use Rattle.tree_stmt.specs.Memo.{blank}
use Rattle.entry_collect.proofs.checked.Goals as goal

pub noted-requires : goal.noted-requires
noted-requires c = blank _ _ _ 128
