-- `past`: the memo's answer, or the reader's. Assumes nothing.
use Rattle.tree_stmt.proofs.Memo.{past_recalled, past_read, past_failed}
use Rattle.tree_stmt.proofs.past.Goals as goal

pub returns-in-Some : goal.returns-in-Some
returns-in-Some c = past_recalled c.in-Some.ensures

pub returns-in-Ok : goal.returns-in-Ok
returns-in-Ok c = past_read _ c.stmt.ensures _ c.in-Ok.is

pub returns-in-Err : goal.returns-in-Err
returns-in-Err c = past_failed _ c.stmt.ensures c.in-Err.is
