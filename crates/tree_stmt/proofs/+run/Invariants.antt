-- What falls from call to call, and what the loop keeps.
use Prim.Native.Nat.{◌+◌, ◌-◌, ◌*◌}
use lib.ListN.{length}
use Rattle.tree_stmt.proofs.Machine.{size_f, on_stack, weight, Held}
use Rattle.tree_stmt.proofs.Memo.{Memo}
use Rattle.tree_stmt.proofs.+run.Given as goal

abbrev pub decreases-run : goal.decreases-run
decreases-run l = (length l.words.now - l.from) * 1099511627776 + size_f l.f

abbrev pub invariant-loop-cur : goal.invariant-loop-cur
invariant-loop-cur l =
    Held l.words l.names.marks.now l.names.count l.initial.cur l.initial.at l.stack l.sp l.at l.cur × Memo l.words l.names.marks.now l.names.count l.initial.memo l.memo

abbrev pub decreases-loop-cur : goal.decreases-loop-cur
decreases-loop-cur l =
    weight l.words l.names.marks.now l.names.count (on_stack l.stack) l.sp l.cur l.at
