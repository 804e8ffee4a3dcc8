-- A mark with one more, in its four cases. Assumes nothing.
use Rattle.collect_shared_static.proofs.Laws.{marked_array, marked_new_array, marked_variable, marked_new_variable}
use Rattle.collect_shared_static.proofs.marked.Goals as goal

pub returns-then-mark-ge2 : goal.returns-then-mark-ge2
returns-then-mark-ge2 c = rw c.if-array.true (marked_array c.args.mark c.if-mark-ge2.true)

pub returns-else-mark-ge2 : goal.returns-else-mark-ge2
returns-else-mark-ge2 c = rw c.if-array.true (marked_new_array c.args.mark c.if-mark-ge2.false)

pub returns-then-mark-eq1 : goal.returns-then-mark-eq1
returns-then-mark-eq1 c = rw c.if-array.false (marked_variable c.args.mark c.if-mark-eq1.true)

pub returns-else-mark-eq1 : goal.returns-else-mark-eq1
returns-else-mark-eq1 c = rw c.if-array.false (marked_new_variable c.args.mark c.if-mark-eq1.false)
