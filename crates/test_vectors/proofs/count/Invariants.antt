-- `count`: no more lines are right than there are, and no more of them were counted than were read.
use Rattle.std.proofs.Common.{◌≤◌, length}
use Rattle.test_vectors.proofs.count.Given as goal

abbrev pub invariant-loop-line : goal.invariant-loop-line
invariant-loop-line l = record {
  can_next : (goal.iterator-loop-line).can_next l.line-iterator;
  finite : (goal.iterator-loop-line).is_finite l.line-iterator;
  right_few : l.score.right ≤ l.score.all;
  all_few : l.score.all ≤ length l.yielded;
}
