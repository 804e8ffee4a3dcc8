-- The loop goes past one leaf after the other. Assumes nothing.
use Rattle.collect_scan.specs.Walk.{Passes}
use Rattle.collect_scan.proofs.leaves.Given as goal

abbrev pub invariant-loop-at : goal.invariant-loop-at
invariant-loop-at l = Passes l.words l.from l.at l.to
