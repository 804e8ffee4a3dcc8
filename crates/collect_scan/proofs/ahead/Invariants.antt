-- The loop goes past what says nothing. Assumes nothing.
use Prim.Native.Nat.{◌-◌}
use Rattle.collect_scan.specs.Walk.{Passes}
use Rattle.collect_scan.proofs.ahead.Given as goal

abbrev pub invariant-loop-at : goal.invariant-loop-at
invariant-loop-at l = Passes l.words l.from l.at l.to

abbrev pub decreases-loop-at : goal.decreases-loop-at
decreases-loop-at l = l.to - l.at
