-- The loop goes past one leaf after the other. Assumes nothing.
use native.Mathlib.Omega.{arith}
use Rattle.collect_scan.proofs.Passing.{passes_then, pass_single, idle_low}
use Rattle.collect_scan.proofs.leaves.Goals as goal

pub loop-at-preserved : goal.loop-at-preserved
loop-at-preserved c = passes_then c.loop-at.invariant (pass_single c.loop-at-test.true (λ l u. omega arith) (idle_low (omega arith)))
