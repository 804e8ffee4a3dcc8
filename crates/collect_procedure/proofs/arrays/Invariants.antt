-- `arrays`: at each turn no more are counted than parameters were read. Assumes nothing.
use Prim.Native.Nat.{◌≤◌}
use Rattle.collect_procedure.proofs.Walk.{Walked}
use Rattle.collect_procedure.proofs.arrays.Given as goal

abbrev pub invariant-loop : goal.invariant-loop
invariant-loop l = (l.n ≤ l.counter) × Walked (λ ps. Unit {0}) l.words l.fn.p.params l.fn.p.count l.at l.counter
