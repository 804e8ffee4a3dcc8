-- `arrays`: at each turn no more are counted than parameters were read. Assumes nothing.
use native.Mathlib.Omega.{arith}
use Rattle.collect_procedure.proofs.Walk.{walk_place, walk_next}
use Rattle.collect_procedure.proofs.Reading.{proc_params}
use Rattle.collect_procedure.proofs.arrays.Goals as goal

pub param-q-requires : goal.param-q-requires
param-q-requires c = walk_place c.loop.invariant.1 c.loop-test.true (proc_params c.requires)

pub loop-preserved : goal.loop-preserved
loop-preserved c =
    (omega (arith, c.bit-n.ensures.small, c.loop.invariant.0), walk_next c.loop.invariant.1 _ c.loop-test.true c.param-q.ensures (λ done p l o x. tt))
