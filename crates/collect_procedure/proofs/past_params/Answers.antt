-- `past_params`: at each turn those that are left stand at the place. Assumes nothing.
use Rattle.collect_procedure.proofs.Walk.{walk_place, walk_next, walk_at}
use Rattle.collect_procedure.proofs.past_params.Goals as goal

pub param-at-requires : goal.param-at-requires
param-at-requires c = walk_place c.loop.invariant c.loop-test.true c.requires

pub loop-preserved : goal.loop-preserved
loop-preserved c = walk_next c.loop.invariant _ c.loop-test.true c.param-at.ensures (λ done p l o x. tt)

pub returns : goal.returns
returns c = walk_at c.loop.invariant c.loop-test.false
