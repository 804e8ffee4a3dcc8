-- The loop goes past what says nothing. Assumes nothing.
use Rattle.collect_scan.proofs.Passing.{passes_then, pass, some_on}
use Rattle.collect_scan.proofs.ahead.Goals as goal

pub leaves-at-requires-in-loop-at : goal.leaves-at-requires-in-loop-at
leaves-at-requires-in-loop-at c = some_on (some_on c.requires c.loop-at.invariant) (pass c.loop-at-test.true c.quiet.ensures c.in-Some.is)

pub loop-at-preserved : goal.loop-at-preserved
loop-at-preserved c = passes_then c.loop-at.invariant (passes_then (pass c.loop-at-test.true c.quiet.ensures c.in-Some.is) c.leaves-at-in-loop-at.ensures)
