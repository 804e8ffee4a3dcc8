-- `erased_right`: the names left, none below `low`, decide. Assumes nothing.
use Rattle.std.proofs.Common.{sym, ◌∙◌, arith}
use lib.ListN.{get_or-eq_default}
use Rattle.entry_read.proofs.Laws.{erased_none, erased_low, erased_not, erased_next}
use Rattle.entry_read.proofs.erased_right.Goals as goal
use Rattle.entry_read.proofs.erased_right.Goals.{then-e-low-via-then-e-low, then-e-low-via-else-e-low+then-names-e, then-e-low-via-else-e-low+else-names-e+then-names-e-ne1}

pub returns-then-e-low : goal.returns-then-e-low
returns-then-e-low c = elim c.then-e-low.branch [
  | then-e-low-via-then-e-low w ↦ sym (c.loop-name.invariant ∙ erased_low c.args.names.now c.args.erased.now c.loop-name.low c.loop-name.name-index c.loop-name-test.true w.if-e-low.true)
  | then-e-low-via-else-e-low+then-names-e w ↦ sym (c.loop-name.invariant ∙ erased_not c.args.names.now c.args.erased.now c.loop-name.low c.loop-name.name-index c.loop-name-test.true w.if-e-low.false (λ h. omega (arith, get_or-eq_default c.args.names.now 0 w.if-names-e.true)))
  | then-e-low-via-else-e-low+else-names-e+then-names-e-ne1 w ↦ sym (c.loop-name.invariant ∙ erased_not c.args.names.now c.args.erased.now c.loop-name.low c.loop-name.name-index c.loop-name-test.true w.if-e-low.false w.if-names-e-ne1.true)
]

pub loop-name-preserved : goal.loop-name-preserved
loop-name-preserved c = c.loop-name.invariant ∙ erased_next c.args.names.now c.args.erased.now c.loop-name.low c.loop-name.name-index (omega arith) (omega arith) (omega arith)

pub returns : goal.returns
returns c = sym (c.loop-name.invariant ∙ erased_none c.args.names.now c.args.erased.now c.loop-name.low c.loop-name.name-index (omega arith))
