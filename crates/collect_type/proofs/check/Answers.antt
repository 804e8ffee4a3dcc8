-- The loop of the first pass: what is left to look at does the same as all of it. Assumes nothing.
use mathlib.Core.Path.{refl, ◌∙◌}
use native.Mathlib.Omega.{arith}
use Rattle.collect_type.proofs.Marks.{below_two, below_next, marked_length}
use Rattle.collect_type.proofs.Checking.{checking_all, checking_some, checking_name, checking_next, checking_done}
use Rattle.collect_type.proofs.check.Goals as goal

pub loop-init : goal.loop-init
loop-init c = (refl, refl, below_two c.requires.2, checking_all c.requires.0.1 c.requires.2)

pub field_at-f-requires : goal.field_at-f-requires
field_at-f-requires c = checking_some c.requires.1 c.loop.invariant.3 c.loop-test.true

pub check_field-told-requires : goal.check_field-told-requires
check_field-told-requires c = omega (arith, checking_name c.requires.1 c.loop.invariant.3 c.loop-test.true _ c.field_at-f.ensures, c.loop.invariant.2.long)

pub loop-preserved : goal.loop-preserved
loop-preserved c = (c.look-c.auto.d ∙ c.loop.invariant.0, marked_length c.check_field-told.ensures ∙ c.loop.invariant.1, below_next (omega arith) c.loop.invariant.2 c.check_field-told.ensures, checking_next c.loop.invariant.3 c.loop-test.true _ c.field_at-f.ensures (omega (arith, checking_name c.requires.1 c.loop.invariant.3 c.loop-test.true _ c.field_at-f.ensures, c.loop.invariant.2.long)) _ _ refl c.check_field-told.ensures c.look-c.ensures)

pub returns : goal.returns
returns c = (checking_done c.loop.invariant.3 (λ h. omega (arith, h, c.loop-test.false)), c.loop.invariant.2)
