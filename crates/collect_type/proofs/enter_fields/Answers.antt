-- The loop of the second pass: what is left to enter does the same as all of it. Assumes nothing.
use mathlib.Core.Path.{refl, ◌∙◌}
use native.Mathlib.Omega.{arith}
use Rattle.collect_type.proofs.Marks.{marked_length}
use Rattle.collect_type.proofs.Entering.{entering_all, entering_some, entering_name, entering_next, entering_done}
use Rattle.collect_type.proofs.enter_fields.Goals as goal

pub loop-init : goal.loop-init
loop-init c = (refl, refl, entering_all c.requires.0 c.requires.2)

pub field_at-f-requires : goal.field_at-f-requires
field_at-f-requires c = entering_some c.requires.1 c.loop.invariant.2 c.loop-test.true

pub check_field-told-requires : goal.check_field-told-requires
check_field-told-requires c = omega (arith, entering_name c.requires.1 c.loop.invariant.2 c.loop-test.true _ c.field_at-f.ensures, c.loop.invariant.1, c.requires.2.long)

pub loop-preserved : goal.loop-preserved
loop-preserved c = (c.keep-c.auto.b ∙ c.loop.invariant.0, marked_length c.check_field-told.ensures ∙ c.loop.invariant.1, entering_next c.loop.invariant.2 c.loop-test.true _ c.field_at-f.ensures (omega (arith, entering_name c.requires.1 c.loop.invariant.2 c.loop-test.true _ c.field_at-f.ensures, c.loop.invariant.1, c.requires.2.long)) _ c.check_field-told.ensures c.keep-c.ensures)

pub returns : goal.returns
returns c = entering_done c.loop.invariant.2 (λ h. omega (arith, h, c.loop-test.false))
