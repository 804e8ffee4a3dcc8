-- `value`: by the kind of the head. Assumes nothing.
use native.Mathlib.Omega.{arith}
use Rattle.tree_expr.proofs.Steps.{body_16, body_17}
use Rattle.tree_stmt.proofs.Frames.{told_goes, goes_before, call_body, unary_body, binary_body, field_body, paren_body}
use Rattle.tree_stmt.proofs.value.Goals as goal

pub returns-in-16 : goal.returns-in-16
returns-in-16 c = λ at h. told_goes _ _ _ _ (body_16 _ _ _ _ _ c.in-16.is c.literal.ensures) c.told.ensures

pub returns-in-17 : goal.returns-in-17
returns-in-17 c = λ at h. told_goes _ _ _ _ (body_17 _ _ _ _ _ c.in-17.is c.name.ensures) c.told-in-17.ensures

pub returns-in-18 : goal.returns-in-18
returns-in-18 c = λ at h. goes_before _ _ _ (omega (arith, h)) (call_body _ _ _ _ _ _ c.in-18.is (c.call.ensures _))

pub returns-in-19 : goal.returns-in-19
returns-in-19 c = λ at h. goes_before _ _ _ (omega (arith, h)) (unary_body _ _ _ _ _ _ c.in-19.is (c.operator.ensures _ _))

pub returns-in-20 : goal.returns-in-20
returns-in-20 c = λ at h. goes_before _ _ _ (omega (arith, h)) (binary_body _ _ _ _ _ _ c.in-20.is (c.operator-in-20.ensures _ _))

pub returns-in-22 : goal.returns-in-22
returns-in-22 c = λ at h. field_body _ _ _ _ _ c.in-22.is c.one_field.ensures h c.requires.2

pub returns-in_default : goal.returns-in_default
returns-in_default c = λ at h. paren_body _ _ _ _ _ (grind arith) c.one_field-in_default.ensures h c.requires.2
