-- `fold_values::int_op`: a product of two numbers in range stays within 64 bits. Assumes nothing.
use mathlib.Core.Path.{sym, ap, ◌∙◌, subst}
use lib.IntN.{ℤ, ◌*ℤ◌}
use mir.Syntax.{w64}
use mir.Val.{SFits}
use Rattle.base_numbers.specs.SignedLaws.{read, read2, mul_fits}
use Rattle.fold_values.specs.Fold.{int_op}
use Rattle.fold_values.specs.declared.Arith.{Arith}
use Rattle.fold_values.proofs.int_op.Goals as goal

pub overflow_mul-result : goal.overflow_mul-result
overflow_mul-result c = let s = c in subst (λ (z : ℤ). SFits w64 z) (sym (read2 ◌*ℤ◌ s.ranges.x s.ranges.y)) (mul_fits s.args.x s.args.y s.requires.in_range s.requires.in_range_2)

pub returns-in-Mul : goal.returns-in-Mul
returns-in-Mul c =
    let s = c in
    read (overflow_mul-result c) ∙ read2 ◌*ℤ◌ s.ranges.x s.ranges.y ∙ ap (λ (o : Arith). int_op o s.args.x s.args.y) (sym c.in-Mul.is)
