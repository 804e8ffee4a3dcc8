-- A float that isn't finite isn't once it is narrowed; and the definitions by the tests that a program makes. Assumes nothing.
use Rattle.std.specs.Prelude.{◌≡◌, refl, true, false, Err, Option, Some, None, ℕ, max, ℤ, pos, negsuc, FitsSigned}
use Rattle.std.specs.Int.{w64}
use Rattle.std.proofs.Common.{sym, ap, arith}
use mir.Val.{of_z}
use borrow.Author.Tests.{eq-eqb}
use Rattle.std.specs.Float.Ieee as Ieee
use Rattle.std.specs.Float.Ieee.{nan}
use Rattle.std.specs.Float.{inf, fin}
use Rattle.std.specs.Float.Ieee.Scale.{finite}
use Rattle.base_numbers.specs.Numbers.{narrowed}
use Rattle.base_numbers.specs.SignedLaws.{never}
use Rattle.fold_values.specs.Fold.{rank_of, as_f64, int_of, is_zero, single_fold, int_op, float_op, at_rank, arith_of, of_wholes}
use Rattle.fold_values.specs.declared.Value.{Value}
use Rattle.fold_values.specs.declared.Arith.{Arith}
use Rattle.fold_values.specs.declared.Part.{Part}
use Rattle.fold_values.specs.declared.Unfolded.TheVariants.{Overflow}

-- so a Single overflows there
pub not_finite : (x : Ieee.Float) → finite x ≡ false → single_fold x ≡ Err Overflow
unfolding narrowed
not_finite nan e = refl
not_finite (inf s) e = refl
not_finite (fin s m k) e = never (sym e)

-- a machine word 0 is the number 0
pub is_zero_lem : (y : ℤ) → FitsSigned w64 y → of_z w64 y ≡ 0 → is_zero y ≡ true
is_zero_lem (pos n) f e = eq-eqb n 0 e
is_zero_lem (negsuc n) f e = let h = f.sfits in absurd (omega arith)

-- the operation in the type of the higher rank n
pub ranked : (op : Arith) (l r : Value) (n : ℕ) → max (rank_of l) (rank_of r) ≡ n → arith_of op l r ≡ at_rank n (int_op op (int_of l) (int_of r)) (float_op op (as_f64 l) (as_f64 r))
unfolding arith_of
ranked op l r n e = ap (λ (k : ℕ). at_rank k (int_op op (int_of l) (int_of r)) (float_op op (as_f64 l) (as_f64 r))) e

-- a left operand that is out overflows
pub out_left : (p : Part) (b : Option ℤ) → Err Overflow ≡ of_wholes p None b
out_left p (Some y) = refl
out_left p None = refl
