-- What folding gives, a CONST row may hold: every rule keeps `RowValue`. And what the program may count on in a good value.
use Rattle.std.specs.Prelude.{Bool, true, false, ◌||◌, ℕ, zero, suc, ◌≤◌, ◌<◌, ◌^◌, max, T, eqb, ℤ, pos, negsuc, neg_ℤ, nat_abs, Option, Some, None, Ok, Err}
use Rattle.std.proofs.Common.{zero-le, le_trans, le_of_eq, arith, ltb→lt}
use Rattle.std.specs.Float.Ieee as Ieee
use Rattle.std.specs.Float.Ieee.{nan, binary32, binary64, neg, fits}
use Rattle.std.specs.Float.{inf, fin}
use Rattle.std.specs.Float.Ieee.Fits.{round-fits, nan-fits, inf-fits, neg-fits, add-fits, sub-fits, mul-fits, div-fits, fits_widens}
use Rattle.std.specs.Float.Ieee.Scale.{finite}
use Rattle.base_words.specs.Word.{pick}
use Rattle.base_numbers.specs.Numbers.{narrowed, finite_to}
use Rattle.base_numbers.specs.NumbersLaws.{within_abs, double_finite}
use Rattle.base_numbers.specs.SignedLaws.{abs_neg}
use Rattle.fold_values.specs.declared.Value.{Value}
use Rattle.fold_values.specs.declared.Value.TheVariants.{Integer, Long, Single, Float, Text}
use Rattle.fold_values.specs.declared.Arith.{Arith}
use Rattle.fold_values.specs.declared.Arith.TheVariants.{Add, Sub, Mul}
use Rattle.fold_values.specs.declared.Part.{Part}
use Rattle.fold_values.specs.declared.Part.TheVariants.{Quotient, Remainder}
use Rattle.fold_values.specs.Value.{InRange, Good, Fold}
use Rattle.fold_values.specs.ValueLaws.{RowValue}
use Rattle.fold_values.specs.Fold.{GoodFold, in_integer, in_long, least_long, negated, negate_of, is_text, rank_of, as_f64, int_of, integer_fold, long_fold, single_fold, of_narrow, float_fold, zero_f64, div_of, rounded, part_of, is_zero, of_wholes, whole_div_of, int_op, float_op, at_rank, arith_of, op_of, binary_of}
use Rattle.fold_values.specs.declared.Unfolded.TheVariants.{Overflow, NotConstant}

-- an answer's value, where it has one, may stand in a row
abbrev pub RowFold : (strings : ℕ) → Fold → Type 0
RowFold n (Ok v) = RowValue n v
RowFold n (Err e) = Unit {0}

-- a value that may stand in a row is good
pub row_good : (n : ℕ) (f : Fold) → RowFold n f → GoodFold f
row_good n (Ok v) r = r.good
row_good n (Err e) r = tt

module _ (n : ℕ) where
  pick_row : (b : Bool) (f g : Fold) → (T b → RowFold n f) → RowFold n g → RowFold n (pick b f g)
  pick_row true f g h k = h tt
  pick_row false f g h k = k

  -- ---- results in the range of their type
  small : (z : ℤ) → T (in_integer z) → InRange z
  small (pos m) t = let h = ltb→lt m 32768 t in omega arith
  small (negsuc m) t = let h = ltb→lt m 32768 t in omega arith

  integer_row : (z : ℤ) → RowFold n (integer_fold z)
  integer_row z = pick_row (in_integer z) (Ok (Integer z)) (Err Overflow) (λ t. record { good = small z t; known = tt; fit = tt }) tt

  long_row : (z : ℤ) → RowFold n (long_fold z)
  long_row z = pick_row (in_long z) (Ok (Long z)) (Err Overflow) (λ t. record { good = within_abs z t; known = tt; fit = tt }) tt

  narrowed_fits : (x : Ieee.Float) → T (fits binary64 (narrowed x))
  unfolding narrowed
  narrowed_fits nan = nan-fits binary64
  narrowed_fits (inf s) = inf-fits binary64 s
  narrowed_fits (fin s m e) = fits_widens (narrowed (fin s m e)) (round-fits binary32 s _ _)

  finite_row : (x : Ieee.Float) → T (fits binary64 x) → RowFold n (of_narrow (finite_to x))
  finite_row nan f = tt
  finite_row (inf s) f = tt
  finite_row (fin s m e) f = record { good = tt; known = tt; fit = f }

  single_row : (x : Ieee.Float) → RowFold n (single_fold x)
  single_row x = finite_row (narrowed x) (narrowed_fits x)

  float_row : (x : Ieee.Float) → T (fits binary64 x) → RowFold n (float_fold x)
  float_row x f = pick_row (finite x) (Ok (Float x)) (Err Overflow) (λ t. record { good = t; known = tt; fit = f }) tt

  -- ---- the operators, in their order
  neg_finite : (x : Ieee.Float) → T (finite x) → T (finite (neg x))
  unfolding neg
  neg_finite nan t = t
  neg_finite (inf s) t = t
  neg_finite (fin s m e) t = tt

  neg_range : (z : ℤ) → InRange z → InRange (neg_ℤ z)
  neg_range z h = le_trans (le_of_eq (abs_neg z)) h

  negated_row : (v : Value) → RowValue n v → RowFold n (negated v)
  negated_row (Integer z) r = record { good = neg_range z r.good; known = tt; fit = tt }
  negated_row (Long z) r = pick_row (least_long z) (Err Overflow) (Ok (Long (neg_ℤ z))) (λ t. tt) (record { good = neg_range z r.good; known = tt; fit = tt })
  negated_row (Single x) r = record { good = neg_finite x r.good; known = tt; fit = neg-fits binary64 x r.fit }
  negated_row (Float x) r = record { good = neg_finite x r.good; known = tt; fit = neg-fits binary64 x r.fit }
  negated_row (Text t) r = tt

  -- what negating gives may stand in a row, if its operand may
  pub negate_row : (f : Fold) → RowFold n f → RowFold n (negate_of f)
  unfolding negate_of
  negate_row (Ok v) r = negated_row v r
  negate_row (Err e) r = tt

  div_row : (l r : Value) → RowFold n (div_of l r)
  unfolding div_of
  div_row l r =
      let q = Ieee.div binary64 (as_f64 l) (as_f64 r) in
      pick_row (zero_f64 (as_f64 r)) (Err NotConstant) (float_fold q) (λ t. tt) (float_row q (div-fits binary64 (as_f64 l) (as_f64 r)))

  wholes_row : (p : Part) (a b : (Option ℤ)) → RowFold n (of_wholes p a b)
  wholes_row p (Some x) (Some y) = pick_row (is_zero y) (Err NotConstant) (long_fold (part_of p x y)) (λ t. tt) (long_row (part_of p x y))
  wholes_row p (Some x) None = tt
  wholes_row p None (Some y) = tt
  wholes_row p None None = tt

  whole_row : (p : Part) (l r : Value) → RowFold n (whole_div_of p l r)
  unfolding whole_div_of
  whole_row p l r = wholes_row p (rounded l) (rounded r)

  op_fits : (op : Arith) (a b : Ieee.Float) → T (fits binary64 (float_op op a b))
  op_fits Add a b = add-fits binary64 a b
  op_fits Sub a b = sub-fits binary64 a b
  op_fits Mul a b = mul-fits binary64 a b

  rank_row : (k : ℕ) (z : ℤ) (x : Ieee.Float) → T (fits binary64 x) → RowFold n (at_rank k z x)
  rank_row zero z x f = integer_row z
  rank_row (suc zero) z x f = long_row z
  rank_row (suc (suc zero)) z x f = single_row x
  rank_row (suc (suc (suc k))) z x f = float_row x f

  arith_row : (op : Arith) (l r : Value) → RowFold n (arith_of op l r)
  unfolding arith_of
  arith_row op l r = rank_row (max (rank_of l) (rank_of r)) (int_op op (int_of l) (int_of r)) (float_op op (as_f64 l) (as_f64 r)) (op_fits op (as_f64 l) (as_f64 r))

  op_row : (op : ℕ) (l r : Value) → RowFold n (op_of op l r)
  unfolding op_of
  op_row op l r =
      pick_row (eqb op 0) (arith_of Add l r) _ (λ t. arith_row Add l r)
      (pick_row (eqb op 1) (arith_of Sub l r) _ (λ t. arith_row Sub l r)
      (pick_row (eqb op 2) (arith_of Mul l r) _ (λ t. arith_row Mul l r)
      (pick_row (eqb op 3) (div_of l r) _ (λ t. div_row l r)
      (pick_row (eqb op 4) (whole_div_of Quotient l r) _ (λ t. whole_row Quotient l r)
      (pick_row (eqb op 5) (whole_div_of Remainder l r) (Err NotConstant) (λ t. whole_row Remainder l r) tt)))))

  -- what a binary operator gives may stand in a row, whatever its operands fold to
  pub binary_row : (op : ℕ) (l r : Fold) → RowFold n (binary_of op l r)
  unfolding binary_of
  binary_row op (Ok l) (Ok r) = pick_row (is_text l || is_text r) (Err NotConstant) (op_of op l r) (λ t. tt) (op_row op l r)
  binary_row op (Ok l) (Err e) = tt
  binary_row op (Err e) r = tt

-- ---- a good value's numbers
-- its whole number is in range
pub good_int : (v : Value) → Good v → InRange (int_of v)
good_int (Integer z) h = h
good_int (Long z) h = h
good_int (Single x) h = zero-le
good_int (Float x) h = zero-le
good_int (Text t) h = zero-le

less : (m : ℕ) → m ≤ 2147483648 → m < 2 ^ 53
less m h = omega arith

-- its float is finite
pub good_float : (v : Value) → Good v → T (finite (as_f64 v))
good_float (Integer z) h = double_finite z (less (nat_abs z) h)
good_float (Long z) h = double_finite z (less (nat_abs z) h)
good_float (Single x) h = h
good_float (Float x) h = h
good_float (Text t) h = tt
