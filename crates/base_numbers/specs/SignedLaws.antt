-- Signed 64-bit numbers: what the machine reads back, how large a sum, a difference, a product, a quotient and a negative are, and a range's two tests.
use Rattle.std.specs.Prelude.{◌≡◌, ℕ, zero, suc, ◌+◌, ◌-◌, ◌*◌, ◌/◌, ◌%◌, ◌^◌, ◌<◌, ◌≤◌, Bool, true, false, cond, T, ℤ, pos, negsuc, ◌+ℤ◌, ◌-ℤ◌, ◌*ℤ◌, neg_ℤ, FitsSigned, int_div, int_le, int_lt, int_rem, nat_lt, unsigned_abs, refl}
use Rattle.std.proofs.Common.{sym, ap, ◌∙◌, subst, le_refl, le_trans, le_of_eq, mul-le-mul_left, mul-le-mul_right, lt_of_le_of_lt, div-le_self, arith, ltb-true, ltb-false, lt-ltb, le-ltb, ltb→lt}
use Rattle.std.proofs.Math.Nat.{mod-le}
use Rattle.std.proofs.Math.Dec.{leb-suc-suc}
use Rattle.std.proofs.Math.IntN.{sub_ℕ, +ℤ_idl}
use Rattle.std.specs.Int.Signed.{mag}
use Rattle.std.specs.Int.{w64}
use mir.Val.{to_z, of_z, sel}
use Rattle.std.proofs.lemmas.Int.{to_z-of_z}

-- false is not true
pub never : {X : Type 0} → false ≡ true → X
never e = absurd (subst T (sym e) tt)

-- ---- what is read back
-- a number that fits is read back as itself
pub read : {z : ℤ} → FitsSigned w64 z → to_z w64 (of_z w64 z) ≡ z
read {z} f = to_z-of_z w64 z f

-- two numbers that fit, under an operation
pub read2 : {X : Type 0} (op : ℤ → ℤ → X) {x y : ℤ} → FitsSigned w64 x → FitsSigned w64 y → op (to_z w64 (of_z w64 x)) (to_z w64 (of_z w64 y)) ≡ op x y
read2 op {x} {y} f g = λ i. op (to_z-of_z w64 x f i) (to_z-of_z w64 y g i)

-- a word below 2 ^ 63 is read as itself
pub to_z_small : (n : ℕ) → n < 2 ^ 63 → to_z w64 n ≡ pos n
to_z_small n h = ap (λ (b : Bool). sel b (pos n) (negsuc (2 ^ 64 - suc n))) (lt-ltb n (2 ^ 63) h)

-- ---- how large
-- what the range's test looks at is at most the magnitude
pub mag_le : (z : ℤ) → mag z ≤ unsigned_abs z
mag_le (pos n) = le_refl n
mag_le (negsuc n) = omega arith

-- a number and its negative have the same magnitude
pub abs_neg : (z : ℤ) → unsigned_abs (neg_ℤ z) ≡ unsigned_abs z
abs_neg (pos zero) = refl
abs_neg (pos (suc n)) = refl
abs_neg (negsuc n) = refl

abs_sub : (a b : ℕ) → unsigned_abs (sub_ℕ a b) ≤ a + b
abs_sub a b = go (nat_lt a b) (ltb→lt a b)
  where
    go : (t : Bool) → (T t → a < b) → unsigned_abs (cond t (negsuc (b - suc a)) (pos (a - b))) ≤ a + b
    go true h = let k = h tt in omega arith
    go false h = omega arith

-- a sum has at most the magnitudes' sum
pub abs_add : (x y : ℤ) → unsigned_abs (x +ℤ y) ≤ unsigned_abs x + unsigned_abs y
abs_add (pos a) (pos b) = le_refl (a + b)
abs_add (pos a) (negsuc b) = abs_sub a (suc b)
abs_add (negsuc a) (pos b) = le_trans (abs_sub b (suc a)) (omega arith)
abs_add (negsuc a) (negsuc b) = omega arith

-- a product has the magnitudes' product
pub abs_mul : (x y : ℤ) → unsigned_abs (x *ℤ y) ≡ unsigned_abs x * unsigned_abs y
abs_mul (pos a) (pos b) = refl
abs_mul (pos a) (negsuc b) = abs_neg (pos (a * suc b))
abs_mul (negsuc a) (pos b) = abs_neg (pos (suc a * b))
abs_mul (negsuc a) (negsuc b) = refl

-- a magnitude of at most k fits signed 64 bits where k is below 2 ^ 63
pub sfits_abs : (z : ℤ) (k : ℕ) → unsigned_abs z ≤ k → k < 2 ^ 63 → FitsSigned w64 z
sfits_abs z k h l = record { sfits = lt_of_le_of_lt (le_trans (mag_le z) h) l }

module _ (x y : ℤ) (hx : unsigned_abs x ≤ 2147483648) (hy : unsigned_abs y ≤ 2147483648) where
  -- of two numbers of at most 2 ^ 31 the sum fits
  pub add_fits : FitsSigned w64 (x +ℤ y)
  add_fits = sfits_abs (x +ℤ y) 4294967296 (le_trans (abs_add x y) (omega arith)) (omega arith)

  -- so does the difference
  pub sub_fits : FitsSigned w64 (x -ℤ y)
  sub_fits = let e = abs_neg y in sfits_abs (x -ℤ y) 4294967296 (le_trans (abs_add x (neg_ℤ y)) (omega arith)) (omega arith)

  -- and the product
  pub mul_fits : FitsSigned w64 (x *ℤ y)
  mul_fits =
      sfits_abs (x *ℤ y) 4611686018427387904
      (le_trans (le_of_eq (abs_mul x y)) (le_trans (mul-le-mul_right (unsigned_abs y) hx) (mul-le-mul_left 2147483648 hy))) (omega arith)

-- ---- a range from -(k + 1) to k
-- below -(k + 1): out of the range
pub below_range : (k : ℕ) (z : ℤ) → int_lt z (negsuc k) ≡ true → false ≡ nat_lt (mag z) (suc k)
below_range k (pos a) e = never e
below_range k (negsuc a) e = sym (le-ltb a (suc k) (ltb-true k a e))

-- not below -(k + 1): at most k exactly where the range's one test says so
pub in_range : (k : ℕ) (z : ℤ) → int_lt z (negsuc k) ≡ false → int_le z (pos k) ≡ nat_lt (mag z) (suc k)
in_range k (pos a) e = sym (leb-suc-suc a k)
in_range k (negsuc a) e = let h : a ≤ k = ltb-false k a e in sym (lt-ltb a (suc k) (omega arith))

-- ---- quotient and remainder
-- a quotient is no larger than its dividend
pub abs_quot : (x y : ℤ) → unsigned_abs (int_div x y) ≤ unsigned_abs x
abs_quot (pos a) (pos b) = div-le_self a b
abs_quot (pos a) (negsuc b) = le_trans (le_of_eq (abs_neg (pos (a / suc b)))) (div-le_self a (suc b))
abs_quot (negsuc a) (pos b) = le_trans (le_of_eq (abs_neg (pos (suc a / b)))) (div-le_self (suc a) b)
abs_quot (negsuc a) (negsuc b) = div-le_self (suc a) (suc b)

-- a remainder is no larger than its dividend
pub abs_rem : (x y : ℤ) → unsigned_abs (int_rem x y) ≤ unsigned_abs x
abs_rem (pos a) y = mod-le a (unsigned_abs y)
abs_rem (negsuc a) y = le_trans (le_of_eq (abs_neg (pos (suc a % unsigned_abs y)))) (mod-le (suc a) (unsigned_abs y))

-- ---- 0 - x
-- it is the negative of x
pub minus_is : (x : ℤ) → pos 0 -ℤ x ≡ neg_ℤ x
minus_is x = +ℤ_idl (neg_ℤ x)

-- 0 - x fits where x has a magnitude of at most k, below 2 ^ 63
pub minus_fits : (x : ℤ) (k : ℕ) → unsigned_abs x ≤ k → k < 2 ^ 63 → FitsSigned w64 (pos 0 -ℤ x)
minus_fits x k h l = sfits_abs (pos 0 -ℤ x) k (le_trans (le_of_eq (ap unsigned_abs (minus_is x) ∙ abs_neg x)) h) l
