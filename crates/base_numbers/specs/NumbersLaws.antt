-- What users of the conversions rest on: which floats are finite, that whole numbers below 2 ^ 53 are floats exactly, and which two words are a finite float's.
use Rattle.std.specs.Prelude.{◌≡◌, ℕ, zero, suc, ◌+◌, ◌-◌, ◌*◌, ◌/◌, ◌%◌, ◌^◌, ◌<◌, ◌≤◌, Bool, true, false, cond, not, T, ℤ, pos, negsuc, ◌+ℤ◌, ◌==◌, int_lt, unsigned_abs, refl, Float, Option, Some, None}
use Rattle.std.proofs.Common.{sym, ap, ◌∙◌, subst, le_trans, le_of_eq, lt_of_lt_of_le, mul-lt-mul_of_pos_right, mul-one, arith, ltb-true, le-ltb, ltb→lt, pow-add, pow_pos, pow_mono}
use Rattle.std.specs.Int.Signed.{non_neg}
use Rattle.std.specs.Float.{nan, inf, fin, binary64}
use Rattle.std.specs.Float.Ieee.{odd, of_fields, of_bits, of_int, is_nan, round}
use Rattle.std.specs.Float.Ieee.Exact.{HasValue, round_exact}
use Rattle.std.specs.Float.Ieee.Scale.{finite}
use Rattle.base_numbers.specs.declared.Halves.{Halves}
use Rattle.base_numbers.specs.Numbers.{within, whole_of, long_of, pick_whole, double_of, of_words, bits_of}

-- ---- finite floats
-- a float that has a value is finite
pub has_finite : (x : Float) (s : Bool) (a c : ℕ) → HasValue x s a c → T (finite x)
has_finite nan s a c v = absurd v
has_finite (inf t) s a c v = absurd v
has_finite (fin t m e) s a c v = tt

-- a finite float is no NaN
pub no_nan : (x : Float) → T (finite x) → T (not (is_nan x))
unfolding is_nan
no_nan nan t = t
no_nan (inf s) t = tt
no_nan (fin s m e) t = tt

-- ---- a whole number below 2 ^ 53 is a float exactly
round_whole : (s : Bool) (n : ℕ) → n < 2 ^ 53 → HasValue (round binary64 s n 1) s n 1
round_whole s n h =
    round_exact binary64 s n 1 n 1074 (omega arith) h
    (lt_of_lt_of_le (mul-lt-mul_of_pos_right h (pow_pos 1074)) (le_trans (le_of_eq (sym (pow-add 2 53 1074))) (pow_mono {i = 1127} {j = 2098} (omega arith))))
    (sym (mul-one (n * 2 ^ 1074)))

-- a whole number below 2 ^ 53 either way is its float's value
pub double_exact : (z : ℤ) → unsigned_abs z < 2 ^ 53 → HasValue (double_of z) (not (non_neg z)) (unsigned_abs z) 1
unfolding of_int
double_exact (pos n) h = round_whole false n h
double_exact (negsuc n) h = round_whole true (suc n) h

-- and this float is finite
pub double_finite : (z : ℤ) → unsigned_abs z < 2 ^ 53 → T (finite (double_of z))
double_finite z h = has_finite (double_of z) (not (non_neg z)) (unsigned_abs z) 1 (double_exact z h)

-- ---- a whole number within 31 bits, and one that rounding gave
-- within 31 bits it is from -2147483648 to 2147483648
pub within_abs : (z : ℤ) → T (within 31 z) → unsigned_abs z ≤ 2147483648
within_abs (pos n) t = let h = ltb→lt n 2147483648 t in omega arith
within_abs (negsuc n) t = ltb→lt n 2147483648 t

-- a whole number that was rounded is from -2147483648 to 2147483648
abbrev pub Small : Option ℤ → Type 0
Small (Some z) = unsigned_abs z ≤ 2147483648
Small None = Unit {0}

-- what `long_of` gives is so
pub long_small : (h : Halves) (x : Float) → Small (long_of h x)
long_small h x = go (within 31 (whole_of h x)) (within_abs (whole_of h x))
  where
    go : (b : Bool) → (T b → unsigned_abs (whole_of h x) ≤ 2147483648) → Small (pick_whole b (Some (whole_of h x)) None)
    go true k = k tt
    go false k = tt

-- ---- two words are a finite float's where the exponent's field of the high one isn't all ones
odd_finite : (d : ℕ) (s : Bool) (q k l : ℕ) → true ≡ finite (odd d s q k l)
unfolding odd
odd_finite d s zero k l = refl
odd_finite d s (suc q) k l = refl

fields_finite : (s : Bool) (x t : ℕ) → not (x == 2047) ≡ finite (of_fields binary64 s x t)
unfolding of_fields
fields_finite s zero t = odd_finite 53 s t 0 1074
fields_finite s (suc x) t = go (suc x == 2047) (t == 0)
  where
    go : (a b : Bool) → not a ≡ finite (cond a (cond b (inf s) nan) (odd 53 s (4503599627370496 + t) x 1074))
    go true true = refl
    go true false = refl
    go false b = odd_finite 53 s (4503599627370496 + t) x 1074

field_is : (low high : ℕ) → low < 4294967296 → high < 4294967296 → high / 1048576 % 2048 ≡ (high * 4294967296 + low) % 9223372036854775808 / 4503599627370496
field_is low high h k = omega arith

-- two words are a finite float's exactly where the high one's exponent isn't all ones
pub words_finite : (low high : ℕ) → low < 4294967296 → high < 4294967296 → not (high / 1048576 % 2048 == 2047) ≡ finite (of_words low high)
unfolding of_bits
words_finite low high h k =
    ap (λ (f : ℕ). not (f == 2047)) (field_is low high h k)
    ∙ fields_finite _ ((high * 4294967296 + low) % 9223372036854775808 / 4503599627370496) ((high * 4294967296 + low) % 4503599627370496)

-- ---- a whole number's words
-- of a negative number the low word is the number plus 2 ^ 32
pub neg_low : (z : ℤ) → unsigned_abs z < 4294967296 → int_lt z (pos 0) ≡ true → z +ℤ pos 4294967296 ≡ pos (bits_of z % 4294967296)
neg_low (pos n) h e = absurd (omega (arith, ltb-true n 0 e))
neg_low (negsuc n) h e =
    ap (λ (b : Bool). cond b (negsuc (suc n - suc 4294967296)) (pos (4294967296 - suc n))) (le-ltb 4294967296 (suc n) (omega arith)) ∙ ap pos (omega arith)

-- a negative number's high word is all ones
pub neg_high : (z : ℤ) → unsigned_abs z < 4294967296 → int_lt z (pos 0) ≡ true → 4294967295 ≡ bits_of z / 4294967296
neg_high (pos n) h e = absurd (omega (arith, ltb-true n 0 e))
neg_high (negsuc n) h e = omega arith

-- of one that isn't negative the low word is the number, the high word 0
pub pos_words : (z : ℤ) → unsigned_abs z < 4294967296 → int_lt z (pos 0) ≡ false → (z ≡ pos (bits_of z % 4294967296)) × (0 ≡ bits_of z / 4294967296)
pos_words (pos n) h e = (ap pos (omega arith), omega arith)
pos_words (negsuc n) h e = absurd (subst T e tt)
