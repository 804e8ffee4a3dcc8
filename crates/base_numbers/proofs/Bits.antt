-- An f64's fields, as its sign, its exponent and its significand. Assumes nothing.
use Rattle.std.proofs.Common.{◌≡◌, ℕ, zero, suc, ◌+◌, ◌*◌, ◌/◌, ◌%◌, ◌^◌, ◌<◌, Bool, true, false, cond, T, eqb, leb, sym, subst, lt_irrefl, arith, eqb→eq}
use lib.Dec.{not_T}
use lib.Ieee.{Float, nan, inf, binary64, odd, of_fields, of_bits, to_bits, fits}
use lib.Ieee.Bits.{of_bits-to_bits, cond_no}
use lib.Ieee.Exact.{HasValue, odd_sign}
use lib.Ieee.Scale.{finite}
use Rattle.base_numbers.specs.Numbers.{PartsOf}

-- the leading digit and the exponent, by the field
abbrev pub exp_of : ℕ → ℕ
exp_of zero = 0
exp_of (suc x) = x

-- the significand: with the leading digit, unless the field is 0
abbrev pub sig_of : ℕ → ℕ → ℕ
sig_of zero t = t
sig_of (suc x) t = 4503599627370496 + t

top_not : (s : Bool) (t x : ℕ) → suc x ≡ 2047 → T (finite (cond (eqb (suc x) 2047) (cond (eqb t 0) (inf s) nan) (odd 53 s (4503599627370496 + t) x 1074))) → ⊥
top_not s t x e f = go (eqb t 0) (subst (λ (y : ℕ). T (finite (cond (eqb y 2047) (cond (eqb t 0) (inf s) nan) (odd 53 s (4503599627370496 + t) x 1074)))) e f)
  where
    go : (b : Bool) → T (finite (cond b (inf s) nan)) → ⊥
    go true k = k
    go false k = k

-- a float of these fields has these parts
pub fields_parts : (s : Bool) (x t : ℕ) → x < 2048 → t < 2 ^ 52 → T (finite (of_fields binary64 s x t)) → PartsOf (of_fields binary64 s x t) s (exp_of x) (sig_of x t)
unfolding of_fields
fields_parts s zero t X H f = record { value = odd_sign 53 s t 0 1074; small = omega arith; lead = λ k. absurd (lt_irrefl 0 k); bound = omega arith }
fields_parts s (suc x) t X H f =
    let no : suc x ≡ 2047 → ⊥ = λ e. top_not s t x e f in
    let is : of_fields binary64 s (suc x) t ≡ odd 53 s (4503599627370496 + t) x 1074 =
    cond_no (eqb (suc x) 2047) (cond (eqb t 0) (inf s) nan) (odd 53 s (4503599627370496 + t) x 1074) (not_T (eqb (suc x) 2047) (λ (u : T (eqb (suc x) 2047)). no (eqb→eq (suc x) 2047 u))) in
    record {
      value = subst (λ (v : Float). HasValue v s ((4503599627370496 + t) * 2 ^ x) (2 ^ 1074)) (sym is) (odd_sign 53 s (4503599627370496 + t) x 1074);
      small = omega arith;
      lead = λ k. omega arith;
      bound = omega (arith, no);
    }

-- so has a float, by its 64 bits
pub bits_parts : (x : Float) → T (fits binary64 x) → T (finite x)
    → PartsOf x (leb 9223372036854775808 (to_bits binary64 x)) (exp_of (to_bits binary64 x % 9223372036854775808 / 4503599627370496)) (sig_of (to_bits binary64 x % 9223372036854775808 / 4503599627370496) (to_bits binary64 x % 4503599627370496))
bits_parts x ok f =
    let b = to_bits binary64 x in
    let is : of_fields binary64 (leb 9223372036854775808 b) (b % 9223372036854775808 / 4503599627370496) (b % 4503599627370496) ≡ x = unfold of_bits in of_bits-to_bits binary64 x ok in
    subst (λ (v : Float). PartsOf v (leb 9223372036854775808 b) (exp_of (b % 9223372036854775808 / 4503599627370496)) (sig_of (b % 9223372036854775808 / 4503599627370496) (b % 4503599627370496))) is
    (fields_parts (leb 9223372036854775808 b) (b % 9223372036854775808 / 4503599627370496) (b % 4503599627370496) (omega arith) (omega arith)
    (subst (λ (v : Float). T (finite v)) (sym is) f))
