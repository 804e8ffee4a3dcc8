-- A float as the nearest whole number, from its parts. Assumes nothing.
use Rattle.std.proofs.Common.{◌≡◌, ℕ, zero, suc, ◌+◌, ◌-◌, ◌*◌, ◌^◌, ◌<◌, ◌≤◌, Bool, true, false, ℤ, sym, refl, ap, ◌∙◌, le_trans, mul_assoc, arith, pow_pos, pow-add, le-ltb, lt-ltb}
use lib.Ieee.{Float, nan, inf, fin, up, down}
use lib.Ieee.Fits.{down_pos}
use lib.Ieee.Exact.{HasValue}
use Rattle.base_numbers.specs.declared.Halves.{Halves}
use Rattle.base_numbers.specs.Numbers.{near, whole_of, signed, within, pick_whole, long_of, PartsOf}
use Rattle.base_numbers.proofs.Order.{near_same, near_ge}
use Rattle.base_numbers.proofs.Value.{quot_ge}
use Rattle.std.specs.Prelude.{Some, None}

-- of a value a / c
pub whole_value : (h : Halves) (x : Float) (s : Bool) (a c : ℕ) → 0 < c → HasValue x s a c → whole_of h x ≡ signed s (near h a c)
unfolding whole_of
whole_value h nan s a c C v = absurd v
whole_value h (inf t) s a c C v = absurd v
whole_value h (fin t m e) s a c C v =
    ap (λ (b : Bool). signed b (near h (m * up e) (down e))) v.0
    ∙ ap (λ (n : ℕ). signed s n) (near_same h (m * up e) (down e) a c (down_pos e) C v.1)

-- from its parts, up to an exponent of 1074: the significand over a power of two
pub whole_shift : (h : Halves) (x : Float) (s : Bool) (exp sig : ℕ) → exp ≤ 1074 → PartsOf x s exp sig → whole_of h x ≡ signed s (near h sig (2 ^ (1074 - exp)))
whole_shift h x s exp sig l p =
    whole_value h x s (sig * 2 ^ exp) (2 ^ 1074) (pow_pos 1074) p.value
    ∙ ap (λ (n : ℕ). signed s n)
    (near_same h (sig * 2 ^ exp) (2 ^ 1074) sig (2 ^ (1074 - exp)) (pow_pos 1074) (pow_pos (1074 - exp))
    (mul_assoc sig (2 ^ exp) (2 ^ (1074 - exp)) ∙ ap (λ (z : ℕ). sig * z) (sym (pow-add 2 exp (1074 - exp)) ∙ ap (λ (z : ℕ). 2 ^ z) (there exp 1074 l))))
  where
    there : (a b : ℕ) → a ≤ b → a + (b - a) ≡ b
    there a b k = omega arith

-- ---- the range
-- up to 2147483647 it is in
pub in_pos : (n : ℕ) → n ≤ 2147483647 → within 31 (signed false n) ≡ true
in_pos n h = lt-ltb n 2147483648 (omega arith)

-- above 2147483647 it is out
pub out_pos : (n : ℕ) → 2147483647 < n → within 31 (signed false n) ≡ false
out_pos n h = le-ltb n 2147483648 (omega arith)

-- down to -2147483648 it is in
pub in_neg : (n : ℕ) → n ≤ 2147483648 → within 31 (signed true n) ≡ true
in_neg zero h = refl
in_neg (suc n) h = lt-ltb n 2147483648 (omega arith)

-- below that it is out
pub out_neg : (n : ℕ) → 2147483648 < n → within 31 (signed true n) ≡ false
out_neg zero h = absurd (omega arith)
out_neg (suc n) h = le-ltb n 2147483648 (omega arith)

-- with a magnitude above 2147483648 it is out, whatever its sign
pub out_any : (s : Bool) (n : ℕ) → 2147483648 < n → within 31 (signed s n) ≡ false
out_any true n h = out_neg n h
out_any false n h = out_pos n (omega arith)

-- a whole number in the range is the answer
pub long_in : (h : Halves) (x : Float) (z : ℤ) → whole_of h x ≡ z → within 31 z ≡ true → Some z ≡ long_of h x
long_in h x z e w = sym (ap (λ (y : ℤ). pick_whole (within 31 y) (Some y) None) e ∙ ap (λ (b : Bool). pick_whole b (Some z) None) w)

-- one outside is None
pub long_out : (h : Halves) (x : Float) (z : ℤ) → whole_of h x ≡ z → within 31 z ≡ false → None ≡ long_of h x
long_out h x z e w = sym (ap (λ (y : ℤ). pick_whole (within 31 y) (Some y) None) e ∙ ap (λ (b : Bool). pick_whole b (Some z) None) w)

-- so is any float with an exponent above 1055
pub long_far : (h : Halves) (x : Float) (s : Bool) (exp sig : ℕ) → 1055 < exp → PartsOf x s exp sig → None ≡ long_of h x
long_far h x s exp sig l p =
    long_out h x (signed s (near h (sig * 2 ^ exp) (2 ^ 1074))) (whole_value h x s (sig * 2 ^ exp) (2 ^ 1074) (pow_pos 1074) p.value)
    (out_any s (near h (sig * 2 ^ exp) (2 ^ 1074))
    (far (near h (sig * 2 ^ exp) (2 ^ 1074)) (le_trans (quot_ge 32 52 1074 exp sig (omega arith) (p.lead (omega arith))) (near_ge h (sig * 2 ^ exp) (2 ^ 1074)))))
  where
    far : (n : ℕ) → 2 ^ 32 ≤ n → 2147483648 < n
    far n k = omega arith
