-- A float at 32 bits, from its parts. Assumes nothing.
use Rattle.std.proofs.Common.{◌≡◌, ℕ, suc, ◌+◌, ◌-◌, ◌*◌, ◌/◌, ◌^◌, ◌<◌, ◌≤◌, Bool, true, false, cond, not, T, ltb, leb, ◌⊎◌, sym, refl, ap, ◌∙◌, subst, inl, inr, zero-le, le_trans, le_of_eq, lt_of_lt_of_le, lt_of_le_of_lt, mul-le-mul_right, mul_assoc, eq-or-lt_of_le, mul-lt-mul_of_pos_right, mul-pos, mul-one, not-le_of_lt, mul-div_cancel, arith, ltb→lt, leb→le, pow_pos, pow_mono, pow-add}
use lib.Dec.{not_T, nleb→lt}
use lib.Pow.{pow-lt}
use lib.Ieee.{Float, nan, inf, fin, binary32, up, down, size, units, round, to_bits, of_bits, fits}
use lib.Ieee.Digits.{size-le}
use lib.Ieee.Bits.{of_bits-to_bits, cond_no}
use lib.Ieee.Fits.{down_pos, round_is, round-fits, core}
use lib.Ieee.Exact.{HasValue, units_val}
use lib.Ieee.Nearest.{closest, closest_same}
use lib.Ieee.Scale.{round_same}
use Rattle.base_numbers.specs.declared.Halves.TheVariants.{Even}
use Rattle.base_numbers.specs.Numbers.{near, narrowed, finite_to, PartsOf}
use Rattle.base_numbers.proofs.Order.{near_even, near_le, near_ge}
use Rattle.base_numbers.proofs.Value.{pows, size_is, quot_ge, quot_lt}
use Rattle.std.specs.Prelude.{Some}

-- ---- of a value a / c
-- narrowed, it is the fraction rounded to 32 bits
pub narrowed_value : (x : Float) (s : Bool) (a c : ℕ) → 0 < c → HasValue x s a c → narrowed x ≡ round binary32 s a c
unfolding narrowed
narrowed_value nan s a c C v = absurd v
narrowed_value (inf t) s a c C v = absurd v
narrowed_value (fin t m e) s a c C v =
    ap (λ (b : Bool). round binary32 b (m * up e) (down e)) v.0 ∙ round_same binary32 s (m * up e) (down e) a c (down_pos e) C v.1

-- ---- how many digits are dropped
none_over : (z : ℕ) → z ≤ 24 → z - 24 ≡ 0
none_over z h = omega arith

dropped : (exp sig : ℕ) → sig < 2 ^ 53 → (0 < exp → 2 ^ 52 ≤ sig) → size (sig * 2 ^ exp * 2 ^ 149 / 2 ^ 1074) - 24 ≡ exp - 896
dropped exp sig small lead =
    ap (λ (n : ℕ). size (n / 2 ^ 1074) - 24) (mul_assoc sig (2 ^ exp) (2 ^ 149) ∙ ap (λ (z : ℕ). sig * z) (sym (pow-add 2 exp 149)))
    ∙ go (leb 896 exp) (leb→le 896 exp) (nleb→lt 896 exp)
  where
    high : 896 ≤ exp → size (sig * 2 ^ (exp + 149) / 2 ^ 1074) - 24 ≡ exp - 896
    high h =
        ap (λ (z : ℕ). z - 24) (size_is (exp - 873) (sig * 2 ^ (exp + 149) / 2 ^ 1074)
        (quot_ge (exp - 873) 52 1074 (exp + 149) sig (omega arith) (lead (omega arith)))
        (quot_lt (suc (exp - 873)) 53 1074 (exp + 149) sig (omega arith) small))
        ∙ omega arith

    less : exp < 896 → size (sig * 2 ^ (exp + 149) / 2 ^ 1074) - 24 ≡ exp - 896
    less h =
        none_over (size (sig * 2 ^ (exp + 149) / 2 ^ 1074)) (size-le (sig * 2 ^ (exp + 149) / 2 ^ 1074) 24 (quot_lt 24 53 1074 (exp + 149) sig (omega arith) small))
        ∙ omega arith

    go : (b : Bool) → (T b → 896 ≤ exp) → (T (not b) → exp < 896) → size (sig * 2 ^ (exp + 149) / 2 ^ 1074) - 24 ≡ exp - 896
    go true h k = high (h tt)
    go false h k = less (k tt)

-- ---- the digits that are kept, and the places that they stand at
-- the places
abbrev pub spare_of : ℕ → ℕ
spare_of exp = exp - 896

-- the digits: the significand rounded to them, half to even
abbrev pub kept_of : ℕ → ℕ → ℕ
kept_of exp sig = near Even sig (2 ^ (925 + spare_of exp - exp))

reach : (exp : ℕ) → exp ≤ 925 + (exp - 896)
reach exp = omega arith

line_up : (exp k : ℕ) → exp ≤ 925 + k → exp + 149 + (925 + k - exp) ≡ 1074 + k
line_up exp k h = omega arith

kept_is : (exp sig k : ℕ) → exp ≤ 925 + k → closest (sig * 2 ^ exp * 2 ^ 149) (2 ^ 1074 * 2 ^ k) ≡ closest sig (2 ^ (925 + k - exp))
kept_is exp sig k h =
    closest_same (sig * 2 ^ exp * 2 ^ 149) (2 ^ 1074 * 2 ^ k) sig (2 ^ (925 + k - exp)) (mul-pos (pow_pos 1074) (pow_pos k)) (pow_pos (925 + k - exp))
    (ap (λ (z : ℕ). z * 2 ^ (925 + k - exp)) (mul_assoc sig (2 ^ exp) (2 ^ 149))
    ∙ mul_assoc sig (2 ^ exp * 2 ^ 149) (2 ^ (925 + k - exp))
    ∙ ap (λ (z : ℕ). sig * z) (ap (λ (z : ℕ). z * 2 ^ (925 + k - exp)) (sym (pow-add 2 exp 149)) ∙ pows (exp + 149) (925 + k - exp) 1074 k (line_up exp k h)))

-- at 32 bits a float is these digits at these places
pub narrowed_is : (x : Float) (s : Bool) (exp sig : ℕ) → PartsOf x s exp sig → narrowed x ≡ units binary32 s (kept_of exp sig) (spare_of exp)
narrowed_is x s exp sig p =
    narrowed_value x s (sig * 2 ^ exp) (2 ^ 1074) (pow_pos 1074) p.value
    ∙ round_is binary32 s (sig * 2 ^ exp) (2 ^ 1074)
    ∙ ap (λ (k : ℕ). core binary32 s (sig * 2 ^ exp * 2 ^ 149) (2 ^ 1074) k) (dropped exp sig p.small p.lead)
    ∙ ap (λ (q : ℕ). units binary32 s q (exp - 896)) (kept_is exp sig (exp - 896) (reach exp) ∙ sym (near_even sig (2 ^ (925 + (exp - 896) - exp))))

-- ---- bounds on what is kept
-- at most 2 ^ 24
pub kept_le : (exp sig : ℕ) → sig < 2 ^ 53 → kept_of exp sig ≤ 2 ^ 24
kept_le exp sig h =
    le_trans (near_le Even sig (2 ^ (925 + (exp - 896) - exp)))
    (subst (λ (z : ℕ). z / 2 ^ (925 + (exp - 896) - exp) < 2 ^ 24) (mul-one sig) (quot_lt 24 53 (925 + (exp - 896) - exp) 0 sig (omega arith) h))

-- from an exponent of 897 on the leading digit is there
pub kept_ge : (exp sig : ℕ) → 0 < exp - 896 → (0 < exp → 2 ^ 52 ≤ sig) → 2 ^ 23 ≤ kept_of exp sig
kept_ge exp sig h lead =
    le_trans (subst (λ (z : ℕ). 2 ^ 23 ≤ z / 2 ^ (925 + (exp - 896) - exp)) (mul-one sig) (quot_ge 23 52 (925 + (exp - 896) - exp) 0 sig (omega arith) (lead (omega arith))))
    (near_ge Even sig (2 ^ (925 + (exp - 896) - exp)))

-- ---- too large
units_inf : (s : Bool) (q k : ℕ) → 2 ^ 277 ≤ q * 2 ^ k → units binary32 s q k ≡ inf s
unfolding units
units_inf s q k h = cond_no (ltb (q * 2 ^ k) (2 ^ 277)) _ (inf s) (not_T (ltb (q * 2 ^ k) (2 ^ 277)) (λ (u : T (ltb (q * 2 ^ k) (2 ^ 277))). not-le_of_lt (ltb→lt (q * 2 ^ k) (2 ^ 277) u) h))

large : (a q k : ℕ) → 277 ≤ a + k → 2 ^ a ≤ q → 2 ^ 277 ≤ q * 2 ^ k
large a q k h l = le_trans (pow_mono h) (le_trans (le_of_eq (pow-add 2 a k)) (mul-le-mul_right (2 ^ k) l))

over : (q k : ℕ) → q ≤ 2 ^ 24 → (0 < k → 2 ^ 23 ≤ q) → 2139095040 ≤ k * 8388608 + q → 2 ^ 277 ≤ q * 2 ^ k
over q k h l b = go (leb 254 k) (leb→le 254 k) (nleb→lt 254 k)
  where
    go : (t : Bool) → (T t → 254 ≤ k) → (T (not t) → k < 254) → 2 ^ 277 ≤ q * 2 ^ k
    go true u v = let w = u tt in large 23 q k (omega arith) (l (omega arith))
    go false u v = let w = v tt in large 24 q k (omega arith) (omega arith)

-- bits from those of an infinity on: it is an infinity
pub single_over : (x : Float) (s : Bool) (exp sig : ℕ) → PartsOf x s exp sig → 2139095040 ≤ spare_of exp * 8388608 + kept_of exp sig → narrowed x ≡ inf s
single_over x s exp sig p b =
    narrowed_is x s exp sig p
    ∙ units_inf s (kept_of exp sig) (spare_of exp) (over (kept_of exp sig) (spare_of exp) (kept_le exp sig p.small) (λ h. kept_ge exp sig h p.lead) b)

-- an exponent from 1150 on has such bits
pub far_over : (exp q : ℕ) → 1150 ≤ exp → (0 < exp - 896 → 2 ^ 23 ≤ q) → 2139095040 ≤ (exp - 896) * 8388608 + q
far_over exp q h l = let k : 8388608 ≤ q = l (omega arith) in omega arith

-- ---- not too large: the pattern
under : (q k : ℕ) → q ≤ 2 ^ 24 → (0 < k → 2 ^ 23 ≤ q) → k * 8388608 + q < 2139095040 → q * 2 ^ k < 2 ^ 277
under q k h l b = go (eq-or-lt_of_le h)
  where
    room : (a j : ℕ) → a + k ≤ 277 → q < 2 ^ a → q * 2 ^ k < 2 ^ 277
    room a j r s = lt_of_lt_of_le (mul-lt-mul_of_pos_right s (pow_pos k)) (le_trans (le_of_eq (sym (pow-add 2 a k))) (pow_mono r))

    few : q < 2 ^ 24 → k ≤ 253
    few s = elim (eq-or-lt_of_le (zero-le {n = k})) [
      | inl e ↦ omega arith
      | inr p ↦ let w = l p in omega arith
    ]

    go : (q ≡ 2 ^ 24) ⊎ (q < 2 ^ 24) → q * 2 ^ k < 2 ^ 277
    go (inl e) = room 25 0 (omega arith) (omega arith)
    go (inr s) = room 24 0 (let w = few s in omega arith) s

pattern_at : (s : Bool) (n k q : ℕ) → size n - 24 ≡ k → n / 2 ^ k ≡ q → cond s 2147483648 0 + (size n - 24) * 8388608 + n / 2 ^ (size n - 24) ≡ cond s 2147483648 0 + (k * 8388608 + q)
pattern_at s n k q e f =
    ap (λ (j : ℕ). cond s 2147483648 0 + j * 8388608 + n / 2 ^ j) e ∙ ap (λ (r : ℕ). cond s 2147483648 0 + k * 8388608 + r) f ∙ omega arith

-- q * 2 ^ k written as a pattern: the digits' field takes the leading digit as one more in the exponent's
written : (s : Bool) (q k : ℕ) → q ≤ 2 ^ 24 → (0 < k → 2 ^ 23 ≤ q)
    → cond s 2147483648 0 + (size (q * 2 ^ k) - 24) * 8388608 + q * 2 ^ k / 2 ^ (size (q * 2 ^ k) - 24) ≡ cond s 2147483648 0 + (k * 8388608 + q)
written s q k h l = go (eq-or-lt_of_le h) (eq-or-lt_of_le (zero-le {n = k}))
  where
    n : ℕ
    n = q * 2 ^ k

    -- a carry into the next place
    carry : q ≡ 2 ^ 24 → size (q * 2 ^ k) - 24 ≡ suc k
    carry e = ap (λ (z : ℕ). z - 24) (size_is (24 + k) (q * 2 ^ k)
        (le_of_eq (pow-add 2 24 k ∙ ap (λ (z : ℕ). z * 2 ^ k) (sym e)))
        (lt_of_le_of_lt (le_of_eq (ap (λ (z : ℕ). z * 2 ^ k) e ∙ sym (pow-add 2 24 k))) (pow-lt (omega arith)))) ∙ omega arith

    carried : q ≡ 2 ^ 24 → q * 2 ^ k / 2 ^ suc k ≡ 8388608
    carried e = ap (λ (z : ℕ). z / 2 ^ suc k) (ap (λ (z : ℕ). z * 2 ^ k) e ∙ pows 24 k 23 (suc k) (omega arith)) ∙ mul-div_cancel 8388608 (pow_pos (suc k))

    full : 0 < k → q < 2 ^ 24 → size (q * 2 ^ k) - 24 ≡ k
    full p u = ap (λ (z : ℕ). z - 24) (size_is (23 + k) (q * 2 ^ k)
        (le_trans (le_of_eq (pow-add 2 23 k)) (mul-le-mul_right (2 ^ k) (l p)))
        (lt_of_lt_of_le (mul-lt-mul_of_pos_right u (pow_pos k)) (le_of_eq (sym (pow-add 2 24 k) ∙ ap (λ (z : ℕ). 2 ^ z) (omega arith))))) ∙ omega arith

    flat : 0 ≡ k → q < 2 ^ 24 → size (q * 2 ^ k) - 24 ≡ k
    flat e u = none_over (size (q * 2 ^ k)) (size-le (q * 2 ^ k) 24 (subst (λ (z : ℕ). q * 2 ^ z < 2 ^ 24) e (subst (λ (z : ℕ). z < 2 ^ 24) (sym (mul-one q)) u))) ∙ e

    go : (q ≡ 2 ^ 24) ⊎ (q < 2 ^ 24) → (0 ≡ k) ⊎ (0 < k) → cond s 2147483648 0 + (size (q * 2 ^ k) - 24) * 8388608 + q * 2 ^ k / 2 ^ (size (q * 2 ^ k) - 24) ≡ cond s 2147483648 0 + (k * 8388608 + q)
    go (inl e) z = pattern_at s (q * 2 ^ k) (suc k) 8388608 (carry e) (carried e) ∙ ap (λ (r : ℕ). cond s 2147483648 0 + r) (omega arith)
    go (inr u) (inl e) = pattern_at s (q * 2 ^ k) k q (flat e u) (mul-div_cancel q (pow_pos k))
    go (inr u) (inr p) = pattern_at s (q * 2 ^ k) k q (full p u) (mul-div_cancel q (pow_pos k))

bits_of : (x : Float) (s : Bool) (n : ℕ) → HasValue x s n (2 ^ 149) → to_bits binary32 x ≡ cond s 2147483648 0 + (size n - 24) * 8388608 + n / 2 ^ (size n - 24)
unfolding to_bits
bits_of nan s n v = absurd v
bits_of (inf t) s n v = absurd v
bits_of (fin t m e) s n v =
    let w : m * up e * 2 ^ 149 / down e ≡ n = ap (λ (z : ℕ). z / down e) v.1 ∙ mul-div_cancel n (down_pos e) in
    ap (λ (z : ℕ). cond t 2147483648 0 + (size z - 24) * 8388608 + z / 2 ^ (size z - 24)) w
    ∙ ap (λ (b : Bool). cond b 2147483648 0 + (size n - 24) * 8388608 + n / 2 ^ (size n - 24)) v.0

-- below them: these are its bits
pub single_in : (x : Float) (s : Bool) (exp sig : ℕ) → PartsOf x s exp sig → spare_of exp * 8388608 + kept_of exp sig < 2139095040
    → of_bits binary32 (cond s 2147483648 0 + (spare_of exp * 8388608 + kept_of exp sig)) ≡ narrowed x
single_in x s exp sig p b =
    let q = kept_of exp sig in
    let k = spare_of exp in
    let le : q ≤ 2 ^ 24 = kept_le exp sig p.small in
    let ge : 0 < k → 2 ^ 23 ≤ q = λ h. kept_ge exp sig h p.lead in
    let v : HasValue (units binary32 s q k) s (q * 2 ^ k) (2 ^ 149) = units_val binary32 s q k (under q k le ge b) in
    let f : T (fits binary32 (narrowed x)) = subst (λ (y : Float). T (fits binary32 y)) (sym (narrowed_value x s (sig * 2 ^ exp) (2 ^ 1074) (pow_pos 1074) p.value)) (round-fits binary32 s (sig * 2 ^ exp) (2 ^ 1074)) in
    ap (λ (z : ℕ). of_bits binary32 z) (sym (ap (to_bits binary32) (narrowed_is x s exp sig p) ∙ bits_of (units binary32 s q k) s (q * 2 ^ k) v ∙ written s q k le ge))
    ∙ of_bits-to_bits binary32 (narrowed x) f

-- and its value is finite
pub single_finite : (x : Float) (s : Bool) (exp sig : ℕ) → PartsOf x s exp sig → spare_of exp * 8388608 + kept_of exp sig < 2139095040
    → HasValue (narrowed x) s (kept_of exp sig * 2 ^ spare_of exp) (2 ^ 149)
single_finite x s exp sig p b =
    let q = kept_of exp sig in
    let k = spare_of exp in
    subst (λ (y : Float). HasValue y s (q * 2 ^ k) (2 ^ 149)) (sym (narrowed_is x s exp sig p))
    (units_val binary32 s q k (under q k (kept_le exp sig p.small) (λ h. kept_ge exp sig h p.lead) b))

-- a float that has a value is finite
pub finite_to_lem : (x : Float) (s : Bool) (a c : ℕ) → HasValue x s a c → Some x ≡ finite_to x
finite_to_lem nan s a c v = absurd v
finite_to_lem (inf t) s a c v = absurd v
finite_to_lem (fin t m e) s a c v = refl
