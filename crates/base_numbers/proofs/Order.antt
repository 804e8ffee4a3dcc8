-- `near`: what `compare` gives, that equal fractions round alike by either rule for halves, and that a fraction below a half gives 0. Assumes nothing.
use Rattle.std.proofs.Common.{◌≡◌, ℕ, suc, ◌+◌, ◌*◌, ◌/◌, ◌%◌, ◌<◌, ◌≤◌, not, T, eqb, sym, refl, ap, ◌∙◌, subst, mod-eq_of_lt, mul_comm, add-mul, mul-lt-mul_of_pos_right, div-add-mod', mul_right_comm, arith, eqb→eq, leb→le}
use Prim.Native.Nat.{compare, Ordering}
use native.Mathlib.Nat.{div-eq_of_lt}
use lib.Dec.{is_le, compare_is_eq, nleb→lt, eqb_refl}
use lib.Arith.{lt_of_le-ne}
use lib.Ieee.{nearest}
use lib.Ieee.Nearest.{closest, div_same}
use Rattle.base_numbers.specs.declared.Halves.{Halves}
use Rattle.base_numbers.specs.declared.Halves.TheVariants.{Even}
use Rattle.base_numbers.specs.Numbers.{near, by_half, half_of}

-- ---- what `compare` says, and that it is the only one of the three to say it
abbrev pub Cmp : Ordering → ℕ → ℕ → Type 0
Cmp Ordering.lt a b = a < b
Cmp Ordering.eq a b = a ≡ b
Cmp Ordering.gt a b = b < a

-- what it gives holds
pub cmp : (a b : ℕ) → Cmp (compare a b) a b
cmp a b = go (compare a b) (leb→le a b) (nleb→lt a b) (eqb→eq a b) (λ (e : a ≡ b). subst (λ (x : ℕ). T (eqb a x)) e (eqb_refl a))
  where
    go : (o : Ordering) → (T (is_le o) → a ≤ b) → (T (not (is_le o)) → b < a) → (T (compare_is_eq o) → a ≡ b) → (a ≡ b → T (compare_is_eq o)) → Cmp o a b
    go Ordering.lt h k e n = lt_of_le-ne (h tt) n
    go Ordering.eq h k e n = e tt
    go Ordering.gt h k e n = k tt

one : (o p : Ordering) (a b : ℕ) → Cmp o a b → Cmp p a b → o ≡ p
one Ordering.lt Ordering.lt a b h k = refl
one Ordering.lt Ordering.eq a b h k = absurd (omega arith)
one Ordering.lt Ordering.gt a b h k = absurd (omega arith)
one Ordering.eq Ordering.lt a b h k = absurd (omega arith)
one Ordering.eq Ordering.eq a b h k = refl
one Ordering.eq Ordering.gt a b h k = absurd (omega arith)
one Ordering.gt Ordering.lt a b h k = absurd (omega arith)
one Ordering.gt Ordering.eq a b h k = absurd (omega arith)
one Ordering.gt Ordering.gt a b h k = refl

-- what holds is what it gives
pub compare_is : (o : Ordering) (a b : ℕ) → Cmp o a b → compare a b ≡ o
compare_is o a b h = one (compare a b) o a b (cmp a b) h

-- ---- by the three cases
-- less than half: the quotient
pub near_lt : (h : Halves) (a b : ℕ) → a % b * 2 < b → near h a b ≡ a / b
near_lt h a b k = ap (λ (o : Ordering). by_half h (a / b) o) (compare_is Ordering.lt (a % b * 2) b k)

-- ---- scaled
cmp_scale : (o : Ordering) (a b k : ℕ) → 0 < k → Cmp o a b → Cmp o (a * k) (b * k)
cmp_scale Ordering.lt a b k K h = mul-lt-mul_of_pos_right h K
cmp_scale Ordering.eq a b k K h = ap (λ (x : ℕ). x * k) h
cmp_scale Ordering.gt a b k K h = mul-lt-mul_of_pos_right h K

compare_scale : (a b k : ℕ) → 0 < k → compare (a * k) (b * k) ≡ compare a b
compare_scale a b k K = compare_is (compare a b) (a * k) (b * k) (cmp_scale (compare a b) a b k K (cmp a b))

-- with the same whole part taken off both, the remainders are in the same proportion
rest : (a b c d w : ℕ) → a / b ≡ w → c / d ≡ w → a * d ≡ c * b → a % b * d ≡ c % d * b
rest a b c d w e f h =
    let x : w * b * d + a % b * d ≡ a * d = sym (add-mul (w * b) (a % b) d) ∙ ap (λ (z : ℕ). z * d) (ap (λ (z : ℕ). z * b + a % b) (sym e) ∙ div-add-mod' a b) in
    let y : w * d * b + c % d * b ≡ c * b = sym (add-mul (w * d) (c % d) b) ∙ ap (λ (z : ℕ). z * b) (ap (λ (z : ℕ). z * d + c % d) (sym f) ∙ div-add-mod' c d) in
    let s : w * b * d ≡ w * d * b = mul_right_comm w b d in
    omega arith

-- equal fractions round alike
pub near_same : (h : Halves) (a b c d : ℕ) → 0 < b → 0 < d → a * d ≡ c * b → near h a b ≡ near h c d
near_same h a b c d B D e =
    let q : a / b ≡ c / d = div_same a b c d B D e in
    let r : a % b * d ≡ c % d * b = rest a b c d (c / d) q refl e in
    let p : a % b * 2 * d ≡ c % d * 2 * b = mul_right_comm (a % b) 2 d ∙ ap (λ (x : ℕ). x * 2) r ∙ mul_right_comm (c % d) b 2 in
    let o : compare (a % b * 2) b ≡ compare (c % d * 2) d =
    sym (compare_scale (a % b * 2) b d D) ∙ ap (λ (x : ℕ). compare x (b * d)) p ∙ ap (λ (x : ℕ). compare (c % d * 2 * b) x) (mul_comm b d) ∙ compare_scale (c % d * 2) d b B in
    ap (λ (x : ℕ). by_half h x (compare (a % b * 2) b)) q ∙ ap (λ (x : Ordering). by_half h (c / d) x) o

-- a fraction below a half gives 0
pub near_zero : (h : Halves) (a b : ℕ) → a * 2 < b → near h a b ≡ 0
near_zero h a b k =
    let l : a < b = omega arith in
    near_lt h a b (subst (λ (x : ℕ). x * 2 < b) (sym (mod-eq_of_lt l)) k) ∙ div-eq_of_lt l

-- ---- the rule `Even` is the library's
even_is : (q : ℕ) (o : Ordering) → by_half Even q o ≡ nearest q o
even_is q Ordering.lt = refl
even_is q Ordering.eq = refl
even_is q Ordering.gt = refl

-- with halves to even it is the library's `closest`
pub near_even : (a b : ℕ) → near Even a b ≡ closest a b
near_even a b = even_is (a / b) (compare (a % b * 2) b)

-- ---- at most one up
half_le : (h : Halves) (q : ℕ) → half_of h q ≤ suc q
half_le Even q = omega arith

half_ge : (h : Halves) (q : ℕ) → q ≤ half_of h q
half_ge Even q = omega arith

by_le : (h : Halves) (q : ℕ) (o : Ordering) → by_half h q o ≤ suc q
by_le h q Ordering.lt = omega arith
by_le h q Ordering.eq = half_le h q
by_le h q Ordering.gt = omega arith

by_ge : (h : Halves) (q : ℕ) (o : Ordering) → q ≤ by_half h q o
by_ge h q Ordering.lt = omega arith
by_ge h q Ordering.eq = half_ge h q
by_ge h q Ordering.gt = omega arith

-- at most one more than the quotient
pub near_le : (h : Halves) (a b : ℕ) → near h a b ≤ suc (a / b)
near_le h a b = by_le h (a / b) (compare (a % b * 2) b)

-- at least the quotient
pub near_ge : (h : Halves) (a b : ℕ) → a / b ≤ near h a b
near_ge h a b = by_ge h (a / b) (compare (a % b * 2) b)
