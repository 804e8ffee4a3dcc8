-- `base_numbers::to_single` meets its contract: what it puts together is the pattern of the rounded value. Assumes nothing.
use Rattle.std.proofs.Common.{◌≡◌, ℕ, ◌+◌, ◌-◌, ◌*◌, ◌^◌, ◌<◌, ◌≤◌, Bool, cond, not, T, sym, ap, ◌∙◌, subst, arith}
use lib.Ieee.{Float, binary32, binary64, fits, of_bits, is_nan}
use lib.Ieee.Bits.{nan_bits_is, of_bits-fits}
use lib.Ieee.Scale.{finite}
use lib.Ieee.Fits.{and_i, fits_widens}
use Rattle.base_numbers.specs.declared.Halves.TheVariants.{Even}
use Rattle.base_numbers.specs.Numbers.{near, narrowed, finite_to}
use Rattle.base_numbers.specs.NumbersLaws.{has_finite, no_nan}
use Rattle.base_numbers.proofs.Single.{spare_of, kept_of, kept_le, kept_ge, far_over, single_over, single_in, single_finite, finite_to_lem}
use Rattle.base_numbers.proofs.to_single.Goals.{After-near_shift-q, After-sign_bit, Else-b-ge2139095040}
use Rattle.base_numbers.proofs.to_single.Goals as goal
use Rattle.std.specs.Prelude.{Some}

-- the pattern, and the digits that are kept
kept_here : (c : After-near_shift-q) → c.near_shift-q.result ≡ kept_of c.take_apart-p.result.exp c.take_apart-p.result.sig
kept_here c =
    let p = c.take_apart-p.result in
    c.near_shift-q.ensures ∙ ap (λ (k : ℕ). near Even p.sig (2 ^ (925 + k - p.exp))) c.saturating_sub-k.ensures

pattern_here : (c : After-near_shift-q) → c.saturating_sub-k.result * 8388608 + c.near_shift-q.result
    ≡ spare_of c.take_apart-p.result.exp * 8388608 + kept_of c.take_apart-p.result.exp c.take_apart-p.result.sig
pattern_here c =
    let p = c.take_apart-p.result in
    ap (λ (q : ℕ). c.saturating_sub-k.result * 8388608 + q) (kept_here c) ∙ ap (λ (k : ℕ). k * 8388608 + kept_of p.exp p.sig) c.saturating_sub-k.ensures

-- where it is below the infinity's
below : (c : Else-b-ge2139095040) → spare_of c.take_apart-p.result.exp * 8388608
    + kept_of c.take_apart-p.result.exp c.take_apart-p.result.sig < 2139095040
below c = subst (λ (b : ℕ). b < 2139095040) (pattern_here c.before) c.if-b-ge2139095040.false

whole_here : (c : After-sign_bit)
    → of_bits binary32 (c.sign_bit.result + (c.saturating_sub-k.result * 8388608 + c.near_shift-q.result)) ≡ narrowed c.args.x
whole_here c =
    let p = c.take_apart-p.result in
    ap (λ (s : ℕ). of_bits binary32 (s + (c.saturating_sub-k.result * 8388608 + c.near_shift-q.result))) c.sign_bit.ensures
    ∙ ap (λ (b : ℕ). of_bits binary32 (cond p.neg 2147483648 0 + b)) (pattern_here c.before.before)
    ∙ single_in c.args.x p.neg p.exp p.sig c.take_apart-p.ensures (below c.before)

finite_here : (c : After-sign_bit) → T (finite (narrowed c.args.x))
finite_here c =
    let x = c.args.x in
    let p = c.take_apart-p.result in
    has_finite (narrowed x) p.neg (kept_of p.exp p.sig * 2 ^ spare_of p.exp) (2 ^ 149) (single_finite x p.neg p.exp p.sig c.take_apart-p.ensures (below c.before))

no_nan_here : (c : After-sign_bit)
    → T (not (is_nan (of_bits binary32 (c.sign_bit.result + (c.saturating_sub-k.result * 8388608 + c.near_shift-q.result)))))
no_nan_here c =
    subst (λ (y : Float). T (not (is_nan y))) (sym (whole_here c))
    (no_nan _ (finite_here c))

sign_le : (s : Bool) (r : ℕ) → r ≡ cond s 2147483648 0 → r ≤ 2147483648
sign_le Bool.true r e = omega arith
sign_le Bool.false r e = omega arith

pub returns-then-exp-ge1150 : goal.returns-then-exp-ge1150
returns-then-exp-ge1150 c = sym (ap finite_to (single_over _ _ _ _ c.take_apart-p.ensures (far_over _ _ c.if-exp-ge1150.true (λ h. kept_ge _ _ h c.take_apart-p.ensures.lead))))

pub overflow_add-b : goal.overflow_add-b
overflow_add-b c = omega (arith, kept_here c, kept_le c.take_apart-p.result.exp c.take_apart-p.result.sig c.take_apart-p.ensures.small)

pub returns-then-b-ge2139095040 : goal.returns-then-b-ge2139095040
returns-then-b-ge2139095040 c = sym (ap finite_to (single_over _ _ _ _ c.take_apart-p.ensures (subst (λ (b : ℕ). 2139095040 ≤ b) (pattern_here c.before) c.if-b-ge2139095040.true)))

pub overflow_add-result : goal.overflow_add-result
overflow_add-result c = omega (arith, sign_le c.take_apart-p.result.neg c.sign_bit.result c.sign_bit.ensures)

pub overflow_cast-result : goal.overflow_cast-result
overflow_cast-result c = omega (arith, sign_le c.take_apart-p.result.neg c.sign_bit.result c.sign_bit.ensures)

pub float_from_bits-result : goal.float_from_bits-result
float_from_bits-result c = subst (λ (b : Bool). T (not b)) (sym (nan_bits_is binary32 _)) (no_nan_here c)

pub float_to_float-result : goal.float_to_float-result
float_to_float-result c =
    let d = c.before in
    let n = d.sign_bit.result + (d.saturating_sub-k.result * 8388608 + d.near_shift-q.result) in
    and_i (fits binary64 (of_bits binary32 n)) (not (is_nan (of_bits binary32 n))) (fits_widens (of_bits binary32 n) (of_bits-fits binary32 n)) (no_nan_here d)

pub returns : goal.returns
returns c = ap Some (whole_here c.before) ∙ finite_to_lem _ _ _ _ (single_finite _ _ _ _ c.take_apart-p.ensures (below c.before.before))
