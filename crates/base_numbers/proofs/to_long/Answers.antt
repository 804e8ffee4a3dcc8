-- `base_numbers::to_long` meets its contract. Assumes nothing.
use Rattle.std.proofs.Common.{◌≡◌, ℕ, ◌+◌, ◌-◌, ◌^◌, ◌<◌, ◌≤◌, Bool, true, false, ℤ, neg_ℤ, nat_abs, refl, sym, ap, ◌∙◌, subst, arith, w64, to_z}
use mir.ValLaws.{to_z-of_z}
use Rattle.std.specs.Int.{from_bool}
use Rattle.base_numbers.specs.Numbers.{near, signed, whole_of, within}
use Rattle.base_numbers.specs.SignedLaws.{to_z_small, minus_is, minus_fits}
use Rattle.base_numbers.proofs.Long.{whole_shift, in_pos, out_pos, in_neg, out_neg, long_in, long_out, long_far}
use Rattle.base_numbers.proofs.to_long.Goals.{After-near_shift-n}
use Rattle.base_numbers.proofs.to_long.Goals as goal
use Rattle.std.specs.Prelude.{Some}

pub returns-then-exp-gt1055 : goal.returns-then-exp-gt1055
returns-then-exp-gt1055 c = long_far _ _ _ _ _ c.if-exp-gt1055.true c.take_apart-p.ensures

-- what the call gives is the whole number, without its sign
here : (c : After-near_shift-n) (s : Bool) → c.take_apart-p.result.neg ≡ s
    → whole_of c.args.h c.args.x ≡ signed s c.near_shift-n.result
here c s e =
    let a = c.args in
    let p = c.take_apart-p.result in
    whole_shift a.h a.x p.neg p.exp p.sig (omega arith) c.take_apart-p.ensures
    ∙ ap (λ (b : Bool). signed b (near a.h p.sig (2 ^ (1074 - p.exp)))) e
    ∙ ap (λ (n : ℕ). signed s n) (sym c.near_shift-n.ensures)

-- more than may be: one more below 0 than above it
too_many : (s : Bool) (n k : ℕ) → k ≡ from_bool s → 2147483647 + k < n → within 31 (signed s n) ≡ false
too_many true n k e h = out_neg n (omega arith)
too_many false n k e h = out_pos n (omega arith)

few : (s : Bool) (n k : ℕ) → k ≡ from_bool s → n ≤ 2147483647 + k → n ≤ 2147483648
few true n k e h = omega arith
few false n k e h = omega arith

pub returns-then-n-from : goal.returns-then-n-from
returns-then-n-from c = long_out _ _ _ (here c.before.before _ refl) (too_many _ _ _ c.from.ensures c.if-n-from.true)

pub overflow_cast-z : goal.overflow_cast-z
overflow_cast-z c = let h = few _ _ _ c.from.ensures c.if-n-from.false in omega arith

pub overflow_sub-result : goal.overflow_sub-result
overflow_sub-result c =
    let n = c.near_shift-n.result in
    let h : n ≤ 2147483648 = few _ _ _ c.from.ensures c.if-n-from.false in
    minus_fits (to_z w64 n) 2147483648 (subst (λ (z : ℤ). nat_abs z ≤ 2147483648) (sym (to_z_small n (omega arith))) h) (omega arith)

pub returns-then-p : goal.returns-then-p
returns-then-p c =
    let n = c.near_shift-n.result in
    let h : n ≤ 2147483648 = few _ _ _ c.from.ensures c.if-n-from.false in
    ap Some (to_z-of_z w64 _ (overflow_sub-result c) ∙ minus_is (to_z w64 n) ∙ ap neg_ℤ (to_z_small n (omega arith)))
    ∙ long_in _ _ _ (here c.before.before.before true c.if-p.true) (in_neg _ h)

pub returns-else-p : goal.returns-else-p
returns-else-p c =
    let n = c.near_shift-n.result in
    let h : n ≤ 2147483647 = (let k = c.from.ensures ∙ ap from_bool c.if-p.false in omega arith) in
    ap Some (to_z_small n (omega arith)) ∙ long_in _ _ _ (here c.before.before.before false c.if-p.false) (in_pos _ h)
