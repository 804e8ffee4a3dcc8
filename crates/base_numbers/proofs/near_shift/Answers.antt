-- `base_numbers::near_shift` meets its contract. From 55 places on what is left is below a half. Assumes nothing.
use Rattle.std.proofs.Common.{◌≡◌, ℕ, ◌*◌, ◌%◌, ◌^◌, ◌<◌, sym, ap, ◌∙◌, subst, lt_of_lt_of_le, mod-eq_of_lt, one-mul, arith, pow_pos, pow_mono}
use lib.Pow.{pow-lt}
use Rattle.base_numbers.specs.Numbers.{near}
use Rattle.base_numbers.proofs.Order.{near_zero}
use Rattle.base_numbers.proofs.near_shift.Goals as goal

twice : (a : ℕ) → a < 2 ^ 53 → a * 2 < 2 ^ 55
twice a h = omega arith

pub returns-then-shift-ge55 : goal.returns-then-shift-ge55
returns-then-shift-ge55 c = sym (near_zero _ _ _ (lt_of_lt_of_le (twice _ c.requires) (pow_mono c.if-shift-ge55.true)))

-- 1 << n is 2 ^ n, for an n below 55
one_shl : (n : ℕ) → n < 55 → 1 * 2 ^ n % 2 ^ 64 ≡ 2 ^ n
one_shl n h = ap (λ (x : ℕ). x % 2 ^ 64) (one-mul (2 ^ n)) ∙ mod-eq_of_lt (lt_of_lt_of_le (pow-lt h) (pow_mono {i = 55} {j = 64} (omega arith)))

pub near_ratio-requires : goal.near_ratio-requires
near_ratio-requires c =
    let e = one_shl c.args.shift c.if-shift-ge55.false in
    let s = lt_of_lt_of_le (pow-lt c.if-shift-ge55.false) (pow_mono {i = 55} {j = 63} (omega arith)) in
    (subst (λ (x : ℕ). 0 < x) (sym e) (pow_pos _), subst (λ (x : ℕ). x < 2 ^ 63) (sym e) s, omega (arith, c.requires))

pub returns : goal.returns
returns c = c.near_ratio.ensures ∙ ap (λ (x : ℕ). near c.args.h c.args.sig x) (one_shl c.args.shift c.if-shift-ge55.false)
