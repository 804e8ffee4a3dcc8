-- `base_numbers::take_apart` meets its contract: the fields are those of `of_bits` in `Rattle.std.specs.Float.Ieee`. Assumes nothing.
use Rattle.std.proofs.Common.{◌≡◌, ℕ, zero, suc, ◌+◌, ◌-◌, Bool, T, sym, subst, sub-one, arith}
use lib.Ieee.{Float, binary64, fits}
use Rattle.base_numbers.specs.Numbers.{PartsOf}
use Rattle.base_numbers.specs.NumbersLaws.{no_nan}
use Rattle.base_numbers.proofs.Bits.{bits_parts, exp_of, sig_of}
use Rattle.base_numbers.proofs.take_apart.Goals.{Start}
use Rattle.base_numbers.proofs.take_apart.Goals as goal

held : (c : Start) → T (fits binary64 c.args.x)
held c = subst T (sym c.well_formed.0.1) tt

pub float_to_bits-b : goal.float_to_bits-b
float_to_bits-b c = no_nan c.args.x c.requires

low : (x : Float) (s : Bool) (field t : ℕ) → field ≡ 0 → PartsOf x s (exp_of field) (sig_of field t) → PartsOf x s 0 t
low x s field t e h = subst (λ (f : ℕ). PartsOf x s (exp_of f) (sig_of f t)) e h

high : (x : Float) (s : Bool) (field t : ℕ) → (field ≡ 0 → ⊥) → PartsOf x s (exp_of field) (sig_of field t) → PartsOf x s (field - 1) (4503599627370496 + t)
high x s zero t n h = absurd (n (omega arith))
high x s (suc f) t n h = subst (λ (k : ℕ). PartsOf x s k (4503599627370496 + t)) (sym (sub-one (suc f))) h

pub returns-then-field-eq0 : goal.returns-then-field-eq0
returns-then-field-eq0 c = low _ _ _ _ c.if-field-eq0.true (bits_parts c.args.x (held c.before) c.requires)

pub returns-else-field-eq0 : goal.returns-else-field-eq0
returns-else-field-eq0 c = high _ _ _ _ c.if-field-eq0.false (bits_parts c.args.x (held c.before) c.requires)
