-- `base_numbers::of_words` meets its contract. Assumes nothing.
use Rattle.std.proofs.Common.{ℕ, Bool, not, T, sym, subst}
use Rattle.base_numbers.specs.NumbersLaws.{no_nan}
use lib.Ieee.{binary64, nan_bits}
use lib.Ieee.Bits.{nan_bits_is}
use Rattle.base_numbers.proofs.of_words.Goals as goal

pub float_from_bits-result : goal.float_from_bits-result
float_from_bits-result c =
    subst (λ (n : ℕ). T (not (nan_bits binary64 n))) (sym c.from.ensures)
    (subst (λ (b : Bool). T (not b)) (sym (nan_bits_is binary64 _)) (no_nan _ c.requires))
