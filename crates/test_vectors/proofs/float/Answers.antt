-- `test_vectors::float` meets its contract: the exponent's field was tested. Assumes nothing.
use Rattle.std.proofs.Common.{◌≡◌, ℕ, ◌/◌, ◌%◌, ◌==◌, ◌<◌, Bool, false, not, T, sym, ◌∙◌, subst, rules}
use lib.Ieee.{Float, of_bits}
use lib.Ieee.Scale.{finite}
use Rattle.base_numbers.specs.Numbers.{of_words}
use Rattle.base_numbers.specs.NumbersLaws.{words_finite}
use Rattle.test_vectors.proofs.float.Goals as goal

pub returns-then-not_finite : goal.returns-then-not_finite
unfolding of_bits
returns-then-not_finite c = tt

-- two words, the high one's exponent not all ones, are a finite float's
finite_words : (high low : ℕ) (e : Bool) → high < 4294967296 → low < 4294967296 → e ≡ (high / 1048576 % 2048 == 2047) → e ≡ false → T (finite (of_words low high))
finite_words high low e h k is odd = subst T (words_finite low high k h) (subst (λ (b : Bool). T (not b)) (sym (sym is ∙ odd)) tt)

pub of_words-requires : goal.of_words-requires
of_words-requires c =
    let w = c.args.w in
    finite_words w.high w.low _ (search rules) (search rules) c.not_finite.ensures c.if-not_finite.false

pub returns-else-not_finite : goal.returns-else-not_finite
returns-else-not_finite c =
    let w = c.args.w in
    subst (λ (x : Float). T (finite x)) (sym c.of_words.ensures) (finite_words w.high w.low _ (search rules) (search rules) c.not_finite.ensures c.if-not_finite.false)
