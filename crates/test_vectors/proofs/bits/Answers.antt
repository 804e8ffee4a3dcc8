-- `test_vectors::bits` is safe: it takes the words of a finite float alone. Assumes nothing.
use Rattle.std.proofs.Common.{T, sym, ◌∙◌, subst}
use Rattle.test_vectors.proofs.bits.Goals as goal

pub words_of-requires : goal.words_of-requires
words_of-requires c = subst T (sym (sym c.is_finite.ensures ∙ c.if-is_finite.true)) tt
