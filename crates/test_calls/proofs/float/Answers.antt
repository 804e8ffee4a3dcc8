-- `test_calls::float` is safe: it takes the words of a finite float alone. Assumes nothing.
use mathlib.Core.Path.{sym, ◌∙◌, subst}
use lib.Dec.{T}
use Rattle.test_calls.proofs.float.Goals as goal

pub words_of-requires : goal.words_of-requires
words_of-requires g c = subst T (sym (sym c.is_finite.ensures ∙ c.if-is_finite.true)) tt
