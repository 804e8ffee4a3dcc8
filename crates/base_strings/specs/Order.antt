-- The byte order of strings: the first difference decides, and a proper beginning is below the longer string.
use Rattle.std.specs.Prelude.{ℕ, List, [], ◌∷◌, ltb, eqb}
use Rattle.base_words.specs.Word.{pick}
use Rattle.std.specs.declared.cmp.Ordering.{Ordering}
use Rattle.std.specs.declared.cmp.Ordering.TheVariants.{Less, Equal, Greater}

-- the first string below, equal to or above the second
unfoldable pub order : List ℕ → List ℕ → Ordering
order [] [] = Equal
order [] (b ∷ ys) = Less
order (a ∷ xs) [] = Greater
order (a ∷ xs) (b ∷ ys) = pick (eqb a b) (order xs ys) (pick (ltb a b) Less Greater)
