-- A whole program: one list of statements and no word over, and the erased names.
use Rattle.std.specs.Prelude.{ℕ, ◌+◌, Bool, true, ◌&&◌, List, [], ◌∷◌, length, get_or, leb, eqb, Ok, Err, Result}
use Rattle.base_words.specs.Word.{pick}
use Rattle.base_words.specs.Told.{Told, stops, gives, after, unless}
use Rattle.base_words.specs.Refusals.{refused}
use Rattle.tree_expr.specs.Got.{Got, got, wrong, deep}
use Rattle.tree_stmt.specs.Tree.{Program}
use Rattle.tree_stmt.specs.Reader.{program_at}
use Rattle.tree_expr.specs.Answer.{Step}
use Rattle.tree_expr.specs.declared.Misread.TheVariants.{Wrong, Deep}
use Rattle.base_words.specs.declared.Refusal.{Refusal}

-- all words are the tree's, else number 2 at the first word over (`whole_of` of base_numbers/specs/Numbers.antt rounds a float)
unfoldable pub whole_of : {A : Type 0} → List ℕ → Got A → Told A
whole_of ws (got p m) = pick (eqb m (length ws)) (gives p) (stops 2 m)
whole_of ws (wrong p) = stops 2 p
whole_of ws (deep p) = stops 3 p

-- the erased names: strictly rising, from `low` on, each a name's number (`erased_from` of list_image/specs/Image.antt is their place in a file)
unfoldable pub erased_from : List ℕ → ℕ → List ℕ → Bool
erased_from ns low [] = true
erased_from ns low (e ∷ es) = leb low e && (eqb (get_or ns e 0) 1 && erased_from ns (e + 1) es)

-- the program that all the words are; number 2 or 3 where they are none
unfoldable pub program_of : List ℕ → List ℕ → Told Program
unfolding whole_of
program_of ns ws = whole_of ws (program_at ws ns (length ns))

-- numbers 2 or 3, whichever comes first in the tree, then 4
unfoldable pub accepted_of : List ℕ → List ℕ → List ℕ → Told Program
unfolding program_of erased_from
accepted_of ns ws erased = after (program_of ns ws) (λ p. unless (erased_from ns 0 erased) 4 0 (gives p))

-- ---- for the other entries, contracts inside and proofs

-- the number and the place alone
unfoldable pub verdict : {A : Type 0} → Told A → Told (Unit {0})
verdict (stops n p) = stops n p
verdict (gives a) = gives tt

-- document 01's number and values for each case of the answer
unfoldable pub told : Result (Unit {0}) Refusal → Told (Unit {0})
told (Ok tt) = gives tt
told (Err r) = refused r

-- what is left to ask of a tree that was read up to `at`
unfoldable pub end_of : List ℕ → List ℕ → List ℕ → ℕ → Told (Unit {0})
unfolding erased_from
end_of ns ws erased at = pick (eqb at (length ws)) (unless (erased_from ns 0 erased) 4 0 (gives tt)) (stops 2 at)

-- and where reading stopped
unfoldable pub step_told : List ℕ → List ℕ → List ℕ → Step → Told (Unit {0})
unfolding end_of
step_told ns ws erased (Ok c) = end_of ns ws erased c.at
step_told ns ws erased (Err (Wrong p)) = stops 2 p
step_told ns ws erased (Err (Deep p)) = stops 3 p
