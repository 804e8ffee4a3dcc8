-- What a name is: 1 to 40 bytes, a capital, then capitals, digits or dots, then at most one of % & ! # $.
use Rattle.std.specs.Prelude.{ℕ, Bool, true, false, ◌&&◌, ◌||◌, List, [], ◌∷◌, length, leb, eqb}

-- from a to z, both included (`between` of tree_stmt/specs/Tree.antt leaves its end out)
unfoldable pub between : ℕ → ℕ → ℕ → Bool
between a z b = leb a b && leb b z

-- a capital (65 to 90), a digit (48 to 57) or a dot (46)
unfoldable pub inner : ℕ → Bool
inner b = between 65 90 b || (between 48 57 b || eqb b 46)

-- ! is 33; # $ % & are 35 to 38
unfoldable pub suffix : ℕ → Bool
suffix b = eqb b 33 || between 35 38 b

-- what may follow the first capital
unfoldable pub rest : List ℕ → Bool
rest [] = true
rest (b ∷ []) = inner b || suffix b
rest (b ∷ (c ∷ bs)) = inner b && rest (c ∷ bs)

-- the whole rule: the length, the first capital, and what follows it
unfoldable pub is_name : List ℕ → Bool
is_name [] = false
is_name (b ∷ bs) = leb (length (b ∷ bs)) 40 && (between 65 90 b && rest bs)
