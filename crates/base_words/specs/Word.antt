-- A word's top 8 bits are its kind, its low 24 its payload (document 01, "Strings and tree words").
use Rattle.std.specs.Prelude.{ℕ, ◌+◌, ◌*◌, ◌/◌, ◌%◌, Bool, true, false, List, [], ◌∷◌, ◌++◌}

-- a word's kind: its top 8 bits
abbrev pub kind_of : ℕ → ℕ
kind_of w = w / 16777216

-- its payload: its low 24 bits
abbrev pub pay_of : ℕ → ℕ
pay_of w = w % 16777216

-- the word of kind k and payload x
abbrev pub word_of : ℕ → ℕ → ℕ
word_of k x = k * 16777216 + x

-- the first where the test holds, else the second
abbrev pub pick : {A : Type 0} → Bool → A → A → A
pick true a b = a
pick false a b = b

-- several rows of words, one after the other
unfoldable pub flatten : List (List ℕ) → List ℕ
flatten [] = []
flatten (r ∷ rs) = r ++ flatten rs
