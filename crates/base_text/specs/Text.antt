-- What is written: texts, words in hexadecimal, numbers in decimal. These are definitions.
use Rattle.std.specs.Prelude.{ℕ, zero, suc, ◌+◌, ◌/◌, ◌%◌, ◌^◌, List, [], ◌∷◌, ◌++◌, map, ltb}
use Prim.Native.String as S
use Prim.Native.Char.{code}
use Rattle.base_words.specs.Word.{pick}

-- the bytes of a literal
unfoldable pub ascii : S.String → List ℕ
ascii S.[] = []
ascii (S.◌∷◌ c s) = code c ∷ ascii s

-- 0 to 9, then a to f: 48 is the character 0, 87 + 10 is a
unfoldable pub digit : ℕ → ℕ
digit n = pick (ltb n 10) (48 + n) (87 + n)

-- a word as eight digits, the highest first
unfoldable pub hex8 : ℕ → List ℕ
hex8 w = map (λ k. digit (w / 16 ^ k % 16)) (7 ∷ 6 ∷ 5 ∷ 4 ∷ 3 ∷ 2 ∷ 1 ∷ 0 ∷ [])

-- for contracts inside: a byte as two digits, and those of each byte below n, one byte after the other
abbrev pub pair : ℕ → List ℕ
pair b = digit (b / 16) ∷ digit (b % 16) ∷ []

-- those of each byte below n
unfoldable pub hex_pairs : ℕ → List ℕ
hex_pairs zero = []
hex_pairs (suc n) = hex_pairs n ++ pair n

-- a number's digits, at most so many, the highest first: its tenth's, and then its last
unfoldable pub digits : ℕ → ℕ → List ℕ
digits zero n = []
digits (suc k) n = pick (ltb n 10) (digit n ∷ []) (digits k (n / 10) ++ (digit (n % 10) ∷ []))

-- a word has at most ten
unfoldable pub decimal : ℕ → List ℕ
decimal n = digits 10 n
