-- The string table: bytes and an ascending list of ends, the last end being the byte count.
use Rattle.std.specs.Prelude.{ℕ, zero, suc, ◌+◌, ◌-◌, ◌≤◌, ◌<◌, Bool, true, not, ◌&&◌, ◌≡◌, List, [], ◌∷◌, ◌++◌, length, get_or, take, drop, ltb, leb, eqb}
use Rattle.base_words.specs.Word.{pick}
use Rattle.std.specs.Ordering.{is_lt}
use Rattle.base_strings.specs.Order.{order}
use Rattle.base_strings.specs.Name.{between, is_name}

-- string i runs from the end before it, 0 for the first, to its own end
unfoldable pub start_of : List ℕ → ℕ → ℕ
start_of ends zero = 0
start_of ends (suc i) = get_or ends i 0

-- the part of a list from a to e
abbrev pub part : ℕ → ℕ → List ℕ → List ℕ
part a e l = take (e - a) (drop a l)

-- the bytes of string i
unfoldable pub string_at : List ℕ → List ℕ → ℕ → List ℕ
unfolding start_of
string_at bytes ends i = part (start_of ends i) (get_or ends i 0) bytes

-- each byte is from 32 to 126
unfoldable pub all_printable : List ℕ → Bool
all_printable [] = true
all_printable (b ∷ bs) = between 32 126 b && all_printable bs

-- its end is within the bytes and not below the end before it
unfoldable pub end_right : List ℕ → List ℕ → ℕ → Bool
unfolding start_of
end_right bytes ends i = leb (start_of ends i) (get_or ends i 0) && leb (get_or ends i 0) (length bytes)

-- it is above the string before it
unfoldable pub rises : List ℕ → List ℕ → ℕ → Bool
unfolding string_at
rises bytes ends zero = true
rises bytes ends (suc i) = is_lt (order (string_at bytes ends i) (string_at bytes ends (suc i)))

-- the last end is the byte count
unfoldable pub last_right : List ℕ → List ℕ → ℕ → Bool
last_right bytes ends i = pick (eqb (i + 1) (length ends)) (eqb (get_or ends i 0) (length bytes)) true

-- string i meets the rule
unfoldable pub right_at : List ℕ → List ℕ → ℕ → Bool
unfolding end_right all_printable string_at rises last_right
right_at bytes ends i = end_right bytes ends i && (all_printable (string_at bytes ends i) && (rises bytes ends i && last_right bytes ends i))

-- for contracts inside: what can be said of all strings at once: all bytes are printable, and the last end is their count
unfoldable pub is_plain : List ℕ → List ℕ → Bool
unfolding start_of all_printable
is_plain bytes ends = eqb (start_of ends (length ends)) (length bytes) && all_printable bytes

-- a test holds of each number below n
unfoldable pub all_below : ℕ → (ℕ → Bool) → Bool
all_below zero ok = true
all_below (suc n) ok = all_below n ok && ok n

-- The whole rule. Without strings there are no bytes.
unfoldable pub sound : List ℕ → List ℕ → Bool
unfolding all_below right_at
sound bytes ends = pick (eqb (length ends) 0) (eqb (length bytes) 0) (all_below (length ends) (right_at bytes ends))

-- For the other entries, which give number 1 with its place.
-- Where the rule breaks: an end past the bytes or below the end before it is laid to its own string, a byte outside 32 to 126 to the string that
-- holds it, a string not above the one before it to the later one, a short last end to the last string, or to 0 where there are no strings.
unfoldable pub breaks_at : List ℕ → List ℕ → ℕ → Bool
unfolding right_at
breaks_at bytes ends i = pick (eqb (length ends) 0) (eqb i 0 && not (eqb (length bytes) 0)) (ltb i (length ends) && not (right_at bytes ends i))

-- for each string 1 where it is a name, else 0
unfoldable pub marks_below : List ℕ → List ℕ → ℕ → List ℕ
unfolding is_name string_at
marks_below bytes ends zero = []
marks_below bytes ends (suc i) = marks_below bytes ends i ++ (pick (is_name (string_at bytes ends i)) 1 0 ∷ [])

-- the marks of all strings
unfoldable pub names_of : List ℕ → List ℕ → List ℕ
unfolding marks_below
names_of bytes ends = marks_below bytes ends (length ends)

-- for contracts inside and proofs: string i runs from a to e, by its ends, and the string before it from b to a
pub record Reached (ends : List ℕ) (i b a e : ℕ) : Type 0 where
  pub inside : i < length ends
  pub back : b ≡ start_of ends (i - 1)
  pub from : a ≡ start_of ends i
  pub to : e ≡ get_or ends i 0
  pub before : b ≤ a

-- and that within the bytes
pub record Bounds (bytes ends : List ℕ) (i b a e : ℕ) : Type 0 where
  pub reached : Reached ends i b a e
  pub order : a ≤ e
  pub fits : e ≤ length bytes

-- for contracts inside and proofs: an array that begins with the marks of all strings
pub record Names (bytes ends marks : List ℕ) : Type 0 where
  pub long : length marks ≡ 1024
  pub first : take (length ends) marks ≡ names_of bytes ends
