-- A folded value and the words of its CONST row (document 01, row 132). Definitions only.
use Rattle.std.specs.Prelude.{Result, Bool, not, ◌&&◌, ◌||◌, ℕ, ◌/◌, ◌%◌, ◌≤◌, ◌<◌, ℤ, nat_abs, T, eqb, ltb, leb}
use Rattle.std.specs.Float.{binary64}
use Rattle.std.specs.Float.Ieee.{to_bits}
use Rattle.std.specs.Float.Ieee.Scale.{finite}
use Rattle.base_words.specs.Word.{pick}
use Rattle.base_numbers.specs.Numbers.{of_words, bits_of, whole_at}
use Rattle.fold_values.specs.declared.Value.{Value}
use Rattle.fold_values.specs.declared.Unfolded.{Unfolded}
use Rattle.fold_values.specs.declared.Value.TheVariants.{Integer, Long, Single, Float, Text}

-- a folded value, or why there is none
abbrev pub Fold : Type 0
Fold = Result Value Unfolded

-- ---- for contracts inside and proofs. The range of the numbers: Integer and Long from -2147483648 to 2147483648, floats finite (`finite` of the
-- library, of a float; that of tree_expr/specs/Expr.antt is of its high word)

-- the range of a whole number
abbrev pub InRange : ℤ → Type 0
InRange z = nat_abs z ≤ 2147483648

-- a value in this range
abbrev pub Good : Value → Type 0
Good (Integer z) = InRange z
Good (Long z) = InRange z
Good (Single x) = T (finite x)
Good (Float x) = T (finite x)
Good (Text t) = Unit {0}

-- a string's number is below the count of strings
abbrev pub Known : (strings : ℕ) → Value → Type 0
Known n (Integer z) = Unit {0}
Known n (Long z) = Unit {0}
Known n (Single x) = Unit {0}
Known n (Float x) = Unit {0}
Known n (Text t) = t < n

-- ---- the words 2, 3 and 4 of its row: literal kind, then the 64-bit value, the low word first, or the string's number

-- word 2: the kind of the literal
abbrev pub literal_kind : Value → ℕ
literal_kind (Integer z) = 24
literal_kind (Long z) = 25
literal_kind (Single x) = 26
literal_kind (Float x) = 27
literal_kind (Text t) = 28

-- the 64 bits of words 3 and 4
abbrev pub bits64 : Value → ℕ
bits64 (Integer z) = bits_of z
bits64 (Long z) = bits_of z
bits64 (Single x) = to_bits binary64 x
bits64 (Float x) = to_bits binary64 x
bits64 (Text t) = t

-- word 3: the low 32 bits
abbrev pub low_of : Value → ℕ
low_of v = bits64 v % 4294967296

-- word 4: the high 32 bits
abbrev pub high_of : Value → ℕ
high_of v = bits64 v / 4294967296

-- ---- back: the value of a row with these words; its kind is 24 to 28

-- of the words 2, 3 and 4
unfoldable pub value_of : (kind low high : ℕ) → Value
value_of k low high =
    pick (eqb k 24) (Integer (whole_at low high))
    (pick (eqb k 25) (Long (whole_at low high))
    (pick (eqb k 26) (Single (of_words low high))
    (pick (eqb k 27) (Float (of_words low high))
    (Text low))))  -- 28

-- ---- the rule of these words in a lent row, with n strings: number 6 of the other entries; the C entry takes no rows

-- -2147483648 to 2147483648
abbrev pub whole_rule : (low high : ℕ) → Bool
whole_rule low high = eqb high 0 && leb low 2147483648 || eqb high 4294967295 && leb 2147483648 low

-- the exponent's field isn't all ones
abbrev pub float_rule : (high : ℕ) → Bool
float_rule high = not (eqb (high / 1048576 % 2048) 2047)

-- by the kind 24 to 28; other kinds fail
unfoldable pub const_rule : (strings kind low high : ℕ) → Bool
const_rule n k low high =
    pick (eqb k 24 || eqb k 25) (whole_rule low high)
    (pick (eqb k 26 || eqb k 27) (float_rule high)
    (eqb k 28 && (ltb low n && eqb high 0)))
