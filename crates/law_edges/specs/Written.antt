-- Expressions as tree words: a notation for the rows of the table, and no more.
use Rattle.std.specs.Prelude.{ℕ, List, [], ◌∷◌, ◌++◌}
use Rattle.base_words.specs.Word.{word_of}

-- literals: Integer and Long by one word in two's complement, Single and Float by their 64 bits, the high word first here
abbrev pub integer : ℕ → List ℕ
integer w = word_of 16 0 ∷ word_of 24 0 ∷ w ∷ []

-- Long
abbrev pub long : ℕ → List ℕ
long w = word_of 16 0 ∷ word_of 25 0 ∷ w ∷ []

-- Single
abbrev pub single : (high low : ℕ) → List ℕ
single high low = word_of 16 0 ∷ word_of 26 0 ∷ low ∷ high ∷ []

-- Float
abbrev pub float : (high low : ℕ) → List ℕ
float high low = word_of 16 0 ∷ word_of 27 0 ∷ low ∷ high ∷ []

-- a string literal, by its number
abbrev pub text : ℕ → List ℕ
text s = word_of 16 0 ∷ word_of 28 0 ∷ word_of 2 s ∷ []

-- a variable
abbrev pub name : ℕ → List ℕ
name s = word_of 17 0 ∷ word_of 2 s ∷ []

-- an element of an array, with one index
abbrev pub element : ℕ → List ℕ → List ℕ
element s e = word_of 18 0 ∷ word_of 2 s ∷ word_of 1 1 ∷ e

-- a call with so many arguments
abbrev pub call : (f count : ℕ) → List ℕ → List ℕ
call f count es = word_of 21 0 ∷ word_of 2 f ∷ word_of 1 count ∷ es

-- operators by their position in `UnaryOp` and `BinaryOp`
abbrev pub unary : ℕ → List ℕ → List ℕ
unary op e = word_of 19 0 ∷ word_of 9 op ∷ e

-- of two operands
abbrev pub binary : ℕ → List ℕ → List ℕ → List ℕ
binary op l r = word_of 20 0 ∷ word_of 9 op ∷ l ++ r

-- parentheses
abbrev pub paren : List ℕ → List ℕ
paren e = word_of 23 0 ∷ e

-- UnaryOp::Neg
abbrev pub minus : List ℕ → List ℕ
minus e = unary 0 e

-- UnaryOp::Not
abbrev pub not : List ℕ → List ℕ
not e = unary 1 e

-- BinaryOp::Add
abbrev pub add : List ℕ → List ℕ → List ℕ
add l r = binary 0 l r

-- BinaryOp::Sub
abbrev pub sub : List ℕ → List ℕ → List ℕ
sub l r = binary 1 l r

-- BinaryOp::Mul
abbrev pub mul : List ℕ → List ℕ → List ℕ
mul l r = binary 2 l r

-- BinaryOp::Div
abbrev pub div : List ℕ → List ℕ → List ℕ
div l r = binary 3 l r

-- BinaryOp::IntDiv
abbrev pub whole : List ℕ → List ℕ → List ℕ
whole l r = binary 4 l r

-- BinaryOp::Mod
abbrev pub modulo : List ℕ → List ℕ → List ℕ
modulo l r = binary 5 l r

-- BinaryOp::Pow
abbrev pub power : List ℕ → List ℕ → List ℕ
power l r = binary 6 l r

-- BinaryOp::Eq
abbrev pub equals : List ℕ → List ℕ → List ℕ
equals l r = binary 7 l r
