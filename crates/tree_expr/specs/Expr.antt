-- Expressions as trees, and the words that write them.
use Rattle.std.specs.Prelude.{ℕ, ◌+◌, ◌/◌, ◌%◌, ◌<◌, max, ◌≡◌, Bool, true, not, eqb, get_or, List, [], ◌∷◌, ◌++◌}
use Rattle.base_words.specs.Word.{word_of}

-- `Literal` of parser.rs, with its kinds. Integer and Long hold the raw word: `signed32` (fold_const_eval/specs/ConstEval.antt) reads it in two's complement
pub data Literal : Type 0 where
  Integer : ℕ → Literal  -- 24
  Long : ℕ → Literal  -- 25
  Single : ℕ → ℕ → Literal  -- 26: the low word, the high word
  Float : ℕ → ℕ → Literal  -- 27: the same
  Text : ℕ → Literal  -- 28 String: its number

mutual
  -- `Expr` of parser.rs, with its kinds and its fields in order. A name is its string's number, an operator its position in its enum
  pub data Expr : Type 0 where
    Lit : Literal → Expr  -- 16 Literal
    Var : ℕ → Expr  -- 17 Variable
    Elem : ℕ → Exprs → Expr  -- 18 ArrayAccess: name, indices
    Unary : ℕ → Expr → Expr  -- 19: op, operand
    Binary : ℕ → Expr → Expr → Expr  -- 20: op, left, right
    Call : ℕ → Exprs → Expr  -- 21 FnCall: name, args
    Field : Expr → ℕ → Expr  -- 22: base, field
    Paren : Expr → Expr  -- 23

  -- several expressions
  pub data Exprs : Type 0 where
    none : Exprs
    more : Expr → Exprs → Exprs

-- ---- the words: a head of kind 16 to 28, then what it holds; kind 1 is a list, 2 a string's number, 9 an operator

-- of a literal: its own head and its one or two words
unfoldable pub words_l : Literal → List ℕ
words_l (Integer a) = word_of 24 0 ∷ a ∷ []
words_l (Long a) = word_of 25 0 ∷ a ∷ []
words_l (Single a b) = word_of 26 0 ∷ a ∷ b ∷ []
words_l (Float a b) = word_of 27 0 ∷ a ∷ b ∷ []
words_l (Text s) = word_of 28 0 ∷ word_of 2 s ∷ []

-- how many expressions (`many` of tree_stmt/specs/Sorts.antt is the sort of a list)
unfoldable pub many : Exprs → ℕ
many none = 0
many (more e es) = many es + 1

unfoldable mutual
  -- of an expression: its head, then its fields in order
  pub words : Expr → List ℕ
  words (Lit l) = word_of 16 0 ∷ words_l l
  words (Var x) = word_of 17 0 ∷ word_of 2 x ∷ []
  words (Elem x es) = word_of 18 0 ∷ word_of 2 x ∷ word_of 1 (many es) ∷ words_all es
  words (Unary o e) = word_of 19 0 ∷ word_of 9 o ∷ words e
  words (Binary o l r) = word_of 20 0 ∷ word_of 9 o ∷ words l ++ words r
  words (Call x es) = word_of 21 0 ∷ word_of 2 x ∷ word_of 1 (many es) ∷ words_all es
  words (Field e x) = word_of 22 0 ∷ words e ++ word_of 2 x ∷ []
  words (Paren e) = word_of 23 0 ∷ words e

  -- of several expressions, without the list's head
  pub words_all : Exprs → List ℕ
  words_all none = []
  words_all (more e es) = words e ++ words_all es

-- for contracts inside and proofs: how deep a tree is, an expression inside another being one deeper
unfoldable mutual
  -- how deep an expression is
  pub depth : Expr → ℕ
  depth (Lit l) = 1
  depth (Var x) = 1
  depth (Elem x es) = depths es + 1
  depth (Unary o e) = depth e + 1
  depth (Binary o l r) = max (depth l) (depth r) + 1
  depth (Call x es) = depths es + 1
  depth (Field e x) = depth e + 1
  depth (Paren e) = depth e + 1

  -- how deep several are: the deepest
  pub depths : Exprs → ℕ
  depths none = 0
  depths (more e es) = max (depth e) (depths es)

-- the high word of a finite float: its exponent isn't all ones (`finite` in fold_values/specs is the library's, of a float)
abbrev pub finite : ℕ → Bool
finite w = not (eqb ((w / 1048576) % 2048) 2047)

-- for contracts inside and proofs: a payload below n
pub record Below (n x : ℕ) : Type 0 where
  pub below : x < n
  pub fits : x < 16777216

-- the strings: how many there are, and for each a 1 where it is a name
pub record Strings : Type 0 where
  pub count : ℕ
  pub names : List ℕ

-- for contracts inside and proofs: the number of a name
pub record Named (ns : List ℕ) (x : ℕ) : Type 0 where
  pub named : eqb (get_or ns x 0) 1 ≡ true
  pub fits : x < 16777216

-- for contracts inside and proofs: the strings and the marks of a tree are right
module _ (n : ℕ) where
  -- a literal: a float is finite, a text is one of the n strings
  unfoldable pub ValidL : Literal → Type 0
  ValidL (Integer a) = Unit {0}
  ValidL (Long a) = Unit {0}
  ValidL (Single a b) = finite b ≡ true
  ValidL (Float a b) = finite b ≡ true
  ValidL (Text s) = Below n s

module _ (n : Strings) where
  unfoldable mutual
    -- an expression: its names are names, its operators within their enums, its lists short enough for a payload
    pub Valid : Expr → Type 0
    Valid (Lit l) = ValidL n.count l
    Valid (Var x) = Named n.names x
    Valid (Elem x es) = Named n.names x × (many es < 16777216) × Valids es
    Valid (Unary o e) = Below 2 o × Valid e
    Valid (Binary o l r) = Below 18 o × Valid l × Valid r
    Valid (Call x es) = Named n.names x × (many es < 16777216) × Valids es
    Valid (Field e x) = Valid e × Named n.names x
    Valid (Paren e) = Valid e

    -- each of several is valid
    pub Valids : Exprs → Type 0
    Valids none = Unit {0}
    Valids (more e es) = Valid e × Valids es

-- for proofs: the kind of a tree's head, and of a literal's (`kind_l` of tree_stmt/specs/Tree.antt is a leaf's)
unfoldable pub kind_e : Expr → ℕ
kind_e (Lit l) = 16
kind_e (Var x) = 17
kind_e (Elem x es) = 18
kind_e (Unary o e) = 19
kind_e (Binary o l r) = 20
kind_e (Call x es) = 21
kind_e (Field e x) = 22
kind_e (Paren e) = 23

-- a literal's own head
unfoldable pub kind_l : Literal → ℕ
kind_l (Integer a) = 24
kind_l (Long a) = 25
kind_l (Single a b) = 26
kind_l (Float a b) = 27
kind_l (Text s) = 28
