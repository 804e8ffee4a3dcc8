-- The tree: one family, by what stands there. Its words, its depth, and when it is right.
use Rattle.std.specs.Prelude.{ℕ, ◌+◌, ◌<◌, max, ◌≡◌, List, [], ◌∷◌, ◌++◌, Bool, true, ◌&&◌, ltb, leb, eqb, get_or}
use Rattle.tree_expr.specs.Expr.{Strings, Expr, words, depth, Valid}
use Rattle.base_words.specs.Word.{word_of}
use Rattle.tree_stmt.specs.Sorts.{Leaf, name, text, mark, Sort, leaf, expr, stmt, many, group, either, Sorts, nil, ◌&◌, Kind, sorts, number_of}

-- a field, a row of fields, or several rows. A row here is a row of fields, not of the table
pub data Shape : Type 0 where
  one : Sort → Shape
  row rows : Sorts → Shape

-- What stands in the place of a sort (Sorts.antt). E stands for an expression
pub data Tree (E : Type 0) : Shape → Type 0 where
  word : {l : Leaf} → ℕ → Tree E (one (leaf l))  -- a leaf: its payload
  value : E → Tree E (one expr)  -- an expression
  Stmt : (k : Kind) → ℕ → Tree E (row (sorts k)) → Tree E (one stmt)  -- a statement: kind, line, fields
  list : {ss : Sorts} → Tree E (rows ss) → Tree E (one (many ss))  -- a list: its rows
  part : {ss : Sorts} → Tree E (row ss) → Tree E (one (group ss))  -- a struct: its fields
  this : {k : ℕ} {ss : Sorts} {s : Sort} → Tree E (row ss) → Tree E (one (either k ss s))  -- a choice: the variant k with its fields; an absent option
  that : {k : ℕ} {ss : Sorts} {s : Sort} → Tree E (one s) → Tree E (one (either k ss s))  -- a choice: a later variant; a present option
  done : Tree E (row nil)  -- no more fields
  cons : {s : Sort} {ss : Sorts} → Tree E (one s) → Tree E (row ss) → Tree E (row (s & ss))  -- a field and those after it
  none : {ss : Sorts} → Tree E (rows ss)  -- no more rows
  more : {ss : Sorts} → Tree E (row ss) → Tree E (rows ss) → Tree E (rows ss)  -- a row and those after it

-- how many rows
unfoldable pub count : {E : Type 0} {ss : Sorts} → Tree E (rows ss) → ℕ
count none = 0
count (more r rs) = count rs + 1

-- the kind of a leaf's word (`kind_l` of tree_expr/specs/Expr.antt is a literal's)
abbrev pub kind_l : Leaf → ℕ
kind_l name = 2
kind_l text = 2
kind_l (mark k a b) = k

-- its words
unfoldable pub words_t : {i : Shape} → Tree Expr i → List ℕ
words_t (word {l} x) = word_of (kind_l l) x ∷ []
words_t (value e) = words e
words_t (Stmt k line r) = word_of (64 + number_of k) line ∷ words_t r
words_t (list rs) = word_of 1 (count rs) ∷ words_t rs
words_t (part r) = words_t r
words_t (this {k} r) = word_of k 0 ∷ words_t r
words_t (that v) = words_t v
words_t done = []
words_t (cons v r) = words_t v ++ words_t r
words_t none = []
words_t (more r rs) = words_t r ++ words_t rs

-- for contracts inside and proofs: its depth, a statement or an expression inside another being one deeper
unfoldable pub depth_t : {i : Shape} → Tree Expr i → ℕ
depth_t (word x) = 0
depth_t (value e) = depth e
depth_t (Stmt k line r) = depth_t r + 1
depth_t (list rs) = depth_t rs
depth_t (part r) = depth_t r
depth_t (this r) = depth_t r
depth_t (that v) = depth_t v
depth_t done = 0
depth_t (cons v r) = max (depth_t v) (depth_t r)
depth_t none = 0
depth_t (more r rs) = max (depth_t r) (depth_t rs)

-- from a to below b (`between` of base_strings/specs/Name.antt includes its end)
abbrev pub between : ℕ → ℕ → ℕ → Bool
between a b x = leb a x && ltb x b

-- n strings, and for each a 1 where it is a name (`strings` of list_image/specs/Image.antt is a file's count)
abbrev pub strings : List ℕ → ℕ → Strings
strings ns n = record { count = n; names = ns }

module _ (ns : List ℕ) (n : ℕ) where
  -- what a leaf's payload may be: n strings, of which ns says which are names
  abbrev pub ok_l : Leaf → ℕ → Bool
  ok_l name x = eqb (get_or ns x 0) 1
  ok_l text x = between 0 n x
  ok_l (mark k a b) x = between a b x

  -- for contracts inside and proofs: every word of it is right
  unfoldable pub Right : {i : Shape} → Tree Expr i → Type 0
  Right (word {l} x) = (ok_l l x ≡ true) × (x < 16777216)
  Right (value e) = Valid (strings ns n) e
  Right (Stmt k line r) = (line < 16777216) × Right r
  Right (list rs) = (count rs < 16777216) × Right rs
  Right (part r) = Right r
  Right (this r) = Right r
  Right (that v) = Right v
  Right done = Unit {0}
  Right (cons v r) = Right v × Right r
  Right none = Unit {0}
  Right (more r rs) = Right r × Right rs

-- every expression replaced
unfoldable pub over : {E F : Type 0} {i : Shape} → (E → F) → Tree E i → Tree F i
over g (word x) = word x
over g (value e) = value (g e)
over g (Stmt k line r) = Stmt k line (over g r)
over g (list rs) = list (over g rs)
over g (part r) = part (over g r)
over g (this r) = this (over g r)
over g (that v) = that (over g v)
over g done = done
over g (cons v r) = cons (over g v) (over g r)
over g none = none
over g (more r rs) = more (over g r) (over g rs)

-- a program's tree
abbrev pub Program : Type 0
Program = Tree Expr (one (many (stmt & nil)))
