-- What is still to come in a scan of the words from left to right: items that stand one after another. These are definitions; proofs/Front opens them.
use Rattle.std.specs.Prelude.{ℕ, ◌≤◌, ◌≡◌, Bool, true, ◌&&◌, ◌||◌, List, [], ◌∷◌, ◌++◌, ltb, eqb}
use Rattle.base_words.specs.Word.{word_of, kind_of}
use Rattle.tree_expr.specs.Expr.{Literal, Expr, Lit, Var, Elem, Unary, Binary, Field, Exprs, none, more, words_l, many as many_e, words, words_all, ValidL, Valid, Valids}
use Rattle.tree_expr.specs.Stands.{Wrote}
use Rattle.tree_stmt.specs.Sorts.{Sort, leaf, expr, stmt, many, group, either, never, Sorts, nil, ◌&◌}
use Rattle.tree_stmt.specs.Tree.{Shape, one, row, rows, Tree, word, value, Stmt, list, part, this, that, done, cons, none as nothing, more as add, kind_l, words_t, depth_t, between, strings, Right}
use Rattle.tree_walk.specs.Pieces.{Piece, expr_piece, stmt_piece, written}

-- ---- kinds that a scan takes for nothing but a word

-- neither a call, parentheses, a literal with raw words, nor a statement
unfoldable pub ordinary : ℕ → Bool
ordinary k = ltb k 21 || (eqb k 22 || between 28 64 k)

-- no leaf and no choice of the sort begins like one of those
unfoldable mutual
  -- so of a sort; what stands in an expression or a statement doesn't count
  pub quiet : Sort → Bool
  quiet (leaf l) = ordinary (kind_l l)
  quiet expr = true
  quiet stmt = true
  quiet (many ss) = quiet_r ss
  quiet (group ss) = quiet_r ss
  quiet (either k ss s) = ordinary k && (quiet_r ss && quiet s)
  quiet never = true

  -- of each sort of a row
  pub quiet_r : Sorts → Bool
  quiet_r nil = true
  quiet_r (s & ss) = quiet s && quiet_r ss

-- of a shape's sorts
unfoldable pub quiet_i : Shape → Bool
quiet_i (one s) = quiet s
quiet_i (row ss) = quiet_r ss
quiet_i (rows ss) = quiet_r ss

-- ---- items

-- a word, a literal, an expression, several, or a tree of any shape
pub data Item : Type 0 where
  -- an ordinary word
  word_item : ℕ → Item
  lit_item : Literal → Item
  expr_item : Expr → Item
  exprs_item : Exprs → Item
  tree_item : {i : Shape} → Tree Expr i → Item

-- the words of an item
unfoldable pub words_i : Item → List ℕ
words_i (word_item w) = w ∷ []
words_i (lit_item l) = words_l l
words_i (expr_item e) = words e
words_i (exprs_item es) = words_all es
words_i (tree_item v) = words_t v

-- of several, one after another
unfoldable pub words_is : List Item → List ℕ
words_is [] = []
words_is (x ∷ xs) = words_i x ++ words_is xs

-- of n strings whose marks are ns; the trees are at most d deep, and of quiet sorts
module _ (ns : List ℕ) (n d : ℕ) where
  -- an item is right: an ordinary word, a valid literal, valid expressions, or a right tree
  unfoldable pub RightI : Item → Type 0
  RightI (word_item w) = ordinary (kind_of w) ≡ true
  RightI (lit_item l) = ValidL n l
  RightI (expr_item e) = Valid (strings ns n) e
  RightI (exprs_item es) = Valids (strings ns n) es
  RightI (tree_item {i} v) = (quiet_i i ≡ true) × Right ns n v × (depth_t v ≤ d)

  -- each of several
  unfoldable pub RightIs : List Item → Type 0
  RightIs [] = Unit {0}
  RightIs (x ∷ xs) = RightI x × RightIs xs

-- the items stand there, up to an end
pub record StandsAll (ws ns : List ℕ) (n d at : ℕ) (xs : List Item) (end : ℕ) : Type 0 where
  pub wrote : Wrote ws at (words_is xs) end
  pub valid : RightIs ns n d xs

-- ---- the statements in them that stand in no other, in the words' order

-- of a tree; those inside a statement are not among them
unfoldable pub outer : {i : Shape} → Tree Expr i → List (Piece Expr)
outer (word x) = []
outer (value e) = []
outer (Stmt k line r) = stmt_piece k line r ∷ []
outer (list rs) = outer rs
outer (part r) = outer r
outer (this r) = outer r
outer (that v) = outer v
outer done = []
outer (cons v r) = outer v ++ outer r
outer nothing = []
outer (add r rs) = outer r ++ outer rs

-- those in an item
unfoldable pub outer_i : Item → List (Piece Expr)
outer_i (word_item w) = []
outer_i (lit_item l) = []
outer_i (expr_item e) = []
outer_i (exprs_item es) = []
outer_i (tree_item v) = outer v

-- those in several, one after another
unfoldable pub outer_is : List Item → List (Piece Expr)
outer_is [] = []
outer_is (x ∷ xs) = outer_i x ++ outer_is xs

-- ---- their words, where g tells those of each expression and of each statement

-- of expressions, one after another
unfoldable pub each_e : (Piece Expr → List ℕ) → Exprs → List ℕ
each_e g none = []
each_e g (more e es) = g (expr_piece e) ++ each_e g es

-- an item's
unfoldable pub written_i : (Piece Expr → List ℕ) → Item → List ℕ
written_i g (word_item w) = w ∷ []
written_i g (lit_item l) = words_l l
written_i g (expr_item e) = g (expr_piece e)
written_i g (exprs_item es) = each_e g es
written_i g (tree_item v) = written g v

-- those of several, one after another
unfoldable pub written_is : (Piece Expr → List ℕ) → List Item → List ℕ
written_is g [] = []
written_is g (x ∷ xs) = written_i g x ++ written_is g xs

-- g writes an expression part by part, but for calls and parentheses
pub record Parted (g : Piece Expr → List ℕ) : Type 0 where
  pub of_literal : (l : Literal) → g (expr_piece (Lit l)) ≡ word_of 16 0 ∷ words_l l
  pub of_variable : (x : ℕ) → g (expr_piece (Var x)) ≡ word_of 17 0 ∷ word_of 2 x ∷ []
  pub of_element : (x : ℕ) (es : Exprs) → g (expr_piece (Elem x es)) ≡ word_of 18 0 ∷ word_of 2 x ∷ word_of 1 (many_e es) ∷ each_e g es
  pub of_unary : (o : ℕ) (e : Expr) → g (expr_piece (Unary o e)) ≡ word_of 19 0 ∷ word_of 9 o ∷ g (expr_piece e)
  pub of_binary : (o : ℕ) (e f : Expr) → g (expr_piece (Binary o e f)) ≡ word_of 20 0 ∷ word_of 9 o ∷ (g (expr_piece e) ++ g (expr_piece f))
  pub of_field : (e : Expr) (x : ℕ) → g (expr_piece (Field e x)) ≡ word_of 22 0 ∷ (g (expr_piece e) ++ (word_of 2 x ∷ []))
