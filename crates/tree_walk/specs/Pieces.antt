-- What stands in a tree but in no nested statement: expressions and statements, in the words' order. A walk by the table of fields meets just these.
use Rattle.std.specs.Prelude.{ℕ, List, [], ◌∷◌, ◌++◌}
use Rattle.base_words.specs.Word.{word_of}
use Rattle.tree_stmt.specs.Sorts.{Kind, sorts}
use Rattle.tree_stmt.specs.Tree.{Shape, row, Tree, word, value, Stmt, list, part, this, that, done, cons, none, more, count, kind_l}

-- E stands for an expression
pub data Piece (E : Type 0) : Type 0 where
  expr_piece : E → Piece E
  stmt_piece : (k : Kind) → (line : ℕ) → Tree E (row (sorts k)) → Piece E

-- the pieces of a tree; a statement is one, whatever stands in it
unfoldable pub pieces : {E : Type 0} {i : Shape} → Tree E i → List (Piece E)
pieces (word x) = []
pieces (value e) = expr_piece e ∷ []
pieces (Stmt k line r) = stmt_piece k line r ∷ []
pieces (list rs) = pieces rs
pieces (part r) = pieces r
pieces (this r) = pieces r
pieces (that v) = pieces v
pieces done = []
pieces (cons v r) = pieces v ++ pieces r
pieces none = []
pieces (more r rs) = pieces r ++ pieces rs

-- a tree's words, where g tells those of each piece
unfoldable pub written : {E : Type 0} {i : Shape} → (Piece E → List ℕ) → Tree E i → List ℕ
written g (word {l} x) = word_of (kind_l l) x ∷ []
written g (value e) = g (expr_piece e)
written g (Stmt k line r) = g (stmt_piece k line r)
written g (list rs) = word_of 1 (count rs) ∷ written g rs
written g (part r) = written g r
written g (this {k} r) = word_of k 0 ∷ written g r
written g (that v) = written g v
written g done = []
written g (cons v r) = written g v ++ written g r
written g none = []
written g (more r rs) = written g r ++ written g rs
