-- A right tree stands at a place of the words, up to an end.
use Rattle.std.specs.Prelude.{ℕ, List}
use Rattle.tree_expr.specs.Expr.{Expr}
use Rattle.tree_expr.specs.Stands.{Wrote}
use Rattle.tree_stmt.specs.Tree.{Shape, Tree, words_t, Right}

-- a right tree stands from `at` to `end`
pub record Stands (ws ns : List ℕ) (n : ℕ) {i : Shape} (at : ℕ) (v : Tree Expr i) (end : ℕ) : Type 0 where
  pub wrote : Wrote ws at (words_t v) end
  pub valid : Right ns n v

-- some tree of the shape stands there
pub record SomeTree (i : Shape) (ws : List ℕ) (at : ℕ) : Type 0 where
  pub names : List ℕ
  pub strings : ℕ
  pub tree : Tree Expr i
  pub end : ℕ
  pub stands : Stands ws names strings at tree end
