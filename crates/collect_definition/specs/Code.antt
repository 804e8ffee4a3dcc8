-- What the code of a statement asks of the words, and what it promises: the very step that `statement` is, on the two lent buffers. Definitions only.
use Rattle.std.specs.Prelude.{ℕ, ◌≤◌, List, ◌≡◌, true}
use Rattle.std.proofs.Math.Option.{some}
use Rattle.base_strings.specs.Table.{sound, names_of}
use Rattle.tree_expr.specs.Expr.{Expr}
use Rattle.tree_stmt.specs.Sorts.{Kind, sorts}
use Rattle.tree_stmt.specs.Tree.{row, Tree, Stmt, depth_t, over}
use Rattle.tree_stmt.specs.Stands.{Stands}
use Rattle.tree_views.specs.View.{view}
use Rattle.collect_buffers.specs.declared.Counts.{Counts}
use Rattle.collect_buffers.specs.Held.{Does}
use Rattle.collect_definition.specs.Seen.{see}
use Rattle.collect_definition.specs.Collect.{given, statement}

-- a statement of the kind stands there, where ns says which of n strings are names
pub record StmtAt (ns : List ℕ) (n : ℕ) (k : Kind) (ws : List ℕ) (at : ℕ) : Type 0 where
  pub line : ℕ
  pub fields : Tree Expr (row (sorts k))
  pub end : ℕ
  pub stands : Stands ws ns n at (Stmt k line fields) end
  pub shallow : depth_t fields ≤ 100

-- what it does to the rows b and the diagnostics d, but for its bodies, whatever statement of the kind stands there
pub record Collects (ns : List ℕ) (n : ℕ) (k : Kind) (ws bytes ends erased : List ℕ) (scope at : ℕ) (s r : Counts) (b d b' d' : List ℕ) : Type 0 where
  pub does : (line : ℕ) (fields : Tree Expr (row (sorts k))) (end : ℕ) → Stands ws ns n at (Stmt k line fields) end
      → Does (λ N D. statement (given (some N) (some D) bytes ends erased) scope line (view k (over see fields))) s r b d b' d'

-- a statement of the kind stands there, with whatever names and strings
pub record SomeStmt (k : Kind) (ws : List ℕ) (at : ℕ) : Type 0 where
  pub names : List ℕ
  pub strings : ℕ
  pub stmt : StmtAt names strings k ws at

-- what it does, with whatever names, strings and erased names
pub record CollectsAny (k : Kind) (ws : List ℕ) (scope at : ℕ) (s r : Counts) (b d b' d' : List ℕ) : Type 0 where
  pub all : (ns : List ℕ) (n : ℕ) (bytes ends erased : List ℕ) → Collects ns n k ws bytes ends erased scope at s r b d b' d'

-- the strings are sound, and the marks say which are names
pub record Named (bytes ends marks : List ℕ) : Type 0 where
  pub strings : sound bytes ends ≡ true
  pub names : marks ≡ names_of bytes ends
