-- What the contracts of a walk by the table of fields cite. These are definitions.
use Rattle.std.specs.Prelude.{ℕ, ◌+◌, ◌*◌, ◌<◌, ◌≤◌, ◌≡◌, List, [], ◌++◌, length, take, drop, get_or}
use Rattle.tree_expr.specs.Expr.{Expr}
use Rattle.tree_stmt.specs.Sorts.{Sort, Sorts, Kind, sorts}
use Rattle.tree_stmt.specs.Tree.{Shape, one, row, rows, Tree, Stmt, count, words_t, depth_t}
use Rattle.tree_stmt.specs.Stands.{Stands, SomeTree}
use Rattle.tree_stmt.specs.Codes.{codes, row_of}
use Rattle.tree_stmt.proofs.Steps.{size_s, size_r}
use Rattle.tree_views.specs.View.{view, inner}
use Rattle.tree_walk.specs.Pieces.{Piece, pieces, written}

-- a field that is c words, in which no expression stands, and then so many times a row: the same pieces, and after these words the same words
pub record Opened (ws ns : List ℕ) (n at end : ℕ) {s : Sort} (v : Tree Expr (one s)) (c r k : ℕ) : Type 0 where
  pub inner : Tree Expr (rows (row_of r))
  pub counted : count inner ≡ k
  pub there : Stands ws ns n (at + c) inner end
  pub is : pieces v ≡ pieces inner
  pub after : (g : Piece Expr → List ℕ) → written g v ≡ take c (drop at ws) ++ written g inner
  pub deep : depth_t v ≡ depth_t inner

-- so it is of whatever field of the sort stands there
pub record Planned (s : Sort) (ws : List ℕ) (at c r k : ℕ) : Type 0 where
  pub opens : (ns : List ℕ) (n : ℕ) (v : Tree Expr (one s)) (end : ℕ) → Stands ws ns n at v end → Opened ws ns n at end v c r k
  -- either a word is taken, or the row is a smaller one
  pub falls : size_r (row_of r) < c * 1000 + size_s s

-- a tree of w words in which no expression and no statement stands
pub record Plain (w : ℕ) {i : Shape} (v : Tree Expr i) : Type 0 where
  pub wide : length (words_t v) ≡ w
  pub is : pieces v ≡ []
  pub same : (g : Piece Expr → List ℕ) → written g v ≡ words_t v
  pub deep : depth_t v ≡ 0

-- every tree of the row is plain and has w words, at most two
pub record Flat (r w : ℕ) : Type 0 where
  pub small : w ≤ 2
  pub plain : (v : Tree Expr (row (row_of r))) → Plain w v

-- a sort of the table of fields
pub record Listed (sort : ℕ) : Type 0 where
  pub row : ℕ
  pub place : ℕ
  pub is : sort ≡ get_or (codes row) place 0

-- the scope of the bodies of the statement there
pub record InsideAt (ws : List ℕ) (at scope within : ℕ) : Type 0 where
  pub fits : within ≤ 16777216
  pub gives : (ns : List ℕ) (n : ℕ) (k : Kind) (line : ℕ) (r : Tree Expr (row (sorts k))) (end : ℕ) → Stands ws ns n at (Stmt k line r) end → within ≡ inner scope (view k r)

-- a tree of the shape stands there, of n strings whose marks are ns, at most d deep
pub record Shallow (i : Shape) (ns : List ℕ) (n d : ℕ) (ws : List ℕ) (at : ℕ) : Type 0 where
  pub tree : Tree Expr i
  pub end : ℕ
  pub stands : Stands ws ns n at tree end
  pub shallow : depth_t tree ≤ d

-- so many rows of fields
pub record ShallowRows (ss : Sorts) (k : ℕ) (ns : List ℕ) (n d : ℕ) (ws : List ℕ) (at : ℕ) : Type 0 where
  pub tree : Tree Expr (rows ss)
  pub end : ℕ
  pub stands : Stands ws ns n at tree end
  pub counted : count tree ≡ k
  pub shallow : depth_t tree ≤ d

-- some so many rows of fields
pub record SomeRows (ss : Sorts) (k : ℕ) (ws : List ℕ) (at : ℕ) : Type 0 where
  pub some : SomeTree (rows ss) ws at
  pub counted : count some.tree ≡ k

-- What a walk promises: whatever tree of the shape stands at `at`, it ends at `to`, and P holds of what stands in it.
pub record Walks (i : Shape) (ws : List ℕ) (at to : ℕ) (P : List ℕ → ℕ → List (Piece Expr) → Type 0) : Type 0 where
  pub gives : (ns : List ℕ) (n : ℕ) (v : Tree Expr i) (end : ℕ) → Stands ws ns n at v end → (to ≡ end) × P ns n (pieces v)

-- the same of so many rows
pub record WalksRows (ss : Sorts) (k : ℕ) (ws : List ℕ) (at to : ℕ) (P : List ℕ → ℕ → List (Piece Expr) → Type 0) : Type 0 where
  pub gives : (ns : List ℕ) (n : ℕ) (v : Tree Expr (rows ss)) (end : ℕ) → Stands ws ns n at v end → count v ≡ k → (to ≡ end) × P ns n (pieces v)
