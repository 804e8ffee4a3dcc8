-- What the scan of collecting asks and promises: whatever stands there is collected, and the lent rows stay such that a lent table may have them.
-- Definitions only.
use Rattle.std.specs.Prelude.{ℕ, ◌≤◌, ◌≡◌, List, length, get_or, Option, Some, None}
use Rattle.std.proofs.Math.Option.{some}
use Rattle.base_words.specs.Word.{kind_of}
use Rattle.tree_expr.specs.Expr.{Expr}
use Rattle.tree_stmt.specs.Sorts.{stmt, body, Kind, sorts}
use Rattle.tree_stmt.specs.Tree.{Shape, one, row, Tree, Stmt, over}
use Rattle.tree_stmt.specs.Stands.{Stands}
use Rattle.tree_views.specs.View.{view, inner, walk}
use Rattle.collect_buffers.specs.State.{State, Step, ◌⨾◌, nothing, each}
use Rattle.collect_buffers.specs.Held.{Fit, Held, Does}
use Rattle.collect_buffers.specs.declared.Counts.{Counts}
use Rattle.collect_definition.specs.Seen.{see}
use Rattle.collect_definition.specs.Collect.{Given, given, statement, collect}
use Rattle.collect_definition.specs.Code.{Named}
use Rattle.tree_walk.specs.Pieces.{Piece, expr_piece, stmt_piece}
use Rattle.tree_walk.specs.Plans.{Shallow}
use Rattle.tree_walk.specs.Items.{Item, StandsAll, outer_is}
use Rattle.law_collected_rows.specs.Good.{Good}
use Rattle.law_collected_rows.specs.Views.{Scope}

-- ---- what is asked

-- the buffers hold a state whose rows are a lent table's
pub record Kept (ns : List ℕ) (n : ℕ) (s : Counts) (b d : List ℕ) : Type 0 where
  pub fit : Fit s (length b) (length d)
  pub rows_room : ℕ
  pub notes_room : ℕ
  pub state : State
  pub held : Held rows_room notes_room state s b d
  pub good : Good ns n state

-- strings, their marks, and a scope
pub record Around (bytes ends ns : List ℕ) (scope : ℕ) : Type 0 where
  pub named : Named bytes ends ns
  pub counted : length ns ≡ length ends
  pub few : length ends ≤ 1024
  pub scoped : Scope ns (length ends) scope

-- a tree of the shape stands there
pub record Ready (i : Shape) (ws ns bytes ends : List ℕ) (scope at : ℕ) (s : Counts) (b d : List ℕ) : Type 0 where
  pub tree : Shallow i ns (length ends) 100 ws at
  pub around : Around bytes ends ns scope
  pub kept : Kept ns (length ends) s b d

-- a statement that opens no scope and may do something
pub record Alone (k : ℕ) : Type 0 where
  pub from : 64 ≤ k
  pub upto : k ≤ 93
  pub no_sub : k ≡ 84 → ⊥
  pub no_function : k ≡ 85 → ⊥

-- a SUB or FUNCTION, with its end
pub record ReadyProcedure (ws ns bytes ends : List ℕ) (scope at end : ℕ) (s : Counts) (b d : List ℕ) : Type 0 where
  pub ready : Ready (one stmt) ws ns bytes ends scope at s b d
  pub over_at_lem : ready.tree.end ≡ end
  pub from : 84 ≤ kind_of (get_or ws at 0)
  pub upto : kind_of (get_or ws at 0) ≤ 85

-- a program's list of statements, up to the words' end
pub record ReadyWhole (ws ns bytes ends : List ℕ) (scope at : ℕ) (s : Counts) (b d : List ℕ) : Type 0 where
  pub ready : Ready (one body) ws ns bytes ends scope at s b d
  pub whole : ready.tree.end ≡ length ws

-- some items stand from a place to another
pub record Scanning (ws ns bytes ends : List ℕ) (scope at to : ℕ) (s : Counts) (b d : List ℕ) : Type 0 where
  pub items : List Item
  pub there : StandsAll ws ns (length ends) 100 at items to
  pub around : Around bytes ends ns scope
  pub kept : Kept ns (length ends) s b d

-- ---- words that say nothing

-- a statement of this kind may do something
pub record Doing (k : ℕ) : Type 0 where
  pub from : 64 ≤ k
  pub upto : k ≤ 93

-- one of this kind does nothing
pub record Idle (k : ℕ) : Type 0 where
  pub no_label : k ≡ 64 → ⊥
  pub no_label_name : k ≡ 65 → ⊥
  pub no_dim : k ≡ 79 → ⊥
  pub no_shared : k ≡ 81 → ⊥
  pub no_static : k ≡ 82 → ⊥
  pub no_redim : k ≡ 83 → ⊥
  pub no_sub : k ≡ 84 → ⊥
  pub no_function : k ≡ 85 → ⊥
  pub no_const : k ≡ 89 → ⊥
  pub no_option_base : k ≡ 92 → ⊥
  pub no_type_def : k ≡ 93 → ⊥

-- how many words a scan takes at once where the kind of the first is k: a literal with its raw words, any other word that says nothing, none of a statement that may do something
pub data Takes (k : ℕ) (r : Option ℕ) : Type 0 where
  two : 24 ≤ k → k ≤ 25 → r ≡ Some 2 → Takes k r
  three : 26 ≤ k → k ≤ 27 → r ≡ Some 3 → Takes k r
  single : (24 ≤ k → k ≤ 27 → ⊥) → Idle k → r ≡ Some 1 → Takes k r
  doing : Doing k → r ≡ None → Takes k r

-- some items stand from a place to another
pub record SomeItems (ws : List ℕ) (at to : ℕ) : Type 0 where
  pub names : List ℕ
  pub strings : ℕ
  pub items : List Item
  pub there : StandsAll ws names strings 100 at items to

-- ---- what is promised

-- `collect` of a statement and its bodies
unfoldable pub piece : Given → ℕ → Piece Expr → Step
piece G scope (expr_piece e) = nothing
piece G scope (stmt_piece k line r) = statement G scope line (view k (over see r)) ⨾ walk (statement G) (inner scope (view k (over see r))) (over see r)

-- what stands at a place is collected like the items xs
pub record Past (ws ns : List ℕ) (n at to : ℕ) (xs : List Item) : Type 0 where
  pub items : List Item
  pub there : StandsAll ws ns n 100 at items to
  pub alike : (G : Given) (scope : ℕ) (st : State) → each (piece G scope) (outer_is items) st ≡ each (piece G scope) (outer_is xs) st

-- nothing is said from a place up to another
pub record Passes (ws : List ℕ) (from at to : ℕ) : Type 0 where
  pub ahead : from ≤ at
  pub past : (ns : List ℕ) (n : ℕ) (xs : List Item) → StandsAll ws ns n 100 from xs to → Past ws ns n at to xs

-- the statements of whatever items stand there are collected, each with its bodies
pub record Scanned (ws ns bytes ends erased : List ℕ) (scope at to : ℕ) (s r : Counts) (b d b' d' : List ℕ) : Type 0 where
  pub does : (xs : List Item) → StandsAll ws ns (length ends) 100 at xs to → Does (λ N D. each (piece (given (some N) (some D) bytes ends erased) scope) (outer_is xs)) s r b d b' d'
  pub kept : Kept ns (length ends) r b' d'

-- of the items xs some are left, which stand at `at`; what was done, and then these, make all of xs
pub record Left (ws ns bytes ends erased : List ℕ) (scope at to : ℕ) (xs : List Item) (s t : Counts) (b d b' d' : List ℕ) : Type 0 where
  pub items : List Item
  pub there : StandsAll ws ns (length ends) 100 at items to
  pub before : ℕ → ℕ → Step
  pub does : Does before s t b d b' d'
  pub rest : (N D : ℕ) (st : State) → each (piece (given (some N) (some D) bytes ends erased) scope) (outer_is items) (before N D st) ≡ each (piece (given (some N) (some D) bytes ends erased) scope) (outer_is xs) st

-- the same of all items that stand from one place to another, where `at` was reached
pub record SoFar (ws ns bytes ends erased : List ℕ) (scope from at to : ℕ) (s t : Counts) (b d b' d' : List ℕ) : Type 0 where
  pub ahead : from ≤ at
  pub left : (xs : List Item) → StandsAll ws ns (length ends) 100 from xs to → Left ws ns bytes ends erased scope at to xs s t b d b' d'
  pub kept : Kept ns (length ends) t b' d'

-- one statement, but for its bodies
pub record Stated (ws ns : List ℕ) (n : ℕ) (bytes ends erased : List ℕ) (scope at : ℕ) (s r : Counts) (b d b' d' : List ℕ) : Type 0 where
  pub does : (k : Kind) (line : ℕ) (fields : Tree Expr (row (sorts k))) (end : ℕ) → Stands ws ns n at (Stmt k line fields) end
      → Does (λ N D. statement (given (some N) (some D) bytes ends erased) scope line (view k (over see fields))) s r b d b' d'

-- a list of statements is collected, and the rows stay such that a lent table may have them
pub record Collects (ws ns bytes ends erased : List ℕ) (scope at next : ℕ) (s r : Counts) (b d b' d' : List ℕ) : Type 0 where
  pub does : (v : Tree Expr (one body)) (end : ℕ) → Stands ws ns (length ends) at v end → (next ≡ end) × Does (λ N D. collect (given (some N) (some D) bytes ends erased) scope (over see v)) s r b d b' d'
  pub kept : Kept ns (length ends) r b' d'
