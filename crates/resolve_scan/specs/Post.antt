-- What the contracts of resolving statements cite. These are definitions.
use Rattle.std.specs.Prelude.{ℕ, ◌+◌, ◌≤◌, ◌<◌, ◌≡◌, List, ◌++◌, length}
use Rattle.std.proofs.lemmas.List.Edits.{sets}
use Rattle.base_words.specs.Sizes.{max_strings, max_depth}
use Rattle.tree_expr.specs.Expr.{Expr, words}
use Rattle.tree_stmt.specs.Sorts.{stmt}
use Rattle.tree_stmt.specs.Tree.{one, Tree, Stmt, words_t, depth_t, Program}
use Rattle.tree_stmt.specs.Stands.{Stands}
use Rattle.tree_walk.specs.Pieces.{Piece, expr_piece, stmt_piece}
use Rattle.tree_walk.specs.Items.{Item, StandsAll, written_is}
use Rattle.rows_table.specs.Rows.{Row, Holds}
use Rattle.resolve_definition.specs.Tables.{Tables, nowhere}
use Rattle.resolve_definition.specs.FromRows.{tables_of}
use Rattle.resolve_definition.specs.Resolve.{resolve_expr, resolve_tree, resolve_array_accesses}
use Rattle.resolve_exprs.specs.Post.{Room, Put}

-- the words of each piece of what is still to come, resolved in the scope σ
abbrev pub resolved : Tables → ℕ → Piece Expr → List ℕ
resolved T σ (expr_piece e) = words (resolve_expr T σ e)
resolved T σ (stmt_piece k line r) = words_t (resolve_tree T σ nowhere (Stmt k line r))

-- ---- a step of the scan

-- Of the items xs from `at` to `end` those left stand at a; what is written reaches t, and with what is left, resolved, it is all. Strings' marks are ns.
pub record Moved (T : Tables) (σ : ℕ) (ns ws : List ℕ) (xs : List Item) (at end to : ℕ) (out : List ℕ) (a t : ℕ) (now : List ℕ) : Type 0 where
  pub left : List Item
  pub there : StandsAll ws ns (length ns) max_depth a left end
  pub wrote : List ℕ
  pub upto : t ≡ to + length wrote
  pub short : at + length wrote ≤ a
  pub is : now ≡ sets out to wrote
  pub rest : written_is (resolved T σ) xs ≡ wrote ++ written_is (resolved T σ) left

-- items stand there, and they are not over
pub record ReadyToken (ns ws buf : List ℕ) (count scope at to size : ℕ) : Type 0 where
  pub room : Room ws buf count scope at to size
  pub few : length ns ≤ max_strings
  pub items : List Item
  pub end : ℕ
  pub there : StandsAll ws ns (length ns) max_depth at items end
  pub before : at < end

-- whatever rows the buffer holds, and whatever items stand there
pub record DoneToken (ns ws buf out last : List ℕ) (count scope at to at' to' : ℕ) : Type 0 where
  pub gives : (rs : List Row) → Holds rs count buf → (xs : List Item) (end : ℕ) → StandsAll ws ns (length ns) max_depth at xs end → at < end → Moved (tables_of rs) scope ns ws xs at end to out at' to' last × (at < at')

-- ---- the scan, up to an end

-- items stand from `at` to `end`, and there is room for what is written of them
pub record ReadyScan (ns ws buf : List ℕ) (count scope at end to size : ℕ) : Type 0 where
  pub room : Room ws buf count scope at to size
  pub few : length ns ≤ max_strings
  pub items : List Item
  pub there : StandsAll ws ns (length ns) max_depth at items end

-- whatever items stand there: their resolved words are written from `to` on
pub record DoneScan (ns ws buf out last : List ℕ) (count scope at end to to' : ℕ) : Type 0 where
  pub gives : (rs : List Row) → Holds rs count buf → (xs : List Item) → StandsAll ws ns (length ns) max_depth at xs end → Put (written_is (resolved (tables_of rs) scope) xs) out last to end to' end

-- ---- a statement, a program

-- the place past the statement there
pub record PastStmt (ns ws : List ℕ) (at end : ℕ) : Type 0 where
  pub gives : (v : Tree Expr (one stmt)) (e : ℕ) → Stands ws ns (length ns) at v e → depth_t v ≤ max_depth → end ≡ e

-- some program is all of the words, of strings whose marks are ns
pub record ReadyProgram (ns ws buf : List ℕ) (count size : ℕ) : Type 0 where
  pub room : Room ws buf count 0 0 0 size
  pub few : length ns ≤ max_strings
  pub program : Program
  pub stands : Stands ws ns (length ns) 0 program (length ws)
  pub shallow : depth_t program ≤ max_depth

-- whatever rows the buffer holds, and whatever program that is
pub record ResolvedProgram (ns ws buf out last : List ℕ) (count to' : ℕ) : Type 0 where
  pub gives : (rs : List Row) → Holds rs count buf → (p : Program) → Stands ws ns (length ns) 0 p (length ws) → Put (words_t (resolve_array_accesses (tables_of rs) 0 p)) out last 0 (length ws) to' (length ws)
