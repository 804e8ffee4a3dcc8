-- What the code of SHARED and STATIC tells of an item, and does for it. Definitions only.
use Rattle.std.specs.Prelude.{ℕ, ◌*◌, ◌≤◌, ◌≡◌, List, [], ◌∷◌, eqb, length}
use Rattle.std.proofs.Math.Option.{some}
use Rattle.base_words.specs.Word.{pick}
use Rattle.tree_expr.specs.Expr.{Expr}
use Rattle.tree_stmt.specs.Sorts.{many, ScopeItem as ItemRow}
use Rattle.tree_stmt.specs.Tree.{Tree, one, row as row_shape}
use Rattle.tree_stmt.specs.Stands.{Stands}
use Rattle.rows_table.specs.Rows.{width, find}
use Rattle.rows_kinds.specs.Kinds.{row, entry_key, row_word}
use Rattle.tree_views.specs.View.{ScopeItem, scope_item, items}
use Rattle.collect_buffers.specs.State.{Step, asking, each}
use Rattle.collect_buffers.specs.declared.Counts.{Counts}
use Rattle.collect_buffers.specs.Held.{Rows}
use Rattle.collect_definition.specs.Collect.{Given, given, entry, marked, item_type}
use Rattle.collect_as_clause.specs.Parts.{written_if}
use Rattle.collect_shared_static.specs.declared.ItemAt.{ItemAt}

-- what was read is the item
pub record Reads (i : ItemAt) (item : ScopeItem) : Type 0 where
  pub name_is : i.name ≡ item.name
  pub array_is : i.array ≡ item.array
  pub ty_is : i.ty ≡ written_if item.ty

-- whatever item stands there
pub record ItemIs (ws : List ℕ) (at : ℕ) (i : ItemAt) : Type 0 where
  pub is : (ns : List ℕ) (n : ℕ) (r : Tree Expr (row_shape ItemRow)) (end : ℕ) → Stands ws ns n at r end → Reads i (scope_item r) × (i.next ≡ end)

-- an item's row of a kind: 134 its type, else its marks
unfoldable pub item_as : Given → (kind scope : ℕ) → ScopeItem → Step
item_as G kind scope i =
    pick (eqb kind 134) (item_type G scope i) (
    asking (λ rows. entry G (row kind i.name (scope ∷ marked i.array (row_word 2 (find (entry_key kind i.name scope) rows)) ∷ []))))

-- what is done for an item, and for all of a list
pub record Enters (kind scope : ℕ) (i : ItemAt) (s r : Counts) (b b' : List ℕ) : Type 0 where
  pub does : (item : ScopeItem) → Reads i item → (bytes ends erased : List ℕ) → Rows (λ N D. item_as (given (some N) (some D) bytes ends erased) kind scope item) s r b b'
  pub room : r.rows * width ≤ length b'

-- the same of all items of the list that stands there
pub record EntersAll (ws : List ℕ) (at kind scope : ℕ) (s r : Counts) (b b' : List ℕ) : Type 0 where
  pub does : (ns : List ℕ) (n : ℕ) (v : Tree Expr (one (many ItemRow))) (end : ℕ) → Stands ws ns n at v end
      → (bytes ends erased : List ℕ) → Rows (λ N D. each (item_as (given (some N) (some D) bytes ends erased) kind scope) (items scope_item v)) s r b b'
  pub room : r.rows * width ≤ length b'
