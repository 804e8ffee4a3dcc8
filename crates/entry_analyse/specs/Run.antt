-- What the contracts behind the checks of sizes and strings cite. These are definitions.
use Rattle.std.specs.Prelude.{ℕ, ◌*◌, ◌≤◌, true, ◌≡◌, List, length}
use Rattle.std.proofs.Math.Option.{some}
use Rattle.tree_stmt.specs.Tree.{Program}
use Rattle.base_words.specs.Told.{gives}
use Rattle.base_strings.specs.Table.{names_of}
use Rattle.entry_read.specs.Program.{accepted_of}
use Rattle.rows_table.specs.Rows.{width, note_width, Wide, Table}
use Rattle.collect_buffers.specs.State.{State, running, stopped}
use Rattle.collect_buffers.specs.Refused.{zeroing}
use Rattle.collect_buffers.specs.declared.Counts.{Counts}
use Rattle.collect_buffers.specs.Held.{Left}
use Rattle.collect_definition.specs.Collect.{given, analysed}
use Rattle.tree_stmt.specs.Memo.{Remembers}

-- what the memo remembers is right, whatever the strings' marks are
pub record Blank (ws memo : List ℕ) : Type 0 where
  pub gives : (ns : List ℕ) (n : ℕ) → Remembers ws ns n memo

-- what collecting and the collision check end in, in buffers of N and D words: a table with its diagnostics, or 7, 8 or 9
unfoldable pub Ends : (N D : ℕ) → State → Type 0
Ends N D (running rows notes) = Table 0 rows × (length rows * width ≤ N) × Wide note_width notes × (length notes * note_width ≤ D)
Ends N D (stopped k) = zeroing k ≡ true

-- both buffers after them, whatever program the checks passed
pub record Tabled (bytes ends erased ws : List ℕ) (r : Counts) (b d b' d' : List ℕ) : Type 0 where
  pub left : (p : Program) → accepted_of (names_of bytes ends) ws erased ≡ gives p → Left (length b) (length d) (analysed (given (some (length b)) (some (length d)) bytes ends erased) p) r b' d'
  pub ends_in : (p : Program) → accepted_of (names_of bytes ends) ws erased ≡ gives p → Ends (length b) (length d) (analysed (given (some (length b)) (some (length d)) bytes ends erased) p)
