-- What a program is given: its tree, its rows, its diagnostics and its resolved words, or the number that refuses it. Each pass is the very
-- definition that the code is proved against. These are definitions.
use Rattle.std.specs.Prelude.{ℕ, ◌≡◌, List}
use Rattle.std.proofs.Math.Option.{Option, none}
use Rattle.base_words.specs.Told.{Told, stops, gives, after}
use Rattle.base_strings.specs.Table.{names_of}
use Rattle.base_strings.specs.Open.{entry_of}
use Rattle.tree_stmt.specs.Tree.{words_t, Program}
use Rattle.entry_read.specs.Sized.{sized_tree, sized_program}
use Rattle.entry_read.specs.Program.{program_of, accepted_of}
use Rattle.rows_table.specs.Rows.{Row}
use Rattle.collect_buffers.specs.State.{State, running, stopped}
use Rattle.collect_definition.specs.Collect.{given, analysed}
use Rattle.resolve_definition.specs.FromRows.{tables_of}
use Rattle.resolve_definition.specs.Resolve.{resolve_array_accesses}

-- the tree, the rows, the diagnostics and the resolved words
pub record Analysis : Type 0 where
  pub tree : Program
  pub rows : List Row
  pub diagnostics : List Row
  pub resolved : List ℕ

-- the words of the tree that `resolve_array_accesses` makes of p under rows
abbrev pub resolved_under : List Row → Program → List ℕ
resolved_under rows p = words_t (resolve_array_accesses (tables_of rows) 0 p)

-- after `collect` and `check_name_collisions`: stopped, or resolved under the rows that they gave
unfoldable pub result_of : Program → State → Told Analysis
result_of p (running rows notes) = gives (record { tree = p; rows = rows; diagnostics = notes; resolved = resolved_under rows p })
result_of p (stopped n) = stops n 0

-- `rows` and `notes` are the rooms for rows and diagnostics: a room is the words that a lent buffer has, `none` where there is no limit.
-- 5, then 1 (at a place that is left open), then 2 or 3, then 4; then collecting and the collision check, which may stop; then resolving
unfoldable pub analysis : (rows notes : Option ℕ) (at : ℕ) (bytes ends erased words : List ℕ) → Told Analysis
unfolding result_of
analysis rows notes at bytes ends erased words =
    entry_of (sized_program bytes ends words erased) at bytes ends (
    after (accepted_of (names_of bytes ends) words erased) (λ p. result_of p (analysed (given rows notes bytes ends erased) p)))

-- for demand 3. Accepted: no number, where the lent buffers have no limit (the place of 1 plays no part)
abbrev pub Accepted : (bytes ends erased words : List ℕ) → Analysis → Type 0
Accepted bytes ends erased words a = analysis none none 0 bytes ends erased words ≡ gives a

-- for demand 3. Resolving words alone, under given rows: read as a tree, and resolved
unfoldable pub resolution : List Row → (at : ℕ) (bytes ends words : List ℕ) → Told (List ℕ)
resolution rows at bytes ends words =
    entry_of (sized_tree bytes ends words) at bytes ends (
    after (program_of (names_of bytes ends) words) (λ p. gives (resolved_under rows p)))
