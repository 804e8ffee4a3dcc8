-- `collect` as an entry: over lent strings, tree words and erased names, into two lent buffers, rows and diagnostics. What it tells, and every word of the
-- buffers afterwards. Definitions only.
use Rattle.std.specs.Prelude.{ℕ, ◌≡◌, List, length, Result, Err, Ok}
use Rattle.std.proofs.Math.Option.{some}
use Rattle.tree_stmt.specs.Tree.{Program}
use Rattle.base_words.specs.Word.{pick}
use Rattle.base_words.specs.Told.{Told, stops, gives, after}
use Rattle.base_words.specs.Refusals.{refused}
use Rattle.base_strings.specs.Table.{names_of}
use Rattle.base_strings.specs.Open.{Answers}
use Rattle.entry_read.specs.Sized.{sized_program}
use Rattle.entry_read.specs.Program.{accepted_of}
use Rattle.rows_table.specs.Rows.{width, note_width, zeros, image}
use Rattle.collect_buffers.specs.State.{State, running, stopped}
use Rattle.collect_buffers.specs.Refused.{zeroing}
use Rattle.collect_buffers.specs.Held.{Left}
use Rattle.collect_buffers.specs.declared.Counts.{Counts}
use Rattle.collect_definition.specs.Collect.{given, collected}
use Rattle.law_collected_rows.specs.Good.{Good}
use Rattle.base_words.specs.declared.Refusal.{Refusal}
use Rattle.entry_collect.specs.declared.Sizes.{Sizes}

-- how many rows and diagnostics there are, and the words of both buffers
pub record Buffers : Type 0 where
  pub rows : ℕ
  pub notes : ℕ
  pub row_words : List ℕ
  pub note_words : List ℕ

-- ---- the definition

-- what a run ends in, in buffers of N and D words: the rows and the diagnostics with zeros after them, or its number
unfoldable pub buffers_of : (N D : ℕ) → State → Told Buffers
buffers_of N D (running rows notes) = gives (record { rows = length rows; notes = length notes; row_words = image width N rows; note_words = image note_width D notes })
buffers_of N D (stopped n) = stops n 0

-- behind the checks of sizes and strings: 2 or 3, then 4; then collecting, which may stop with 7, 8 or 9
unfoldable pub work : (N D : ℕ) (bytes ends erased words : List ℕ) → Told Buffers
unfolding buffers_of
work N D bytes ends erased words = after (accepted_of (names_of bytes ends) words erased) (λ p. buffers_of N D (collected (given (some N) (some D) bytes ends erased) p))

-- ---- the answer, with both buffers as they are afterwards

-- document 01's number and place, or the counts and what stands in the buffers
unfoldable pub told : (b d : List ℕ) → Result Sizes Refusal → Told Buffers
told b d (Err f) = refused f
told b d (Ok n) = gives (record { rows = n.rows; notes = n.notes; row_words = b; note_words = d })

-- 7, 8 and 9 leave both buffers zero; all other numbers leave them as they came
abbrev pub left_by : ℕ → List ℕ → List ℕ
left_by n b = pick (zeroing n) (zeros (length b)) b

-- both buffers after a refusal; else their words are told
abbrev pub Leaves : Told Buffers → (b d b' d' : List ℕ) → Type 0
Leaves (stops n p) b d b' d' = (b' ≡ left_by n b) × (d' ≡ left_by n d)
Leaves (gives t) b d b' d' = Unit {0}

-- ---- the promises

-- it tells u
pub record Tells (r : Result Sizes Refusal) (b d b' d' : List ℕ) (u : Told Buffers) : Type 0 where
  pub is : told b' d' r ≡ u
  pub leaves : Leaves u b d b' d'

-- and before it, 5 and 1
pub record Entered (bytes ends erased words : List ℕ) (r : Result Sizes Refusal) (b d b' d' : List ℕ) : Type 0 where
  pub answers : Answers (sized_program bytes ends words erased) bytes ends (told b' d' r) (work (length b) (length d) bytes ends erased words)
  pub leaves : Leaves (told b' d' r) b d b' d'

-- ---- inside

-- both buffers after collecting, whatever program the checks passed
pub record Tabled (bytes ends erased words ns : List ℕ) (r : Counts) (b d b' d' : List ℕ) : Type 0 where
  pub left : (p : Program) → accepted_of (names_of bytes ends) words erased ≡ gives p → Left (length b) (length d) (collected (given (some (length b)) (some (length d)) bytes ends erased) p) r b' d'
  pub good : (p : Program) → accepted_of (names_of bytes ends) words erased ≡ gives p → Good ns (length ends) (collected (given (some (length b)) (some (length d)) bytes ends erased) p)
