-- `analyse`: collecting, collisions and resolving in one call, over lent strings, tree words and erased names, into three lent buffers: rows, diagnostics and
-- resolved words. What it answers, and every word of the buffers afterwards. These are definitions.
use Rattle.std.specs.Prelude.{ℕ, ◌*◌, ◌≤◌, ◌≡◌, List, leb, length, Result, Err, Ok}
use Rattle.std.proofs.Math.Option.{some}
use Rattle.std.proofs.lemmas.List.Edits.{sets}
use Rattle.base_words.specs.Word.{pick}
use Rattle.base_words.specs.Told.{Told, stops, gives, after, unless}
use Rattle.base_words.specs.Refusals.{refused}
use Rattle.base_strings.specs.Table.{names_of}
use Rattle.base_strings.specs.Open.{Place, entry_of}
use Rattle.entry_read.specs.Sized.{sized_program}
use Rattle.entry_read.specs.Program.{accepted_of}
use Rattle.rows_table.specs.Rows.{width, note_width, Wide, Table, zeros, image}
use Rattle.collect_buffers.specs.Refused.{zeroing}
use Rattle.collect_definition.specs.Collect.{given, analysed}
use Rattle.law_equivalence.specs.Analysis.{Analysis, result_of}
use Rattle.entry_analyse.specs.declared.Given.{Given}
use Rattle.base_words.specs.declared.Refusal.{Refusal}

-- Behind the checks of sizes and strings: 2 or 3, then 4, then 10 where the output is shorter than the tree; then collecting and the collision check, which may
-- stop with 7, 8 or 9; then resolving. A room is the words that a lent buffer has.
unfoldable pub work : (rows notes out : ℕ) (bytes ends erased words : List ℕ) → Told Analysis
work rows notes out bytes ends erased words =
    after (accepted_of (names_of bytes ends) words erased) (λ p.
    unless (leb (length words) out) 10 0 (result_of p (analysed (given (some rows) (some notes) bytes ends erased) p)))

-- 5, then 1 (at a place that is left open), and then the work
unfoldable pub analysis_in : (rows notes out at : ℕ) (bytes ends erased words : List ℕ) → Told Analysis
unfolding work
analysis_in rows notes out at bytes ends erased words = entry_of (sized_program bytes ends words erased) at bytes ends (work rows notes out bytes ends erased words)

-- ---- the answer

-- document 01's number and place, or how many diagnostics, rows and resolved words there are
unfoldable pub told : Result Given Refusal → Told Given
told (Err f) = refused f
told (Ok n) = gives n

-- the same of what the definition tells
unfoldable pub counted : Told Analysis → Told Given
counted (stops n p) = stops n p
counted (gives a) = gives (record { notes = length a.diagnostics; rows = length a.rows; words = length a.resolved })

-- ---- the buffers afterwards: 7, 8 and 9 leave rows and diagnostics zero; all other numbers leave them as they came

-- the table, and zeros to the last word
unfoldable pub rows_after : List ℕ → Told Analysis → List ℕ
rows_after rows (stops n p) = pick (zeroing n) (zeros (length rows)) rows
rows_after rows (gives a) = image width (length rows) a.rows

-- the diagnostics, and zeros to the last word
unfoldable pub notes_after : List ℕ → Told Analysis → List ℕ
notes_after notes (stops n p) = pick (zeroing n) (zeros (length notes)) notes
notes_after notes (gives a) = image note_width (length notes) a.diagnostics

-- the resolved words from the start on, and what stood past them; as it came on every refusal
unfoldable pub out_after : List ℕ → Told Analysis → List ℕ
out_after out (stops n p) = out
out_after out (gives a) = sets out 0 a.resolved

-- the rows are a table, each diagnostic has its words, and all have room, so that they can be read off buffers of so many words
pub record Fits (rows notes out : ℕ) (a : Analysis) : Type 0 where
  pub table : Table 0 a.rows
  pub rows_fit : length a.rows * width ≤ rows
  pub wide : Wide note_width a.diagnostics
  pub notes_fit : length a.diagnostics * note_width ≤ notes
  pub words_fit : length a.resolved ≤ out

-- where something is given, it fits
unfoldable pub Formed : (rows notes out : ℕ) → Told Analysis → Type 0
Formed rows notes out (stops n p) = Unit {0}
Formed rows notes out (gives a) = Fits rows notes out a

-- ---- the promise

-- the answer and the buffers are what the definition u gives
pub record Tells (r : Result Given Refusal) (notes rows out notes' rows' out' : List ℕ) (u : Told Analysis) : Type 0 where
  pub answer : told r ≡ counted u
  pub notes_now : notes' ≡ notes_after notes u
  pub rows_now : rows' ≡ rows_after rows u
  pub out_now : out' ≡ out_after out u
  pub formed : Formed (length rows) (length notes) (length out) u

-- and before it, 5 and 1
pub record Analyses (bytes ends erased words : List ℕ) (r : Result Given Refusal) (notes rows out notes' rows' out' : List ℕ) : Type 0 where
  pub at : ℕ
  pub place : Place bytes ends at
  pub is : Tells r notes rows out notes' rows' out' (analysis_in (length rows) (length notes) (length out) at bytes ends erased words)
