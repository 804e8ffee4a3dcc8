-- What the inner contracts cite: the text of an answer and of what stands in the buffers behind it, the text of a program, and which answers ask for more room.
-- These are definitions.
use Rattle.std.specs.Prelude.{ℕ, ◌*◌, ◌≡◌, Bool, false, ◌||◌, List, eqb, Result, Err, Ok, Option, None, Some}
use Rattle.std.proofs.Math.Option.{some}
use Rattle.base_words.specs.Told.{Told, stops, gives}
use Rattle.base_words.specs.Refusals.{number_of}
use Rattle.base_text.specs.Wrote.{Wrote}
use Rattle.rows_table.specs.Rows.{width, note_width}
use Rattle.list_page.specs.Page.{page, refusal}
use Rattle.law_equivalence.specs.Analysis.{analysis}
use Rattle.entry_analyse.specs.ReadOff.{Shown, read_off}
use Rattle.listing.specs.Listing.{text_of}
use Rattle.base_words.specs.declared.Refusal.{Refusal}
use Rattle.entry_analyse.specs.declared.Given.{Given}

-- the text of what was read off, or of its number
unfoldable pub shown_text : (bytes ends : List ℕ) → Told Shown → List ℕ
shown_text bytes ends (stops n p) = refusal n
shown_text bytes ends (gives s) = page bytes ends s.diagnostics s.rows s.resolved

-- the text of an answer, with the buffers behind it
unfoldable pub answer_text : (bytes ends : List ℕ) → Result Given Refusal → (notes rows words : List ℕ) → List ℕ
answer_text bytes ends a notes rows words = shown_text bytes ends (read_off a notes rows words)

-- the text of a program's parts, with the rows and diagnostics that are promised
unfoldable pub program_text : (bytes ends erased words : List ℕ) → List ℕ
program_text bytes ends erased words = text_of bytes ends (analysis (some (2048 * width)) (some (2048 * note_width)) 0 bytes ends erased words)

-- the numbers of too little room for rows and for diagnostics
unfoldable pub limit : ℕ → Bool
limit n = eqb n 7 || eqb n 8

-- an answer that is one of them
unfoldable pub too_short : Result Given Refusal → Bool
too_short (Err f) = limit (number_of f)
too_short (Ok n) = false

-- what a run in lent buffers leaves: the text up to the place that it answers, or where they were too short all as it was
pub record WroteUnless (text before after : List ℕ) (next : Option ℕ) : Type 0 where
  pub kept : next ≡ None → after ≡ before
  pub wrote : (at : ℕ) → next ≡ Some at → Wrote text before after 0 at
