-- What an answer and the buffers show, read off them by the answer's counts, is what the definition gives: for a caller that prints them. Assumes nothing.
use Rattle.std.specs.Prelude.{ℕ, ◌+◌, ◌*◌, ◌≤◌, ◌≡◌, List, length, take, drop, Result, Err, Ok}
use Rattle.std.proofs.Common.{arith, ap, ◌∙◌, take_at}
use Rattle.std.proofs.Math.Path.{refl}
use Rattle.std.proofs.lemmas.List.Edits.{sets, sets-eq}
use Rattle.std.proofs.Math.Seq.{length-sets}
use Rattle.base_words.specs.Told.{Told, stops, gives}
use Rattle.base_words.specs.Refusals.{refused}
use Rattle.base_words.specs.declared.Refusal.{Refusal}
use Rattle.rows_table.specs.Rows.{Row, width, note_width, image, Filled}
use Rattle.rows_table.specs.Images.{filled_image, length_image, table_wide}
use Rattle.list_page.specs.Chunks.{chunks, chunks_filled}
use Rattle.law_equivalence.specs.Analysis.{Analysis}
use Rattle.entry_analyse.specs.Analyse.{Fits, Formed, told, counted, rows_after, notes_after, out_after, Tells}
use Rattle.entry_analyse.specs.declared.Given.{Given}

-- what a program is given, but for its tree
pub record Shown : Type 0 where
  pub rows : List Row
  pub diagnostics : List Row
  pub resolved : List ℕ

-- what the definition gives, but for the tree; or its number and place
unfoldable pub shown_of : Told Analysis → Told Shown
shown_of (stops n p) = stops n p
shown_of (gives a) = gives (record { rows = a.rows; diagnostics = a.diagnostics; resolved = a.resolved })

-- the same from the answer and the buffers
unfoldable pub read_off : Result Given Refusal → (notes rows out : List ℕ) → Told Shown
read_off (Err f) notes rows out = refused f
read_off (Ok n) notes rows out = gives (record { rows = chunks width n.rows rows; diagnostics = chunks note_width n.notes notes; resolved = take n.words out })

-- an answer's counts lie in the buffers
abbrev pub Within : Result Given Refusal → (notes rows out : List ℕ) → Type 0
Within (Err f) notes rows out = Unit {0}
Within (Ok n) notes rows out = (n.notes * note_width ≤ length notes) × (n.rows * width ≤ length rows) × (n.words ≤ length out)

-- ---- answers case by case

refused_as : (f : Refusal) (u : Told Analysis) (notes rows out : List ℕ) → told (Err f) ≡ counted u → read_off (Err f) notes rows out ≡ shown_of u
unfolding told counted refused read_off shown_of
refused_as f (stops n p) notes rows out e = cc
refused_as f (gives a) notes rows out e = absurd (let z : ◌≡◌ {A = ℕ} 0 1 = cc in omega arith)

done_not : (n : Given) (m p : ℕ) → told (Ok n) ≡ counted (stops m p) → ⊥
unfolding told counted
done_not n m p e = let z : ◌≡◌ {A = ℕ} 0 1 = cc in omega arith

done_counts : (n : Given) (a : Analysis) → told (Ok n) ≡ counted (gives a) → n ≡ record { notes = length a.diagnostics; rows = length a.rows; words = length a.resolved }
unfolding told counted
done_counts n a e = cc

-- ---- the buffers

module _ {r n o : ℕ} (a : Analysis) (F : Fits r n o a) where
  rows_filled : Filled width a.rows (length a.rows) (image width r a.rows)
  rows_filled = filled_image width r a.rows (table_wide 0 a.rows F.table) F.rows_fit

  notes_filled : Filled note_width a.diagnostics (length a.diagnostics) (image note_width n a.diagnostics)
  notes_filled = filled_image note_width n a.diagnostics F.wide F.notes_fit

words_read : (out xs : List ℕ) → length xs ≤ length out → take (length xs) (sets out 0 xs) ≡ xs
words_read out xs h = ap (take (length xs)) (sets-eq xs out 0 (omega arith)) ∙ take_at xs (drop (0 + length xs) out) (length xs) refl

module _ {notes rows out notes' rows' out' : List ℕ} where
  shown : (n : Given) (a : Analysis) → Tells (Ok n) notes rows out notes' rows' out' (gives a) → read_off (Ok n) notes' rows' out' ≡ shown_of (gives a)
  unfolding read_off shown_of rows_after notes_after out_after Formed
  shown n a t = rw (done_counts n a t.answer, t.rows_now, t.notes_now, t.out_now, chunks_filled (rows_filled a t.formed), chunks_filled (notes_filled a t.formed), words_read out a.resolved t.formed.words_fit) refl

  lies : (n : Given) (a : Analysis) → Tells (Ok n) notes rows out notes' rows' out' (gives a) → Within (Ok n) notes' rows' out'
  unfolding rows_after notes_after out_after Formed
  lies n a t =
      let F = t.formed in
      rw (done_counts n a t.answer, t.rows_now, t.notes_now, t.out_now) (
        omega (arith, F.notes_fit, length_image note_width (length notes) a.diagnostics F.wide F.notes_fit),
        omega (arith, F.rows_fit, length_image width (length rows) a.rows (table_wide 0 a.rows F.table) F.rows_fit),
        omega (arith, F.words_fit, length-sets out 0 a.resolved),
      )

  -- what is read off is what the definition gives
  pub read_off_lem : (r : Result Given Refusal) (u : Told Analysis) → Tells r notes rows out notes' rows' out' u → read_off r notes' rows' out' ≡ shown_of u
  read_off_lem (Err f) u t = refused_as f u notes' rows' out' t.answer
  read_off_lem (Ok n) (stops m p) t = absurd (done_not n m p t.answer)
  read_off_lem (Ok n) (gives a) t = shown n a t

  -- and the counts lie in the buffers
  pub within : (r : Result Given Refusal) (u : Told Analysis) → Tells r notes rows out notes' rows' out' u → Within r notes' rows' out'
  within (Err f) u t = tt
  within (Ok n) (stops m p) t = absurd (done_not n m p t.answer)
  within (Ok n) (gives a) t = lies n a t
