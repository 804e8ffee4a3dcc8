-- The listing from its parts: the text of an answer by its case, and an image's text from the parts that were read of it.
use Prim.Native.Nat.{ℕ, ◌+◌, ◌-◌, ◌*◌, ◌≤◌}
use native.Mathlib.Omega.{arith}
use mathlib.Core.Path.{◌≡◌, refl, sym, ap, ◌∙◌}
use mathlib.Core.List.{List}
use mathlib.Core.Bool.{Bool, true, false}
use mathlib.Core.Option.{none, some}
use borrow.Author.Tests.{le-leb}
use lib.ListN.{length, length-replicate, take, drop}
use Rattle.base_words.specs.Told.{Told, stops, gives, unless}
use Rattle.base_words.specs.Refusals.{number_of, refused}
use Rattle.base_words.specs.declared.Refusal.{Refusal}
use Rattle.base_text.specs.Wrote.{Wrote}
use Rattle.base_strings.specs.Table.{sound}
use Rattle.base_strings.specs.Open.{entry_of}
use Rattle.entry_read.specs.Sized.{sized_program}
use Rattle.rows_table.specs.Rows.{width, note_width, zeros}
use Rattle.collect_buffers.specs.Held.{Fresh}
use Rattle.list_image.specs.Image.{words_at, tree_from, erased_from, bytes_from, parts, decode}
use Rattle.list_image.specs.Laws.{Shaped}
use Rattle.list_page.specs.Page.{page, refusal}
use Rattle.list_page.specs.Chunks.{chunks}
use Rattle.law_equivalence.specs.Analysis.{Analysis, analysis}
use Rattle.law_equivalence.proofs.AcceptedLaws.{Within as Longer, same, rows_full, notes_full, longer_limits}
use Rattle.entry_analyse.specs.Analyse.{Analyses, Tells, work, analysis_in, told, counted}
use Rattle.entry_analyse.specs.ReadOff.{shown_of, read_off, Within, read_off_lem, within}
use Rattle.entry_analyse.specs.declared.Given.{Given}
use Rattle.listing.specs.Listing.{text_of, listed, analysed, listing}
use Rattle.listing.specs.Shown.{shown_text, answer_text, program_text, limit, too_short, WroteUnless}
use Rattle.std.specs.Prelude.{Result, Err, Ok, Option, None, Some}

-- buffers of zeros are fresh
pub made : (n m : ℕ) → Fresh true (zeros n) (zeros m)
made n m = (ap zeros (sym (length-replicate n 0)), ap zeros (sym (length-replicate m 0)))

-- ---- an answer's text

-- the place of 1 is not printed
placeless : (bytes ends : List ℕ) (s t : Bool) (at : ℕ) (u : Told Analysis) → text_of bytes ends (unless s 5 0 (unless t 1 at u)) ≡ text_of bytes ends (unless s 5 0 (unless t 1 0 u))
unfolding text_of unless
placeless bytes ends false t at u = refl
placeless bytes ends true false at u = refl
placeless bytes ends true true at u = refl

-- an output that has room for the tree never makes 10
roomy : (rows notes out at : ℕ) (bytes ends erased words : List ℕ) → length words ≤ out → analysis_in rows notes out at bytes ends erased words ≡ analysis (some rows) (some notes) at bytes ends erased words
unfolding analysis_in work analysis unless
roomy rows notes out at bytes ends erased words h = rw (le-leb (length words) out h)

shown_text_lem : (bytes ends : List ℕ) (u : Told Analysis) → shown_text bytes ends (shown_of u) ≡ text_of bytes ends u
unfolding shown_text shown_of text_of
shown_text_lem bytes ends (stops n p) = refl
shown_text_lem bytes ends (gives a) = refl

-- an answer that is neither 7 nor 8 is that of all longer buffers
refused_number : (f : Refusal) (n p : ℕ) → told (Err f) ≡ counted (stops n p) → number_of f ≡ n
unfolding told counted refused
refused_number f n p e = cc

limit_short : (r : Result Given Refusal) (n p : ℕ) → limit n ≡ true → told r ≡ counted (stops n p) → too_short r ≡ true
unfolding too_short told counted
limit_short (Err f) n p l e = rw (refused_number f n p e) l
limit_short (Ok m) n p l e = absurd (let z : ◌≡◌ {A = ℕ} 0 1 = cc in omega arith)

not_short : (r : Result Given Refusal) {t u : Told Analysis} → too_short r ≡ false → told r ≡ counted u → Longer t u → u ≡ t
unfolding limit
not_short r q e same = refl
not_short r q e rows_full = absurd (let z : ◌≡◌ {A = Bool} true false = sym (limit_short r 7 0 refl e) ∙ q in let w : ◌≡◌ {A = ℕ} 0 1 = cc in omega arith)
not_short r q e notes_full = absurd (let z : ◌≡◌ {A = Bool} true false = sym (limit_short r 8 0 refl e) ∙ q in let w : ◌≡◌ {A = ℕ} 0 1 = cc in omega arith)

-- with room for the tree, the answer's text is that of the analysis in so much room, whatever the place of 1
module _ {bytes ends erased words notes rows out notes' rows' out' : List ℕ} {r : Result Given Refusal} (a : Analyses bytes ends erased words r notes rows out notes' rows' out') (h : length words ≤ length out) where
  abbrev lent : Told Analysis
  lent = analysis (some (length rows)) (some (length notes)) a.at bytes ends erased words

  tells : Tells r notes rows out notes' rows' out' lent
  tells = rw (roomy (length rows) (length notes) (length out) a.at bytes ends erased words h) at a.is

  text_lent : answer_text bytes ends r notes' rows' out' ≡ text_of bytes ends lent
  unfolding answer_text
  text_lent = ap (shown_text bytes ends) (read_off_lem r lent tells) ∙ shown_text_lem bytes ends lent

  -- in the room that is promised
  pub text_full : length rows ≡ 12288 → length notes ≡ 12288 → answer_text bytes ends r notes' rows' out' ≡ program_text bytes ends erased words
  unfolding program_text analysis entry_of
  text_full h₁ h₂ = text_lent ∙ rw (h₁, h₂) (placeless bytes ends (sized_program bytes ends words erased) (sound bytes ends) a.at _)

  -- in less, where it was not too short
  pub text_first : too_short r ≡ false → length rows ≤ 12288 → length notes ≤ 12288 → answer_text bytes ends r notes' rows' out' ≡ program_text bytes ends erased words
  unfolding program_text analysis entry_of
  text_first q h₁ h₂ =
      text_lent
      ∙ ap (text_of bytes ends) (not_short r q tells.answer (longer_limits bytes ends erased words (length rows) (length notes) 12288 12288 a.at h₁ h₂))
      ∙ placeless bytes ends (sized_program bytes ends words erased) (sound bytes ends) a.at _

-- an answer's counts lie in the buffers
pub counts_within : {bytes ends erased words notes rows out notes' rows' out' : List ℕ} {r : Result Given Refusal} → Analyses bytes ends erased words r notes rows out notes' rows' out' → Within r notes' rows' out'
counts_within {r = r} a = within r _ a.is

module _ (bytes ends notes rows words : List ℕ) {b c : List ℕ} {i j : ℕ} {a : Result Given Refusal} where
  -- a refusal's text is its `E` line
  pub text_refused : {r : Refusal} {n : ℕ} → a ≡ Err r → n ≡ number_of r → Wrote (refusal n) b c i j → Wrote (answer_text bytes ends a notes rows words) b c i j
  unfolding answer_text shown_text read_off refused
  text_refused e k p = rw (e, ← k) p

  -- any other's is the page of what stands in the buffers
  pub text_done : {n : Given} → a ≡ Ok n → Wrote (page bytes ends (chunks note_width n.notes notes) (chunks width n.rows rows) (take n.words words)) b c i j → Wrote (answer_text bytes ends a notes rows words) b c i j
  unfolding answer_text shown_text read_off
  text_done e p = rw e p

-- the same, of the counts that were taken from it
pub within_done : (a : Result Given Refusal) (n : Given) (notes rows words : List ℕ) → a ≡ Ok n → Within a notes rows words → Within (Ok n) notes rows words
within_done a n notes rows words e h = rw e at h

-- a refusal is too short where its number is one
pub refused_short : {a : Result Given Refusal} {f : Refusal} {n : ℕ} {b : Bool} → a ≡ Err f → n ≡ number_of f → b ≡ limit n → b ≡ too_short a
unfolding too_short
refused_short e k l = rw (e, ← k) l

-- what was done is not
pub done_short : {a : Result Given Refusal} {n : Given} → a ≡ Ok n → false ≡ too_short a
unfolding too_short
done_short e = rw e refl

-- a run that was too short left all as it was
pub kept : {text b : List ℕ} → WroteUnless text b b None
kept = record { kept = λ e. refl; wrote = λ n e. cc }

-- any other wrote the text
pub written : {text b c : List ℕ} {n : ℕ} → Wrote text b c 0 n → WroteUnless text b c (Some n)
written {text} {b} {c} {n} p = record { kept = λ e. cc; wrote = λ m e. let q : m ≡ n = cc in rw q p }

-- the text under another name
pub renamed : {s t b c : List ℕ} {n : Option ℕ} → s ≡ t → WroteUnless s b c n → WroteUnless t b c n
renamed e p = rw e at p

-- after a run that was too short another begins with all as it was
pub again : {t b c d : List ℕ} {n : Option ℕ} {m : ℕ} → n ≡ None → WroteUnless t b c n → Wrote t c d 0 m → Wrote t b d 0 m
again e p w = rw (p.kept e) at w

-- ---- an image's text

-- a file that is no image lists as `E 5`
pub no_image : {b c : List ℕ} {i j : ℕ} (l : List ℕ) → decode l ≡ none → Wrote (refusal 5) b c i j → Wrote (listing l) b c i j
unfolding listing listed
no_image l e p = rw e p

-- the text of the program that was read of an image is its listing
pub image_text : {s w x k : ℕ} (l : List ℕ) → Shaped l s w x k → (bytes ends words erased : List ℕ)
    → bytes ≡ take k (drop (12 + 4 * s + 4 * w + 4 * x) l) → ends ≡ words_at l 12 s → words ≡ words_at l (12 + 4 * s) w → erased ≡ words_at l (12 + 4 * s + 4 * w) x
    → program_text bytes ends erased words ≡ listing l
unfolding program_text listing listed analysed parts tree_from erased_from bytes_from
image_text l h bytes ends words erased e₁ e₂ e₃ e₄ =
    let f₁ : bytes ≡ (parts l).bytes = e₁ ∙ rw (h.strings_are, h.words_are, h.erased_are, h.bytes_are) in
    let f₂ : ends ≡ (parts l).ends = e₂ ∙ rw h.strings_are in
    let f₃ : words ≡ (parts l).words = e₃ ∙ rw (h.strings_are, h.words_are) in
    let f₄ : erased ≡ (parts l).erased = e₄ ∙ rw (h.strings_are, h.words_are, h.erased_are) in
    rw (h.is, f₁, f₂, f₃, f₄) refl

-- a part of a slice, from its start and its size
pub from_to : (l : List ℕ) (from size : ℕ) → take (from + size - from) (drop from l) ≡ take size (drop from l)
from_to l from size =
    let e : from + size - from ≡ size = omega arith in
    rw e
