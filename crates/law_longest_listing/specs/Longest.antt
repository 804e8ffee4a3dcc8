-- THE LAW: the listing of a file of bytes has at most 722,946 bytes: 2,048 diagnostics of at most 261, 2,048 rows of 56, and an R line of at most 8,192
-- words of 9. Assumes nothing.
use Rattle.std.specs.Prelude.{ℕ, zero, suc, ◌+◌, ◌*◌, ◌≤◌, ◌≡◌, refl, true, leb, take, drop}
use native.Mathlib.Omega.{arith}
use Rattle.std.proofs.Common.{sym, subst, leb-true, le-leb, take_at}
use Rattle.std.proofs.Math.Path.{ap}
use mathlib.Core.List.{List, [], ◌∷◌, ◌++◌, flat_map}
use Rattle.std.proofs.Math.Option.{Option, none, some}
use Rattle.std.proofs.Math.ListN.{length, length-append}
use Rattle.base_words.specs.Told.{Told, stops, gives}
use Rattle.base_words.specs.Each.{Each}
use Rattle.base_strings.specs.Table.{names_of}
use Rattle.base_text.specs.Text.{ascii, hex8, decimal}
use Rattle.base_text.specs.Wrote.{size, laid}
use Rattle.tree_stmt.specs.Tree.{words_t}
use Rattle.entry_read.specs.Whole.{Whole, program_whole}
use Rattle.rows_table.specs.Rows.{Row, width, note_width}
use Rattle.rows_table.specs.Each.{wide_each}
use Rattle.rows_table.specs.Images.{table_wide}
use Rattle.fold_const_eval.specs.EvalLaws.{Words32}
use Rattle.list_image.specs.Image.{Image, decode}
use Rattle.list_image.specs.File.{Small, Octets, Right, right_decoded}
use Rattle.list_page.specs.Page.{word, line, diag_of, page, refusal}
use Rattle.list_message.specs.Message.{lines}
use Rattle.collect_buffers.specs.State.{running, fits}
use Rattle.collect_definition.specs.Collect.{Given, given}
use Rattle.resolve_definition.specs.Tables.{nowhere}
use Rattle.resolve_definition.specs.FromRows.{tables_of}
use Rattle.resolve_definition.specs.Resolve.{resolve_array_accesses}
use Rattle.resolve_definition.specs.Keeps.{shorter_tree}
use Rattle.law_equivalence.specs.Analysis.{Analysis}
use Rattle.law_equivalence.specs.AnalysisLaws.{Known as Accepts, known, reads}
use Rattle.law_collected_rows.specs.Good.{FineNote, Good, Bounded}
use Rattle.law_collected_rows.specs.Views.{Known, stands_known}
use Rattle.law_collected_rows.specs.Lawful.{analysed_good, analysed_bounded}
use Rattle.listing.specs.Listing.{text_of, listed, analysed, listing}
use Rattle.law_longest_listing.specs.Lines.{decimal_short, newline, Names, lines_short}

-- ---- lines of words

words_long : (ws : List ℕ) → length (flat_map word ws) ≡ 9 * length ws
unfolding flat_map word hex8
words_long [] = omega arith
words_long (w ∷ ws) = simp length-append (omega (arith, words_long ws))

line_long : (letter : ℕ) (ws : List ℕ) → length (line letter ws) ≡ 2 + 9 * length ws
unfolding line
line_long letter ws = omega (arith, words_long ws, length-append (flat_map word ws) (ascii "\n"), newline)

-- ---- parts of a page

rows_long : (rows : List Row) → Each (λ r. length r ≡ width) rows → length (flat_map (line 84) rows) ≡ 56 * length rows
unfolding flat_map Each
rows_long [] a = omega arith
rows_long (r ∷ rs) a = omega (arith, a.0, line_long 84 r, rows_long rs a.1, length-append (line 84 r) (flat_map (line 84) rs))

module _ (bytes ends : List ℕ) where
  note_names : (r : Row) → FineNote (names_of bytes ends) r → Names bytes ends (diag_of r)
  unfolding diag_of
  note_names r F = record { first = F.first; second = F.second }

  notes_short : (notes : List Row) → Each (FineNote (names_of bytes ends)) notes → length (flat_map (λ r. lines bytes ends (diag_of r)) notes) ≤ 261 * length notes
  unfolding flat_map Each
  notes_short [] a = omega arith
  notes_short (r ∷ rs) a =
      omega (arith, lines_short bytes ends (diag_of r) (note_names r a.0), notes_short rs a.1, length-append (lines bytes ends (diag_of r)) (flat_map (λ r. lines bytes ends (diag_of r)) rs))

  page_short : (notes rows : List Row) (ws : List ℕ) → Each (FineNote (names_of bytes ends)) notes → Each (λ r. length r ≡ width) rows → length notes ≤ 2048 → length rows ≤ 2048 → length ws ≤ 8192
      → length (page bytes ends notes rows ws) ≤ 722946
  unfolding page
  page_short notes rows ws a w n r s =
      let d = flat_map (λ r. lines bytes ends (diag_of r)) notes in
      let t = flat_map (line 84) rows in
      omega (arith, notes_short notes a, rows_long rows w, line_long 82 ws, length-append d (t ++ line 82 ws), length-append t (line 82 ws))

refusal_short : (n : ℕ) → length (refusal n) ≤ 722946
unfolding refusal ascii
refusal_short n = omega (arith, decimal_short n, length-append (decimal n) (10 ∷ []))

-- ---- what a file is told

fits_few : (xs : List Row) → fits width (some (2048 * width)) xs ≡ true → length xs ≤ 2048
unfolding fits
fits_few xs e = omega (arith, leb-true (length xs * width) (2048 * width) e)

words_small : (ws : List ℕ) → Small ws → Words32 ws
words_small [] s i = omega arith
words_small (w ∷ ws) s zero = s.0
words_small (w ∷ ws) s (suc i) = words_small ws s.1 i

module _ (i : Image) (R : Right i) (a : Analysis) (e : analysed i ≡ gives a) where
  abbrev ns : List ℕ
  ns = names_of i.bytes i.ends

  abbrev G : Given
  G = given (some (2048 * width)) (some (2048 * note_width)) i.bytes i.ends i.erased

  accepted : Accepts (some (2048 * width)) (some (2048 * note_width)) i.bytes i.ends i.erased i.words a
  unfolding analysed
  accepted = known (some (2048 * width)) (some (2048 * note_width)) 0 i.bytes i.ends i.erased i.words a e

  whole : Whole i.words ns (length ns) a.tree
  whole = program_whole ns i.words a.tree accepted.read

  folds : Known (length ns) a.tree
  folds = stands_known (words_small i.words R.words_small) whole.stands

  good : Good ns (length ns) (running a.rows a.diagnostics)
  good = subst (Good ns (length ns)) accepted.ran (analysed_good ns (length ns) G a.tree refl whole.stands.valid folds)

  bounded : Bounded ns (length ns) G (running a.rows a.diagnostics)
  bounded = subst (Bounded ns (length ns) G) accepted.ran (analysed_bounded ns (length ns) G a.tree refl whole.stands.valid folds)

  resolved_short : length a.resolved ≤ 8192
  unfolding resolve_array_accesses
  resolved_short =
      let w : words_t a.tree ≡ i.words = (reads i.bytes i.ends i.words a.tree accepted.read).are in
      omega (arith, ap length accepted.is, ap length w, shorter_tree (tables_of a.rows) 0 nowhere a.tree, R.words_fit)

  given_short : length (page i.bytes i.ends a.diagnostics a.rows a.resolved) ≤ 722946
  given_short =
      page_short i.bytes i.ends a.diagnostics a.rows a.resolved bounded.0 (wide_each width a.rows (table_wide 0 a.rows good.table))
      (fits_few a.diagnostics bounded.1) (fits_few a.rows bounded.2) resolved_short

stopped_short : (i : Image) (n p : ℕ) → length (text_of i.bytes i.ends (stops n p)) ≤ 722946
unfolding text_of
stopped_short i n p = refusal_short n

given_shown : (i : Image) → Right i → (a : Analysis) → analysed i ≡ gives a → length (text_of i.bytes i.ends (gives a)) ≤ 722946
unfolding text_of
given_shown i R a e = given_short i R a e

image_short : (i : Image) → Right i → length (text_of i.bytes i.ends (analysed i)) ≤ 722946
image_short i R = go (analysed i) refl
  where
    go : (t : Told Analysis) → analysed i ≡ t → length (text_of i.bytes i.ends t) ≤ 722946
    go (stops n p) e = stopped_short i n p
    go (gives a) e = given_shown i R a e

-- a file of bytes
pub longest : (l : List ℕ) → Octets l → length (listing l) ≤ 722946
unfolding listing listed
longest l o = go (decode l) refl
  where
    go : (d : Option Image) → decode l ≡ d → length (listed analysed d) ≤ 722946
    go none e = refusal_short 5
    go (some i) e = image_short i (right_decoded l i o e)

-- so that it is written whole where so many bytes are lent, and is what stands there up to the length that is answered
pub whole_listing : (l out after : List ℕ) (r : ℕ) → Octets l → 722946 ≤ length out → (r ≡ size (listing l) out) × (after ≡ laid (listing l) out) → (r ≡ length (listing l)) × (take r after ≡ listing l)
unfolding size laid
whole_listing l out after r o h e =
    let t = listing l in
    let k : leb (length t) (length out) ≡ true = le-leb (length t) (length out) (omega (arith, longest l o)) in
    let n : r ≡ length t = rw k at e.0 in
    let w : after ≡ t ++ drop (length t) out = rw k at e.1 in
    (n, rw w (take_at t (drop (length t) out) r (sym n)))
