-- Demand 3 of the code: what two runs of `analyse` leave in their buffers, for two programs with the same strings and the same erased names, whatever the
-- lengths of the buffers are. Assumes nothing.
use Rattle.std.specs.Prelude.{ℕ, refl, ◌↔◌, Bool, List, [], leb, length, take, Ok}
use Rattle.std.proofs.Common.{arith, sym, ◌∙◌}
use Rattle.std.proofs.Math.Path.{◌≡◌, ap}
use Rattle.std.proofs.Math.Bool.{true, false}
use Rattle.std.proofs.Math.Option.{none, some}
use Rattle.tree_stmt.specs.Tree.{Program}
use Rattle.base_words.specs.Told.{Told, stops, gives, after, unless}
use Rattle.base_strings.specs.Table.{sound, names_of}
use Rattle.base_strings.specs.Open.{entry_of}
use Rattle.entry_read.specs.Sized.{sized_program}
use Rattle.entry_read.specs.Program.{program_of, accepted_of}
use Rattle.rows_table.specs.Rows.{Row, width, note_width, image}
use Rattle.collect_definition.specs.Collect.{given, analysed}
use Rattle.list_page.specs.Chunks.{chunks}
use Rattle.law_equivalence.specs.Analysis.{Analysis, result_of, analysis, Accepted, resolution}
use Rattle.law_equivalence.specs.AnalysisLaws.{known}
use Rattle.law_equivalence.proofs.AcceptedLaws.{accepted}
use Rattle.law_equivalence.specs.Step.{Steps}
use Rattle.law_equivalence.proofs.Demand3.{demand_3}
use Rattle.entry_analyse.specs.Analyse.{work, analysis_in, told, counted, rows_after, notes_after, Tells, Analyses}
use Rattle.entry_analyse.specs.ReadOff.{Shown, shown_of, read_off, read_off_lem}
use Rattle.entry_analyse.specs.declared.Given.{Given}

-- ---- a run that gives no number gives what the analysis without an output's length does

no_ten : (b : Bool) (t : Told Analysis) {a : Analysis} → unless b 10 0 t ≡ gives a → t ≡ gives a
unfolding unless
no_ten true t e = e
no_ten false t e = absurd (let z : ◌≡◌ {A = ℕ} 0 1 = cc in omega arith)

module _ (R N O at : ℕ) (bytes ends erased words : List ℕ) (a : Analysis) where
  behind : (s : Told Program) → after s (λ p. unless (leb (length words) O) 10 0 (result_of p (analysed (given (some R) (some N) bytes ends erased) p))) ≡ gives a
      → after s (λ p. result_of p (analysed (given (some R) (some N) bytes ends erased) p)) ≡ gives a
  unfolding after
  behind (stops n p) e = e
  behind (gives p) e = no_ten (leb (length words) O) (result_of p (analysed (given (some R) (some N) bytes ends erased) p)) e

  opened : (b c : Bool) {t u : Told Analysis} → (t ≡ gives a → u ≡ gives a) → unless b 5 0 (unless c 1 at t) ≡ gives a → unless b 5 0 (unless c 1 at u) ≡ gives a
  unfolding unless
  opened true true f e = f e
  opened true false f e = e
  opened false c f e = e

  without_ten : analysis_in R N O at bytes ends erased words ≡ gives a → analysis (some R) (some N) at bytes ends erased words ≡ gives a
  unfolding analysis_in work analysis entry_of
  without_ten e = opened (sized_program bytes ends words erased) (sound bytes ends) (behind (accepted_of (names_of bytes ends) words erased)) e

-- ---- what a run leaves

same_counts : {r r₂ d d₂ : List Row} {w w₂ : List ℕ} → r ≡ r₂ → d ≡ d₂ → w ≡ w₂
    → ◌≡◌ {A = Given} (record { notes = length d; rows = length r; words = length w }) (record { notes = length d₂; rows = length r₂; words = length w₂ })
same_counts e f g = rw (e, f, g) refl

rows_in : Told Shown → List Row
rows_in (stops n p) = []
rows_in (gives s) = s.rows

notes_in : Told Shown → List Row
notes_in (stops n p) = []
notes_in (gives s) = s.diagnostics

words_in : Told Shown → List ℕ
words_in (stops n p) = []
words_in (gives s) = s.resolved

-- an accepted program's analysis, and where it stands
record Stood (bytes ends erased words : List ℕ) (n : Given) (notes rows notes' rows' out' : List ℕ) : Type 0 where
  a : Analysis
  accepts : Accepted bytes ends erased words a
  counts : n ≡ record { notes = length a.diagnostics; rows = length a.rows; words = length a.resolved }
  rows_read : chunks width n.rows rows' ≡ a.rows
  notes_read : chunks note_width n.notes notes' ≡ a.diagnostics
  words_read : take n.words out' ≡ a.resolved
  rows_are : rows' ≡ image width (length rows) a.rows
  notes_are : notes' ≡ image note_width (length notes) a.diagnostics

module _ {bytes ends erased words : List ℕ} {n : Given} {notes rows out notes' rows' out' : List ℕ} where
  stood_by : (at : ℕ) (u : Told Analysis) → analysis_in (length rows) (length notes) (length out) at bytes ends erased words ≡ u → Tells (Ok n) notes rows out notes' rows' out' u
      → Stood bytes ends erased words n notes rows notes' rows' out'
  unfolding told counted read_off shown_of rows_in notes_in words_in rows_after notes_after
  stood_by at (stops m p) e t = absurd (let h = t.answer in let z : ◌≡◌ {A = ℕ} 0 1 = cc in omega arith)
  stood_by at (gives a) e t =
      let q = read_off_lem (Ok n) (gives a) t in
      record {
        a = a;
        accepts = accepted bytes ends erased words (length rows) (length notes) at a (without_ten (length rows) (length notes) (length out) at bytes ends erased words a e);
        counts = (let h = t.answer in cc);
        rows_read = ap rows_in q;
        notes_read = ap notes_in q;
        words_read = ap words_in q;
        rows_are = t.rows_now;
        notes_are = t.notes_now;
      }

  stood : Analyses bytes ends erased words (Ok n) notes rows out notes' rows' out' → Stood bytes ends erased words n notes rows notes' rows' out'
  stood r = stood_by r.at (analysis_in (length rows) (length notes) (length out) r.at bytes ends erased words) refl r.is

-- ---- two runs

-- The tables, the diagnostics and their counts are equal, and so are the buffers, to the last word, where they are equally long (r and d words for one, r₂ and d₂
-- for the other); either resolved tree, read and resolved again under those tables, gives its own words.
pub record Alike (bytes ends : List ℕ) (r r₂ d d₂ : ℕ) (n n₂ : Given) (rows' rows₂' notes' notes₂' out' out₂' : List ℕ) : Type 0 where
  pub counts : n ≡ n₂
  pub rows : chunks width n.rows rows' ≡ chunks width n₂.rows rows₂'
  pub diagnostics : chunks note_width n.notes notes' ≡ chunks note_width n₂.notes notes₂'
  pub row_words : r ≡ r₂ → rows' ≡ rows₂'
  pub note_words : d ≡ d₂ → notes' ≡ notes₂'
  pub first_again : (at : ℕ) → resolution (chunks width n.rows rows') at bytes ends (take n.words out') ≡ gives (take n.words out')
  pub second_again : (at : ℕ) → resolution (chunks width n.rows rows') at bytes ends (take n₂.words out₂') ≡ gives (take n₂.words out₂')

-- The resolved words are equal exactly when the second program can be made from the first by a list of steps under the first one's tables; and then the
-- rest is alike.
pub record TwoRuns (bytes ends words words₂ : List ℕ) (r r₂ d d₂ : ℕ) (n n₂ : Given) (rows' rows₂' notes' notes₂' out' out₂' : List ℕ) : Type 0 where
  pub tree : Program
  pub tree₂ : Program
  pub reads : program_of (names_of bytes ends) words ≡ gives tree
  pub reads₂ : program_of (names_of bytes ends) words₂ ≡ gives tree₂
  pub exactly : (take n.words out' ≡ take n₂.words out₂') ↔ Steps (chunks width n.rows rows') tree tree₂
  pub whenever : take n.words out' ≡ take n₂.words out₂' → Alike bytes ends r r₂ d d₂ n n₂ rows' rows₂' notes' notes₂' out' out₂'

module _ {bytes ends erased words words₂ : List ℕ} {n n₂ : Given} {notes rows notes' rows' out' notes₂ rows₂ notes₂' rows₂' out₂' : List ℕ} where
  two : Stood bytes ends erased words n notes rows notes' rows' out' → Stood bytes ends erased words₂ n₂ notes₂ rows₂ notes₂' rows₂' out₂'
      → TwoRuns bytes ends words words₂ (length rows) (length rows₂) (length notes) (length notes₂) n n₂ rows' rows₂' notes' notes₂' out' out₂'
  two x y =
      let D = demand_3 bytes ends erased words words₂ x.a y.a x.accepts y.accepts in
      let k = known none none 0 bytes ends erased words x.a x.accepts in
      let l = known none none 0 bytes ends erased words₂ y.a y.accepts in
      let back : take n.words out' ≡ take n₂.words out₂' → x.a.resolved ≡ y.a.resolved = λ e. sym x.words_read ∙ e ∙ y.words_read in
      record {
        tree = x.a.tree;
        tree₂ = y.a.tree;
        reads = k.read;
        reads₂ = l.read;
        exactly = rw (x.words_read, y.words_read, x.rows_read) D.exactly;
        whenever = λ e.
            let A = D.whenever (back e) in
            record {
              counts = x.counts ∙ same_counts A.rows A.diagnostics (back e) ∙ sym y.counts;
              rows = x.rows_read ∙ A.rows ∙ sym y.rows_read;
              diagnostics = x.notes_read ∙ A.diagnostics ∙ sym y.notes_read;
              row_words = λ q. x.rows_are ∙ ap (λ (k : ℕ). image width k x.a.rows) q ∙ ap (image width (length rows₂)) A.rows ∙ sym y.rows_are;
              note_words = λ q. x.notes_are ∙ ap (λ (k : ℕ). image note_width k x.a.diagnostics) q ∙ ap (image note_width (length notes₂)) A.diagnostics ∙ sym y.notes_are;
              first_again = λ at. rw (x.words_read, x.rows_read) (A.first_again at);
              second_again = λ at. rw (y.words_read, x.rows_read) (A.second_again at);
            };
      }

  -- so it is of what two calls of `analyse` leave that give no number
  pub demand_3_code : {out out₂ : List ℕ} → Analyses bytes ends erased words (Ok n) notes rows out notes' rows' out' → Analyses bytes ends erased words₂ (Ok n₂) notes₂ rows₂ out₂ notes₂' rows₂' out₂'
      → TwoRuns bytes ends words words₂ (length rows) (length rows₂) (length notes) (length notes₂) n n₂ rows' rows₂' notes' notes₂' out' out₂'
  demand_3_code p q = two (stood p) (stood q)
