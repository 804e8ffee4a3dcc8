-- How steps on the two buffers are done, and how they follow each other. Assumes nothing.
use Rattle.std.specs.Prelude.{◌≡◌, refl, Bool, ◌||◌, ℕ, ◌+◌, ◌*◌, ◌≤◌, ◌<◌, eqb, Option, None, Some}
use Rattle.std.proofs.Math.Path.{sym, ap}
use Rattle.std.proofs.Common.{◌∙◌, arith, length-append}
use Rattle.std.proofs.Math.Bool.{true, false}
use Rattle.std.proofs.lemmas.Bool.{false≢true}
use mathlib.Core.List.{List, [], ◌∷◌, ◌++◌}
use Rattle.std.proofs.Math.Option.{some}
use Rattle.std.proofs.Math.Dec.{leb}
use Rattle.std.proofs.Math.ListN.{length}
use borrow.Author.Tests.{le-leb, eqb-true, ne_eqb}
use Rattle.base_words.specs.declared.Refusal.TheVariants.{TypeWords}
use Rattle.rows_table.specs.Rows.{Row, width, note_width, insert, remove, zeros, image, Filled, Holds}
use Rattle.rows_table.specs.Laws.{remove_len}
use Rattle.rows_table.specs.Images.{image_none}
use Rattle.rows_table.specs.Answers.{Fits, More, Pushed}
use Rattle.rows_table.specs.Buffers.{picked_done, picked_full, pushed_filled, more_done, more_full}
use Rattle.rows_runs.specs.Runs.{Keeps, PutIn, TakenOut}
use Rattle.rows_runs.specs.Laws.{holds_keeps, keeps_fits, keeps_count}
use Rattle.rows_table.specs.Answers as Answers
use Rattle.collect_buffers.specs.State.{State, running, stopped, stop, fits, change, enter, push}
use Rattle.collect_buffers.specs.declared.Counts.{Counts}
use Rattle.collect_buffers.specs.Refused.{zeroing, Numbered}
use Rattle.collect_buffers.specs.Held.{Held, Settles, Fresh, Notes, Rows, Counted, changing, entering, pushing, noting, rows_put, notes_put, counts_of, rows_left, notes_left, Left}

-- a run that goes on is not stopped
going : {A : Type 0} (k : ℕ) → 0 ≡ k → 0 < k → A
going k e h = absurd (omega arith)

-- ---- the beginning

-- buffers of zeros hold no rows and no diagnostics
pub fresh_held : (f : Bool) {b d : List ℕ} → f ≡ true → Fresh f b d → Held (length b) (length d) (running [] []) (record { stop = 0; rows = 0; notes = 0 }) b d
fresh_held true {b} {d} e h =
    let rows : Keeps [] 0 b = holds_keeps (record { filled = record { words = h.0 ∙ sym (image_none width (length b)); count = refl; wide = tt }; table = tt }) in
    let notes : Filled note_width [] 0 d = record { words = h.1 ∙ sym (image_none note_width (length d)); count = refl; wide = tt } in
    record { rows_long = refl; notes_long = refl; inside = (refl, rows, notes) }
fresh_held false e h = absurd (false≢true e)

-- ---- rows changed

module _ (s : Counts) (b : List ℕ) (f : List Row → List Row) where
  change_stopped : (d : List ℕ) (N D : ℕ) (st : State) → (s.stop ≡ 0 → ⊥) → Held N D st s b d → Held N D (change (some N) f st) s b d
  unfolding change
  change_stopped d N D (running rows notes) h H = absurd (h H.inside.0)
  change_stopped d N D (stopped k) h H = H

  -- in a stopped run no row changes
  pub stopped_change : s.rows * width ≤ length b → (s.stop ≡ 0 → ⊥) → Rows (changing f) s s b b
  unfolding changing
  stopped_change fit h = record { fit = fit; kept = refl; after = λ d N D st H. change_stopped d N D st h H }

  module _ (go : s.stop ≡ 0) (b' : List ℕ) (len : length b' ≡ length b) where
    fits_is : (N : ℕ) (rows : List Row) → length b ≡ N → Fits (length b) rows ≡ fits width (some N) rows
    unfolding fits
    fits_is N rows e = ap (leb (length rows * width)) e

    put_in : (r : Option ℕ) (d : List ℕ) (N D : ℕ) (st : State) → ((rows : List Row) → Keeps rows s.rows b → PutIn (f rows) (length b) r b')
        → Held N D st s b d → Held N D (change (some N) f st) (rows_put s r) b' d
    unfolding change
    put_in None d N D (running rows notes) E H =
        let no : fits width (some N) (f rows) ≡ false = sym (fits_is N (f rows) H.rows_long) ∙ picked_full _ _ (E rows H.inside.1).answer in
        rw no (record { rows_long = len ∙ H.rows_long; notes_long = H.notes_long; inside = (refl, omega arith) })
    put_in (Some m) d N D (running rows notes) E H =
        let e = E rows H.inside.1 in
        let p : (Fits (length b) (f rows) ≡ true) × (m ≡ length (f rows)) = picked_done _ _ _ e.answer in
        let yes : fits width (some N) (f rows) ≡ true = sym (fits_is N (f rows) H.rows_long) ∙ p.0 in
        rw yes (record { rows_long = len ∙ H.rows_long; notes_long = H.notes_long; inside = (refl, rw p.1 (e.after p.0), H.inside.2) })
    put_in r d N D (stopped k) E H = going k (sym go ∙ H.inside.0) H.inside.1

    put_fits : (r : Option ℕ) → Answers.Fit width (length b) r → s.rows * width ≤ length b → (rows_put s r).rows * width ≤ length b'
    put_fits None h fit = omega arith
    put_fits (Some m) h fit = omega arith

    put_keeps : (r : Option ℕ) → (rows_put s r).notes ≡ s.notes
    put_keeps None = refl
    put_keeps (Some m) = refl

    -- the rows were changed as f says, or had no room: the step is done, under the counts of the answer
    pub put_change : s.rows * width ≤ length b → (r : Option ℕ) → Answers.Fit width (length b) r → ((rows : List Row) → Keeps rows s.rows b → PutIn (f rows) (length b) r b')
        → Rows (changing f) s (rows_put s r) b b'
    unfolding changing
    put_change fit r h E = record { fit = put_fits r h fit; kept = put_keeps r; after = λ d N D st H. put_in r d N D st E H }

-- the rows changed by inserting a row: the row is entered
pub entering_is : (row : Row) {s r : Counts} {b b' : List ℕ} → Rows (changing (insert row)) s r b b' → Rows (entering row) s r b b'
unfolding changing entering enter
entering_is row F = record { fit = F.fit; kept = F.kept; after = F.after }

-- rows taken out: what is left always fits
module _ (s : Counts) (b : List ℕ) (lo hi : ℕ) (go : s.stop ≡ 0) (b' : List ℕ) (len : length b' ≡ length b) (m : ℕ) where
  remove_in : (d : List ℕ) (N D : ℕ) (st : State) → ((rows : List Row) → Keeps rows s.rows b → TakenOut (remove lo hi rows) m b')
      → Held N D st s b d → Held N D (change (some N) (remove lo hi) st) (record { stop = 0; rows = m; notes = s.notes }) b' d
  unfolding change fits
  remove_in d N D (running rows notes) R H =
      let K : Keeps rows s.rows b = H.inside.1 in
      let yes : leb (length (remove lo hi rows) * width) N ≡ true =
      le-leb (length (remove lo hi rows) * width) N (omega (arith, remove_len lo hi rows, keeps_fits K, keeps_count K, H.rows_long)) in
      rw yes (record { rows_long = len ∙ H.rows_long; notes_long = H.notes_long; inside = (refl, (R rows K).after, H.inside.2) })
  remove_in d N D (stopped k) R H = going k (sym go ∙ H.inside.0) H.inside.1

  -- those between lo and hi taken out, with m left: the step is done
  pub remove_change : s.rows * width ≤ length b → m ≤ s.rows → ((rows : List Row) → Keeps rows s.rows b → TakenOut (remove lo hi rows) m b')
      → Rows (changing (remove lo hi)) s (record { stop = 0; rows = m; notes = s.notes }) b b'
  unfolding changing
  remove_change fit le R = record { fit = omega arith; kept = refl; after = λ d N D st H. remove_in d N D st R H }

-- ---- one diagnostic

module _ (s : Counts) (d : List ℕ) (note : Row) (fit : s.notes * note_width ≤ length d) where
  note_stopped : (b : List ℕ) (N D : ℕ) (st : State) → (s.stop ≡ 0 → ⊥) → Held N D st s b d → Held N D (push (some D) note st) s b d
  unfolding push
  note_stopped b N D (running rows notes) h H = absurd (h H.inside.0)
  note_stopped b N D (stopped k) h H = H

  -- in a stopped run none is pushed
  pub stopped_note : (s.stop ≡ 0 → ⊥) → Notes (pushing note) s s d d
  unfolding pushing
  stopped_note h = record { fit = fit; kept = refl; after = λ b N D st H. note_stopped b N D st h H }

  -- none is pushed where the test fails
  pub no_note : (t : Bool) → t ≡ false → Notes (noting t note) s s d d
  unfolding noting
  no_note t e = record { fit = fit; kept = refl; after = λ b N D st H. rw e H }

  module _ (go : s.stop ≡ 0) (wide : length note ≡ note_width) (d' : List ℕ) (len : length d' ≡ length d) where
    more_is : (D : ℕ) (notes : List Row) → length d ≡ D → More (length d) notes ≡ fits note_width (some D) (notes ++ (note ∷ []))
    unfolding fits
    more_is D notes e =
        let l : length notes + 1 ≡ length (notes ++ (note ∷ [])) = sym (length-append notes (note ∷ [])) in
        ap (λ (m : ℕ). leb (m * note_width) (length d)) l ∙ ap (leb (length (notes ++ (note ∷ [])) * note_width)) e

    note_in : (r : Option ℕ) (b : List ℕ) (N D : ℕ) (st : State) → ((notes : List Row) → Filled note_width notes s.notes d → Pushed note notes (length d) r d')
        → Held N D st s b d → Held N D (push (some D) note st) (notes_put s r) b d'
    unfolding push
    note_in None b N D (running rows notes) P H =
        let no : fits note_width (some D) (notes ++ (note ∷ [])) ≡ false = sym (more_is D notes H.notes_long) ∙ more_full (length d) note notes d' (P notes H.inside.2) in
        rw no (record { rows_long = H.rows_long; notes_long = len ∙ H.notes_long; inside = (refl, omega arith) })
    note_in (Some m) b N D (running rows notes) P H =
        let p = P notes H.inside.2 in
        let yes : fits note_width (some D) (notes ++ (note ∷ [])) ≡ true = sym (more_is D notes H.notes_long) ∙ more_done (length d) note notes m d' p in
        rw yes (record { rows_long = H.rows_long; notes_long = len ∙ H.notes_long; inside = (refl, H.inside.1, pushed_filled notes s.notes d H.inside.2 note wide m d' p) })
    note_in r b N D (stopped k) P H = going k (sym go ∙ H.inside.0) H.inside.1

    note_fits : (r : Option ℕ) → Answers.Fit note_width (length d) r → (notes_put s r).notes * note_width ≤ length d'
    note_fits None h = omega arith
    note_fits (Some m) h = omega arith

    note_keeps : (r : Option ℕ) → (notes_put s r).rows ≡ s.rows
    note_keeps None = refl
    note_keeps (Some m) = refl

    -- it was pushed or had no room: the step is done, under the counts of the answer
    pub put_note : (r : Option ℕ) → Answers.Fit note_width (length d) r → ((notes : List Row) → Filled note_width notes s.notes d → Pushed note notes (length d) r d')
        → Notes (pushing note) s (notes_put s r) d d'
    unfolding pushing
    put_note r h P = record { fit = note_fits r h; kept = note_keeps r; after = λ b N D st H. note_in r b N D st P H }

-- where the test holds, it is pushed
pub noting_is : (note : Row) (t : Bool) {s r : Counts} {d d' : List ℕ} → t ≡ true → Notes (pushing note) s r d d' → Notes (noting t note) s r d d'
unfolding pushing noting
noting_is note t e F = record { fit = F.fit; kept = F.kept; after = λ b N D st H. rw e (F.after b N D st H) }

-- ---- stop and finish

module _ (s : Counts) (number : ℕ) where
  -- a run that is stopped keeps its number
  pub stop_again : (s.stop ≡ 0 → ⊥) → Counted (λ N D. stop number) s s
  unfolding stop
  stop_again h = record { rows_kept = refl; notes_kept = refl; after = by }
    where
      by : (b d : List ℕ) (N D : ℕ) (st : State) → Held N D st s b d → Held N D (stop number st) s b d
      by b d N D (running rows notes) H = absurd (h H.inside.0)
      by b d N D (stopped k) H = H

  -- one that goes on stops with the number
  pub stop_now : s.stop ≡ 0 → 0 < number → Counted (λ N D. stop number) s (record { stop = number; rows = s.rows; notes = s.notes })
  unfolding stop
  stop_now go h = record { rows_kept = refl; notes_kept = refl; after = by }
    where
      by : (b d : List ℕ) (N D : ℕ) (st : State) → Held N D st s b d → Held N D (stop number st) (record { stop = number; rows = s.rows; notes = s.notes }) b d
      by b d N D (running rows notes) H = record { rows_long = H.rows_long; notes_long = H.notes_long; inside = (refl, h) }
      by b d N D (stopped k) H = going k (sym go ∙ H.inside.0) H.inside.1

-- what was held is held, its rows in order
pub settled_held : {N D : ℕ} {s : Counts} {b b' d : List ℕ} → Settles s b b' → (st : State) → Held N D st s b d → Held N D st s b' d
settled_held S (running rows notes) H =
    record { rows_long = S.long ∙ H.rows_long; notes_long = H.notes_long; inside = (H.inside.0, holds_keeps (S.flat H.inside.0 rows H.inside.1), H.inside.2) }
settled_held S (stopped k) H = record { rows_long = S.long ∙ H.rows_long; notes_long = H.notes_long; inside = H.inside }

module _ {N D : ℕ} {s : Counts} {b d : List ℕ} where
  -- a run that goes on leaves what it holds, its rows in order
  pub left_running : (st : State) → Held N D st s b d → s.stop ≡ 0 → {b' : List ℕ} → Settles s b b' → Left N D st s b' d
  unfolding counts_of rows_left notes_left
  left_running (running rows notes) H go {b'} S =
      let T : Holds rows s.rows b' = S.flat go rows H.inside.1 in
      record {
        answer = ap (λ (k : ℕ). record { stop = k; rows = s.rows; notes = s.notes }) H.inside.0
            ∙ ap (λ (k : ℕ). record { stop = 0; rows = k; notes = s.notes }) (sym T.filled.count)
            ∙ ap (λ (k : ℕ). record { stop = 0; rows = length rows; notes = k }) (sym H.inside.2.count);
        rows = T.filled.words ∙ ap (λ (n : ℕ). image width n rows) (S.long ∙ H.rows_long);
        notes = H.inside.2.words ∙ ap (λ (n : ℕ). image note_width n notes) H.notes_long;
      }
  left_running (stopped k) H go S = going k (sym go ∙ H.inside.0) H.inside.1

  -- a stopped one zeros
  pub left_stopped : (st : State) → Held N D st s b d → (s.stop ≡ 0 → ⊥) → (b' d' : List ℕ) → b' ≡ zeros (length b) → d' ≡ zeros (length d)
      → Left N D st (record { stop = s.stop; rows = 0; notes = 0 }) b' d'
  unfolding counts_of rows_left notes_left
  left_stopped (running rows notes) H h b' d' e f = absurd (h H.inside.0)
  left_stopped (stopped k) H h b' d' e f =
      record {
        answer = ap (λ (n : ℕ). record { stop = n; rows = 0; notes = 0 }) H.inside.0;
        rows = e ∙ ap zeros H.rows_long;
        notes = f ∙ ap zeros H.notes_long;
      }

-- ---- the refusal of a stopped run

-- a number that leaves zeros and is neither 7 nor 8 is that of TypeWords
pub last_number : (k : ℕ) → zeroing k ≡ true → (k ≡ 7 → ⊥) → (k ≡ 8 → ⊥) → Numbered k TypeWords
unfolding zeroing
last_number k z n m =
    let t : (eqb k 7 || (eqb k 8 || eqb k 9)) ≡ true = z in
    let u : eqb k 9 ≡ true = rw (ne_eqb k 7 n, ne_eqb k 8 m) at t in
    record { number = sym (eqb-true k 9 u); place = refl }

-- no run stops with 0
zero_leaves : zeroing 0 ≡ false
unfolding zeroing
zero_leaves = refl

-- a number that leaves zeros is not 0
pub stops_some : {k : ℕ} → zeroing k ≡ true → k ≡ 0 → ⊥
stops_some z e = false≢true (sym zero_leaves ∙ ap zeroing (sym e) ∙ z)
