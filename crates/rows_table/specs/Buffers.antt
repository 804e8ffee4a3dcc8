-- What the functions leave in a buffer that holds a table: a splice of the words is a change of the list of rows. Assumes nothing.
use Rattle.std.specs.Prelude.{◌≡◌, refl, Bool, false, get_or, Some, None}
use Rattle.std.proofs.Math.Path.{sym, ap}
use Rattle.std.proofs.Common.{◌∙◌, le_of_eq, le_refl, zero-mul, take-append-drop, length-drop, take_at, drop-drop}
use Rattle.std.proofs.Math.Bool.{true}
use mathlib.Core.List.{List, [], ◌∷◌, ◌++◌, append_assoc, append-nil}
use Rattle.std.proofs.Math.Option.{Option, none, some}
use Prim.Native.Nat.{ℕ, suc, ◌+◌, ◌-◌, ◌*◌, ◌≤◌, ◌<◌, zero-le}
use native.Mathlib.Omega.{arith}
use Rattle.std.proofs.Math.ListN.{length, take, drop, length-append}
use Rattle.std.proofs.lemmas.List.{replicate-append-replicate}
use Rattle.std.proofs.Math.Seq.{slice, take_all, drop_at, take-append-le, take-take, length-take-le, length-slice, drop-length}
use borrow.Author.Tests.{le-leb, lt-leb, leb-true}
use Rattle.base_words.specs.Word.{pick, flatten}
use Rattle.rows_table.specs.Rows.{width, note_width, Row, key_of, key, Table, rank, find, insert, remove, zeros, image, Filled, Holds}
use Rattle.rows_table.specs.Laws.{pick_true, pick_false, rank_le, insert_old, insert_new, remove_splice, rank_mono, insert_table, remove_table, remove_len, find_some}
use Rattle.rows_table.specs.Images.{holds_fits, take_rows, drop_rows, slice_rows, drop_tail, key_of_row, wide_snoc, filled_image, holds_image, image_append, image_splice, image_none}
use Rattle.rows_table.specs.Answers.{found_at, Room, Inserted, Removed, More, Pushed}

-- ---- over a buffer that holds n rows, the place p of the key k

module _ (rows : List Row) (n : ℕ) (buf : List ℕ) (H : Holds rows n buf) (k p : ℕ) (e : p ≡ rank k rows) where
  -- the key that stands at the place is its row's
  pub key_there : p < n → (x : ℕ) → x ≡ key_of (get_or buf (p * width) 0) (get_or buf (p * width + 1) 0) → x ≡ key (get_or rows (rank k rows) [])
  key_there h x f = f ∙ key_of_row H.filled p h ∙ ap (λ (i : ℕ). key (get_or rows i [])) e

-- ---- a row put in

module _ (rows : List Row) (n : ℕ) (buf : List ℕ) (H : Holds rows n buf) (row : Row) (p : ℕ) (e : p ≡ rank (key row) rows) where
  -- the place is at most n
  place_le : p ≤ n
  place_le = omega (arith, rank_le (key row) rows, H.filled.count)

  len_take : length (take p rows) ≡ p
  len_take = length-take-le p rows (omega (arith, place_le, H.filled.count))

  len_drop : (q : ℕ) → length (drop q rows) ≡ n - q
  len_drop q = length-drop q rows ∙ ap (λ (m : ℕ). m - q) H.filled.count

  done : (m : ℕ) (new : List Row) (after : List ℕ) → insert row rows ≡ new → length new ≡ m → m * width ≤ length buf → after ≡ image width (length buf) new
      → Inserted row rows (length buf) (Some m) after
  done m new after i l h a =
      let len : length (insert row rows) ≡ m = ap length i ∙ l in
      let room : Room (length buf) rows row ≡ true = le-leb (length (insert row rows) * width) (length buf) (omega arith) in
      record {
        answer = ap Some (sym len) ∙ sym (pick_true (Some (length (insert row rows))) None room);
        after = a ∙ ap (image width (length buf)) (sym i ∙ sym (pick_true (insert row rows) rows room));
      }

  -- the row at the place has the row's key: its words are written over
  pub replaced : p < n → key (get_or rows (rank (key row) rows) []) ≡ key row
      → Inserted row rows (length buf) (Some n) (take (p * width) buf ++ (row ++ drop (p * width + width) buf))
  replaced h q =
      let s : p * width + width ≡ suc p * width = omega arith in
      done n (take p rows ++ (row ∷ drop (suc p) rows)) (take (p * width) buf ++ (row ++ drop (p * width + width) buf)) (
      rw e (insert_old row rows (omega (arith, H.filled.count)) q)) (
      length-append (take p rows) (row ∷ drop (suc p) rows) ∙ omega (arith, len_take, len_drop (suc p))) (holds_fits H.filled) (
      rw (s, take_rows H.filled p place_le, drop_rows H.filled (suc p) h) (
      image_splice width (length buf) n (take p rows) row (drop (suc p) rows) (omega (arith, len_take, len_drop (suc p)))))

  module _ (miss : rank (key row) rows < length rows → key (get_or rows (rank (key row) rows) []) ≡ key row → ⊥) where
    new : List Row
    new = take p rows ++ (row ∷ drop p rows)

    new_is : insert row rows ≡ new
    unfolding new
    new_is = rw e (insert_new row rows miss)

    new_len : length new ≡ n + 1
    unfolding new
    new_len = length-append (take p rows) (row ∷ drop p rows) ∙ omega (arith, len_take, len_drop p, place_le)

    -- the key is new and the last words are too few: None, and the buffer is as it was
    pub full : length buf - n * width < width → Inserted row rows (length buf) None buf
    full h =
        let len : length (insert row rows) ≡ n + 1 = ap length new_is ∙ new_len in
        let no_room : Room (length buf) rows row ≡ false = lt-leb (length (insert row rows) * width) (length buf) (omega arith) in
        record {
          answer = sym (pick_false (Some (length (insert row rows))) None no_room);
          after = H.filled.words ∙ ap (image width (length buf)) (sym (pick_false (insert row rows) rows no_room));
        }

    -- the key is new and there is room: the rows from the place on moved up by one, and the row written there
    pub added : n * width + width ≤ length buf → (up after : List ℕ)
        → up ≡ take (p * width + width) buf ++ (slice (p * width) (n * width) buf ++ drop (n * width + width) buf)
        → after ≡ take (p * width) up ++ (row ++ drop (p * width + width) up)
        → Inserted row rows (length buf) (Some (n + 1)) after
    unfolding new
    added h up after u a =
        let tail : List ℕ = slice (p * width) (n * width) buf ++ drop (n * width + width) buf in
        let len : length (take (p * width + width) buf) ≡ p * width + width = length-take-le (p * width + width) buf (omega (arith, place_le)) in
        let front : take (p * width) up ≡ flatten (take p rows) =
        ap (take (p * width)) u ∙ take-append-le (p * width) (take (p * width + width) buf) tail (omega arith) ∙ take-take (p * width) (p * width + width) buf (omega arith)
        ∙ take_rows H.filled p place_le in
        let s : n * width + width ≡ (n + 1) * width = omega arith in
        let back : drop (p * width + width) up ≡ flatten (drop p rows) ++ zeros (length buf - (n + 1) * width) =
        ap (drop (p * width + width)) u ∙ drop_at (take (p * width + width) buf) tail (p * width + width) len
        ∙ ap (λ (l : List ℕ). l ++ drop (n * width + width) buf) (slice_rows H.filled p place_le)
        ∙ ap (λ (l : List ℕ). flatten (drop p rows) ++ l) (drop_tail H.filled width ∙ ap (λ (m : ℕ). zeros (length buf - m)) s) in
        done (n + 1) new after new_is new_len (omega arith) (
        a ∙ ap (λ (l : List ℕ). l ++ (row ++ drop (p * width + width) up)) front ∙ ap (λ (l : List ℕ). flatten (take p rows) ++ (row ++ l)) back
        ∙ image_splice width (length buf) (n + 1) (take p rows) row (drop p rows) (omega (arith, len_take, len_drop p, place_le)))

-- ---- rows taken out

module _ (rows : List Row) (n : ℕ) (buf : List ℕ) (H : Holds rows n buf) (lo hi p q : ℕ) (h : lo ≤ hi) (e : p ≡ rank lo rows) (f : q ≡ rank hi rows) where
  left_is : remove lo hi rows ≡ take p rows ++ drop q rows
  left_is = rw (e, f) (remove_splice 0 lo hi rows H.table h)

  q_le : q ≤ n
  q_le = omega (arith, rank_le hi rows, H.filled.count)

  p_le : p ≤ q
  p_le = omega (arith, rank_mono lo hi rows h)

  len_front : length (take p rows) ≡ p
  len_front = length-take-le p rows (omega (arith, p_le, q_le, H.filled.count))

  left_len : length (take p rows) + length (drop q rows) ≡ n - (q - p)
  left_len = omega (arith, len_front, length-drop q rows, H.filled.count, p_le, q_le)

  -- no key lies between lo and hi: the buffer is as it was
  pub removed_none : q ≤ p → Removed lo hi rows (length buf) n buf
  removed_none k =
      let same : q ≡ p = omega (arith, p_le) in
      let all : remove lo hi rows ≡ rows = left_is ∙ ap (λ (m : ℕ). take p rows ++ drop m rows) same ∙ take-append-drop p rows in
      record { answer = sym (ap length all ∙ H.filled.count); after = H.filled.words ∙ ap (image width (length buf)) (sym all) }

  -- the rows from hi's place on moved down to lo's, and zeros written where they ended: the rows between are taken out
  pub removed : (down after : List ℕ)
      → down ≡ take (p * width) buf ++ (slice (p * width + (q - p) * width) (n * width) buf ++ drop (n * width - (q - p) * width) buf)
      → after ≡ take (n * width - (q - p) * width) down ++ (zeros (n * width - (n * width - (q - p) * width)) ++ drop (n * width) down)
      → Removed lo hi rows (length buf) (n - (q - p)) after
  removed down after d a =
      let m : ℕ = n - (q - p) in
      let cut : ℕ = n * width - (q - p) * width in
      let s₀ : p * width + (q - p) * width ≡ q * width = omega (arith, p_le) in
      let front : List ℕ = take (p * width) buf ++ slice (q * width) (n * width) buf in
      let rest : List ℕ = drop cut buf in
      let fit : n * width ≤ length buf = holds_fits H.filled in
      let len : length front ≡ cut =
      length-append (take (p * width) buf) (slice (q * width) (n * width) buf)
      ∙ omega (arith, length-take-le (p * width) buf (omega (arith, p_le, q_le)), length-slice (q * width) (n * width) buf fit, p_le, q_le) in
      let d' : down ≡ front ++ rest =
      d ∙ ap (λ (k : ℕ). take (p * width) buf ++ (slice k (n * width) buf ++ rest)) s₀ ∙ sym (append_assoc (take (p * width) buf) (slice (q * width) (n * width) buf) rest) in
      let one : take cut down ≡ flatten (take p rows) ++ flatten (drop q rows) =
      ap (take cut) d' ∙ take_at front rest cut len
      ∙ ap (λ (l : List ℕ). l ++ slice (q * width) (n * width) buf) (take_rows H.filled p (omega (arith, p_le, q_le)))
      ∙ ap (λ (l : List ℕ). flatten (take p rows) ++ l) (slice_rows H.filled q q_le) in
      let s₁ : n * width ≡ cut + (q - p) * width = omega (arith, p_le, q_le) in
      let s₂ : n * width ≡ n * width + 0 = omega arith in
      let s₃ : n * width - cut + (length buf - (n * width + 0)) ≡ length buf - m * width = omega (arith, p_le, q_le) in
      let two : drop (n * width) down ≡ zeros (length buf - (n * width + 0)) =
      ap (λ (k : ℕ). drop k down) s₁ ∙ sym (drop-drop ((q - p) * width) cut down) ∙ ap (λ (l : List ℕ). drop ((q - p) * width) (drop cut l)) d'
      ∙ ap (drop ((q - p) * width)) (drop_at front rest cut len) ∙ drop-drop ((q - p) * width) cut buf
      ∙ ap (λ (k : ℕ). drop k buf) (sym s₁ ∙ s₂) ∙ drop_tail H.filled 0 in
      let tail : zeros (n * width - cut) ++ drop (n * width) down ≡ zeros (length buf - m * width) =
      ap (λ (l : List ℕ). zeros (n * width - cut) ++ l) two ∙ replicate-append-replicate (n * width - cut) (length buf - (n * width + 0)) 0 ∙ ap zeros s₃ in
      record {
        answer = sym (ap length left_is ∙ length-append (take p rows) (drop q rows) ∙ left_len);
        after = a ∙ ap (λ (l : List ℕ). l ++ (zeros (n * width - cut) ++ drop (n * width) down)) one
            ∙ ap (λ (l : List ℕ). (flatten (take p rows) ++ flatten (drop q rows)) ++ l) tail
            ∙ append_assoc (flatten (take p rows)) (flatten (drop q rows)) (zeros (length buf - m * width))
            ∙ image_append width (length buf) m (take p rows) (drop q rows) left_len ∙ ap (image width (length buf)) (sym left_is);
      }

-- ---- what is left holds a table again

-- a row went in
pub inserted_holds : (rows : List Row) (n : ℕ) (buf : List ℕ) → Holds rows n buf → (row : Row) → length row ≡ width → (m : ℕ) (after : List ℕ)
    → Inserted row rows (length buf) (Some m) after → Holds (insert row rows) m after
inserted_holds rows n buf H row w m after I = go (Room (length buf) rows row) refl
  where
    go : (t : Bool) → Room (length buf) rows row ≡ t → Holds (insert row rows) m after
    go true r =
        let t : Table 0 (insert row rows) = insert_table 0 row rows H.table w zero-le in
        let h : length (insert row rows) * width ≤ length buf = leb-true (length (insert row rows) * width) (length buf) r in
        let a : after ≡ image width (length buf) (insert row rows) = I.after ∙ ap (image width (length buf)) (pick_true (insert row rows) rows r) in
        let m_is : Some m ≡ Some (length (insert row rows)) = I.answer ∙ pick_true (Some (length (insert row rows))) None r in
        let m_is' : m ≡ length (insert row rows) = cc in
        rw (a, m_is') (holds_image (length buf) (insert row rows) t h)
    go false r =
        let m_is : Some m ≡ None = I.answer ∙ pick_false (Some (length (insert row rows))) None r in
        let z : ◌≡◌ {A = ℕ} 0 1 = cc in
        absurd (omega arith)

-- rows went out
pub removed_holds : (rows : List Row) (n : ℕ) (buf : List ℕ) → Holds rows n buf → (lo hi m : ℕ) → lo ≤ hi → (after : List ℕ)
    → Removed lo hi rows (length buf) m after → Holds (remove lo hi rows) m after
removed_holds rows n buf H lo hi m h after R =
    let fit : length (remove lo hi rows) * width ≤ length buf = omega (arith, remove_len lo hi rows, holds_fits H.filled, H.filled.count) in
    rw (R.after, R.answer) (holds_image (length buf) (remove lo hi rows) (remove_table 0 lo hi rows h H.table) fit)

-- ---- what `find` says

module _ (rows : List Row) (n : ℕ) (buf : List ℕ) (H : Holds rows n buf) (k : ℕ) where
  -- it found row i: that is what the definition finds, and its words stand in the buffer
  pub found_row : (i : ℕ) → Some i ≡ found_at (rank k rows) (find k rows) → find k rows ≡ some (get_or rows i [])
  found_row i e = go (find k rows) refl
    where
      go : (o : Option Row) → find k rows ≡ o → find k rows ≡ some (get_or rows i [])
      go none q =
          let f : Some i ≡ None = e ∙ ap (found_at (rank k rows)) q in
          let z : ◌≡◌ {A = ℕ} 0 1 = cc in
          absurd (omega arith)
      go (some r) q =
          let f : Some i ≡ Some (rank k rows) = e ∙ ap (found_at (rank k rows)) q in
          let i_is : i ≡ rank k rows = cc in
          q ∙ ap some ((find_some 0 k rows H.table r q).1 ∙ ap (λ (m : ℕ). get_or rows m []) (sym i_is))

  -- it found nothing: nor does the definition
  pub found_none : None ≡ found_at (rank k rows) (find k rows) → find k rows ≡ none
  found_none e = go (find k rows) refl
    where
      go : (o : Option Row) → find k rows ≡ o → find k rows ≡ none
      go none q = q
      go (some r) q =
          let f : None ≡ Some (rank k rows) = e ∙ ap (found_at (rank k rows)) q in
          let z : ◌≡◌ {A = ℕ} 0 1 = cc in
          absurd (omega arith)

-- ---- a diagnostic put after the last

module _ (notes : List Row) (n : ℕ) (buf : List ℕ) (F : Filled note_width notes n buf) (note : Row) where
  -- the last words are too few: None, and the buffer is as it was
  pub push_full : length buf - n * note_width < note_width → Pushed note notes (length buf) None buf
  push_full h =
      let no_room : More (length buf) notes ≡ false = lt-leb ((length notes + 1) * note_width) (length buf) (omega (arith, F.count, holds_fits F)) in
      record {
        answer = sym (pick_false (Some (length notes + 1)) None no_room);
        after = F.words ∙ ap (image note_width (length buf)) (sym (pick_false (notes ++ (note ∷ [])) notes no_room));
      }

  -- there is room: the diagnostic written after the last
  pub pushed : n * note_width + note_width ≤ length buf → Pushed note notes (length buf) (Some (n + 1)) (take (n * note_width) buf ++ (note ++ drop (n * note_width + note_width) buf))
  unfolding flatten
  pushed h =
      let room : More (length buf) notes ≡ true = le-leb ((length notes + 1) * note_width) (length buf) (omega (arith, F.count)) in
      let all : take n notes ≡ notes = take_all n notes (le_of_eq F.count) in
      let s : n * note_width + note_width ≡ (n + 1) * note_width = omega arith in
      let tail : drop (n * note_width + note_width) buf ≡ zeros (length buf - (n + 1) * note_width) = drop_tail F note_width ∙ ap (λ (m : ℕ). zeros (length buf - m)) s in
      let front : take (n * note_width) buf ≡ flatten notes = take_rows F n (le_refl n) ∙ ap flatten all in
      let c : length notes + 1 ≡ n + 1 = omega (arith, F.count) in
      record {
        answer = ap Some (sym c) ∙ sym (pick_true (Some (length notes + 1)) None room);
        after = rw (front, tail) (image_splice note_width (length buf) (n + 1) notes note [] (omega (arith, F.count)) ∙ ap (image note_width (length buf)) (sym (pick_true (notes ++ (note ∷ [])) notes room)));
      }

-- after Some the buffer holds the diagnostics with the new one last
pub pushed_filled : (notes : List Row) (n : ℕ) (buf : List ℕ) → Filled note_width notes n buf → (note : Row) → length note ≡ note_width → (m : ℕ) (after : List ℕ)
    → Pushed note notes (length buf) (Some m) after → Filled note_width (notes ++ (note ∷ [])) m after
pushed_filled notes n buf F note w m after P = go (More (length buf) notes) refl
  where
    go : (t : Bool) → More (length buf) notes ≡ t → Filled note_width (notes ++ (note ∷ [])) m after
    go true r =
        let h : (length notes + 1) * note_width ≤ length buf = leb-true ((length notes + 1) * note_width) (length buf) r in
        let l : length (notes ++ (note ∷ [])) ≡ length notes + 1 = length-append notes (note ∷ []) in
        let a : after ≡ image note_width (length buf) (notes ++ (note ∷ [])) = P.after ∙ ap (image note_width (length buf)) (pick_true (notes ++ (note ∷ [])) notes r) in
        let m_is : Some m ≡ Some (length notes + 1) = P.answer ∙ pick_true (Some (length notes + 1)) None r in
        let m_is' : m ≡ length (notes ++ (note ∷ [])) = cc in
        rw (a, m_is') (filled_image note_width (length buf) (notes ++ (note ∷ [])) (wide_snoc note_width notes note F.wide w) (omega arith))
    go false r =
        let m_is : Some m ≡ None = P.answer ∙ pick_false (Some (length notes + 1)) None r in
        let z : ◌≡◌ {A = ℕ} 0 1 = cc in
        absurd (omega arith)

-- ---- an answer tells whether there was room

done≢full : {A : Type 0} (m : ℕ) → Some m ≡ None → A
done≢full m e =
    let z : ◌≡◌ {A = ℕ} 0 1 = cc in
    absurd (omega arith)

-- the answer of a change that fits, of one that doesn't
pub picked_done : (t : Bool) (m k : ℕ) → Some m ≡ pick t (Some k) None → (t ≡ true) × (m ≡ k)
picked_done true m k e = (refl, cc)
picked_done false m k e = done≢full m e

-- None is answered only where the test failed
pub picked_full : (t : Bool) (k : ℕ) → None ≡ pick t (Some k) None → t ≡ false
picked_full true k e = done≢full k (sym e)
picked_full false k e = refl

-- None: the row had no room
pub room_full : (n : ℕ) (row : Row) (rows : List Row) (after : List ℕ) → Inserted row rows n None after → Room n rows row ≡ false
room_full n row rows after I = picked_full (Room n rows row) (length (insert row rows)) I.answer

-- Some: the diagnostic had room
pub more_done : (n : ℕ) (row : Row) (rows : List Row) (m : ℕ) (after : List ℕ) → Pushed row rows n (Some m) after → More n rows ≡ true
more_done n row rows m after P = (picked_done (More n rows) m (length rows + 1) P.answer).0

-- None: the diagnostic had no room
pub more_full : (n : ℕ) (row : Row) (rows : List Row) (after : List ℕ) → Pushed row rows n None after → More n rows ≡ false
more_full n row rows after P = picked_full (More n rows) (length rows + 1) P.answer

-- ---- no rows

-- a buffer of zeros holds the table without rows
pub holds_none : (n : ℕ) → Holds [] 0 (image width n [])
holds_none n = holds_image n [] tt (omega arith)

-- the same of rows of any width
pub filled_none : (w n : ℕ) → Filled w [] 0 (image w n [])
filled_none w n = filled_image w n [] tt (omega (arith, zero-mul w))

-- a buffer of zeros, whatever the width
pub cleared : (w : ℕ) (b after : List ℕ) → after ≡ take 0 b ++ (zeros (length b - 0) ++ drop (length b) b) → after ≡ image w (length b) []
cleared w b after e =
    let z : length b - 0 ≡ length b = omega arith in
    e ∙ ap (λ (l : List ℕ). zeros (length b - 0) ++ l) (drop-length b) ∙ append-nil (zeros (length b - 0)) ∙ ap zeros z ∙ sym (image_none w (length b))
