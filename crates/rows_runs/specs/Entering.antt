-- A row put into a buffer that has two runs: in the place of one with its key, or into the late run, which is joined to the first when it has 32
-- rows. Assumes nothing.
use Rattle.std.specs.Prelude.{◌≡◌, refl, true, false, ◌⊎◌, List, [], ◌∷◌, ◌++◌, ℕ, suc, ◌+◌, ◌-◌, ◌*◌, ◌≤◌, ◌<◌, length, take, drop, get_or, ltb, Option as RustOption, Some, None}
use Rattle.std.proofs.Common.{sym, ap, ◌∙◌, subst, inl, inr, append_assoc, append-nil, zero-le, arith, le_of_eq, length-append, length-drop, drop_of_length-le, length-take-le, le-leb, leb-false, ltb-false}
use Rattle.std.proofs.Math.Option.{Option, none, some}
use Rattle.std.proofs.lemmas.List.{take-append-le, drop-append-le}
use Rattle.std.proofs.Math.Seq.{take-append-add, drop-append-add}
use Rattle.std.proofs.lemmas.Bool.{lt-leb}
use Rattle.rows_table.specs.Rows.{Row, width, key_of, key, Wide, Table, Filled, Holds, find, insert, insert_all, image, rank, remove}
use Rattle.rows_table.specs.Laws.{order, pick_true, pick_false, insert_table, remove_len}
use Rattle.rows_table.specs.Each.{find_key}
use Rattle.rows_table.specs.Answers.{Fits, Fit, Within, Inserted, Removed}
use Rattle.rows_table.specs.Images.{table_wide, take_rows, drop_rows, length_image, image_splice, holds_fits}
use Rattle.rows_table.specs.Buffers.{inserted_holds, room_full, removed_holds}
use Rattle.rows_merge.specs.Laws.{count_more, insert_first, apart_insert}
use Rattle.rows_runs.specs.Runs.{row_of, row_in, Runs, Parted, Near, Keeps, PutIn, Old, TakenOut}
use Rattle.rows_runs.specs.Union.{apart_none, none_apart, insert_late, insert_at, insert_at_length, insert_most, find_at, apart_other, remove_none, remove_both, apart_remove}
use Rattle.rows_runs.specs.Parts.{rest_of, put_rest, wide_append, runs_count, first_holds, late_part, row_first, row_late, both_first, runs_parts}
use Rattle.rows_runs.specs.Laws.{holds_keeps, keeps_fits, keeps_count}

-- ---- the words from a place on, lent and given back

-- the words put back stand behind those that were not lent
pub rest_back : (l tail : List ℕ) (at : ℕ) → put_rest l at tail ≡ take at l ++ tail
rest_back l tail at =
    let gone : drop (length l - at) (drop at l) ≡ [] = drop_of_length-le (drop at l) {i = length l - at} (le_of_eq (length-drop at l)) in
    ap (λ (x : List ℕ). take at l ++ (tail ++ x)) gone ∙ ap (λ (x : List ℕ). take at l ++ x) (append-nil tail)

-- how many words are lent
pub rest_length : (l : List ℕ) (at : ℕ) → length (rest_of l at) ≡ length l - at
rest_length l at = length-take-le (length l - at) (drop at l) (le_of_eq (sym (length-drop at l)))

-- as many put back as were lent: the buffer keeps its length
pub rest_kept : (l tail : List ℕ) (at : ℕ) → at ≤ length l → length tail ≡ length (rest_of l at) → length (put_rest l at tail) ≡ length l
rest_kept l tail at h e = ap length (rest_back l tail at) ∙ length-append (take at l) tail ∙ omega (arith, length-take-le at l h, rest_length l at)

-- what fits there fits
pub rest_fit : (l : List ℕ) (m n : ℕ) → n * width ≤ length l → m ≤ n → (r : RustOption ℕ) (c : ℕ) → r ≡ Some c → Fit width (length (rest_of l (m * width))) r → (m + c) * width ≤ length l
rest_fit l m n h k r c q f =
    let g : c * width ≤ length (rest_of l (m * width)) = subst (Fit width (length (rest_of l (m * width)))) q f in
    omega (arith, rest_length l (m * width))

-- ---- in the place of another

-- the row at place i is another
filled_set : {rows : List Row} {n : ℕ} {buf : List ℕ} → Filled width rows n buf → (i : ℕ) → i < n → (row : Row) (new : List Row) → take i rows ++ (row ∷ drop (suc i) rows) ≡ new
    → Wide width new → length new ≡ n → Filled width new n (take (i * width) buf ++ (row ++ drop (i * width + width) buf))
filled_set {rows} {n} {buf} F i h row new e w c =
    let s : i * width + width ≡ suc i * width = omega arith in
    let parts : length (take i rows) + length (drop (suc i) rows) + 1 ≡ n = omega (arith, length-take-le i rows (omega (arith, F.count)), length-drop (suc i) rows, F.count) in
    let after : take (i * width) buf ++ (row ++ drop (i * width + width) buf) ≡ image width (length buf) new =
    rw (s, take_rows F i (omega arith), drop_rows F (suc i) h) (image_splice width (length buf) n (take i rows) row (drop (suc i) rows) parts ∙ ap (image width (length buf)) e) in
    let long : length (image width (length buf) new) ≡ length buf = length_image width (length buf) new w (omega (arith, holds_fits F)) in
    record { words = after ∙ ap (λ (k : ℕ). image width k new) (sym (ap length after ∙ long)); count = c; wide = w }

module _ {first late : List Row} {m n : ℕ} {buf : List ℕ} (R : Runs first late m n buf) (row : Row) (w : length row ≡ width) where
  -- a row of the first run with the row's key is written over: the row stands in its place, and the other run is as it was
  pub set_first : (i : ℕ) → i < m → key (get_or first i []) ≡ key row → Runs (insert row first) late m n (take (i * width) buf ++ (row ++ drop (i * width + width) buf))
  set_first i h e =
      let l : i < length first = omega (arith, R.split) in
      let c : length (insert row first) ≡ length first = insert_at_length 0 first row R.first_table i l e in
      let t : Table 0 (insert row first) = insert_table 0 row first R.first_table w zero-le in
      let p : take i (first ++ late) ++ (row ∷ drop (suc i) (first ++ late)) ≡ insert row first ++ late =
      ap (λ (x : List Row). x ++ (row ∷ drop (suc i) (first ++ late))) (take-append-le i first late (omega arith))
      ∙ ap (λ (x : List Row). take i first ++ (row ∷ x)) (drop-append-le (suc i) first late l)
      ∙ sym (append_assoc (take i first) (row ∷ drop (suc i) first) late) ∙ ap (λ (x : List Row). x ++ late) (sym (insert_at 0 first row R.first_table i l e)) in
      record {
        filled = filled_set R.filled i (omega (arith, runs_count R)) row (insert row first ++ late) p (wide_append width (insert row first) late (table_wide 0 (insert row first) t) (table_wide 0 late R.late_table)) (
            length-append (insert row first) late ∙ omega (arith, R.split, runs_count R));
        split = c ∙ R.split;
        first_table = t;
        late_table = R.late_table;
        apart = apart_other first late row (apart_none (key row) first late (get_or first i []) R.apart (find_at 0 (key row) first R.first_table i l e)) R.apart;
      }

  -- the same in the late run
  pub set_late : (i : ℕ) → i < n - m → key (get_or late i []) ≡ key row
      → Runs first (insert row late) m n (take ((m + i) * width) buf ++ (row ++ drop ((m + i) * width + width) buf))
  set_late i h e =
      let l : i < length late = omega (arith, runs_count R) in
      let c : length (insert row late) ≡ length late = insert_at_length 0 late row R.late_table i l e in
      let t : Table 0 (insert row late) = insert_table 0 row late R.late_table w zero-le in
      let q : m + i ≡ length first + i = omega (arith, R.split) in
      let q' : suc (m + i) ≡ length first + suc i = omega (arith, R.split) in
      let p : take (m + i) (first ++ late) ++ (row ∷ drop (suc (m + i)) (first ++ late)) ≡ first ++ insert row late =
      ap (λ (k : ℕ). take k (first ++ late) ++ (row ∷ drop (suc (m + i)) (first ++ late))) q
      ∙ ap (λ (k : ℕ). take (length first + i) (first ++ late) ++ (row ∷ drop k (first ++ late))) q'
      ∙ ap (λ (x : List Row). x ++ (row ∷ drop (length first + suc i) (first ++ late))) (take-append-add first late i)
      ∙ ap (λ (x : List Row). (first ++ take i late) ++ (row ∷ x)) (drop-append-add first late (suc i))
      ∙ append_assoc first (take i late) (row ∷ drop (suc i) late) ∙ ap (λ (x : List Row). first ++ x) (sym (insert_at 0 late row R.late_table i l e)) in
      record {
        filled = filled_set R.filled (m + i) (omega (arith, runs_count R)) row (first ++ insert row late) p (wide_append width first (insert row late) (table_wide 0 first R.first_table) (table_wide 0 (insert row late) t)) (
            length-append first (insert row late) ∙ omega (arith, R.split, runs_count R));
        split = R.split;
        first_table = R.first_table;
        late_table = t;
        apart = apart_insert first late row (none_apart (key row) first late (get_or late i []) R.apart (find_at 0 (key row) late R.late_table i l e)) R.apart;
      }

-- ---- what `insert` answers

-- the rows are in
pub put_done : {new : List Row} {k : ℕ} {after : List ℕ} (n : ℕ) → length after ≡ n → Keeps new k after → PutIn new n (Some k) after
put_done {new} {k} {after} n l K =
    let c : length new ≡ k = keeps_count K in
    let fit : Fits n new ≡ true = le-leb (length new * width) n (omega (arith, keeps_fits K)) in
    record {
      answer = ap Some (sym c) ∙ sym (pick_true (Some (length new)) None fit);
      after = λ _. subst (λ (j : ℕ). Keeps new j after) (sym c) K;
    }

-- they do not fit
pub put_full : {new : List Row} (n : ℕ) (after : List ℕ) → n < length new * width → PutIn new n None after
put_full {new} n after h =
    let no : Fits n new ≡ false = lt-leb (length new * width) n h in
    record {
      answer = sym (pick_false (Some (length new)) None no);
      after = λ (yes : Fits n new ≡ true).
          let z : ◌≡◌ {A = ℕ} 0 1 = cc in
          absurd (omega arith);
    }

-- a key made of a row's first two words is the row's key
pub key_words : (row : Row) (k : ℕ) → k ≡ key_of (get_or row 0 0) (get_or row 1 0) → k ≡ key row
unfolding key
key_words row k e = e

-- where no row has the key, none of the first run has
pub old_is : {rows : List Row} {m n : ℕ} {buf : List ℕ} (P : Parted rows m n buf) (k : ℕ) (r : RustOption ℕ) → row_in buf r ≡ find k rows → Old k rows P.first buf r
old_is P k (Some i) f = f
old_is {rows} P k None f = go (find k P.first) refl
  where
    go : (o : Option Row) → find k P.first ≡ o → find k P.first ≡ none
    go none p = p
    go (some x) p =
        let g : some x ≡ none = both_first P.runs k x (sym p) ∙ ap (find k) (sym P.all) ∙ sym f in
        let z : ◌≡◌ {A = ℕ} 0 1 = cc in
        absurd (omega arith)

-- what is found in the first run is the table's
pub old_first : {rows : List Row} {m n : ℕ} {buf : List ℕ} (P : Parted rows m n buf) (k : ℕ) (r : RustOption ℕ) → row_in buf r ≡ find k P.first → Old k rows P.first buf r
old_first P k None f = sym f
old_first {buf = buf} P k (Some i) f = both_first P.runs k (row_of buf i) f ∙ ap (find k) (sym P.all)

module _ {rows : List Row} {n : ℕ} {buf : List ℕ} (K : Keeps rows n buf) (row : Row) (w : length row ≡ width) where
  -- the row with its key is replaced, in either run
  pub keeps_set : (i : ℕ) → i < n → some (row_of buf i) ≡ find (key row) rows → Keeps (insert row rows) n (take (i * width) buf ++ (row ++ drop (i * width + width) buf))
  keeps_set i h f = go (order i K.at)
    where
      there : key (row_of buf i) ≡ key row
      there = find_key (key row) rows (row_of buf i) (sym f)

      go : (i < K.at) ⊎ (K.at ≤ i) → Keeps (insert row rows) n (take (i * width) buf ++ (row ++ drop (i * width + width) buf))
      go (inl q) =
          let e : key (get_or K.parted.first i []) ≡ key row = ap key (sym (row_first K.parted.runs i q)) ∙ there in
          let l : i < length K.parted.first = omega (arith, K.parted.runs.split) in
          record {
            at = K.at;
            near = K.near;
            parted = record {
              first = insert row K.parted.first;
              late = K.parted.late;
              runs = set_first K.parted.runs row w i q e;
              all = ap (insert row) K.parted.all
                  ∙ insert_first K.parted.first K.parted.late row (apart_none (key row) K.parted.first K.parted.late (get_or K.parted.first i []) K.parted.runs.apart (find_at 0 (key row) K.parted.first K.parted.runs.first_table i l e));
            };
          }
      go (inr q) =
          let j : ℕ = i - K.at in
          let s : K.at + (i - K.at) ≡ i = omega arith in
          let l : i - K.at < n - K.at = omega arith in
          let e : key (get_or K.parted.late j []) ≡ key row = ap key (sym (row_late K.parted.runs j l)) ∙ ap (λ (k : ℕ). key (row_of buf k)) s ∙ there in
          record {
            at = K.at;
            near = K.near;
            parted = record {
              first = K.parted.first;
              late = insert row K.parted.late;
              runs = subst (λ (k : ℕ). Runs K.parted.first (insert row K.parted.late) K.at n (take (k * width) buf ++ (row ++ drop (k * width + width) buf))) s (set_late K.parted.runs row w j l e);
              all = ap (insert row) K.parted.all ∙ insert_late 0 K.parted.first K.parted.late row K.parted.runs.late_table;
            };
          }

  -- as the code finds it, and writes over it
  pub put_set : (k : ℕ) → k ≡ key row → (r : RustOption ℕ) (i : ℕ) → r ≡ Some i → Within n r → Old k rows K.parted.first buf r → (after : List ℕ)
      → after ≡ take (i * width) buf ++ (row ++ drop (i * width + length row) buf) → length after ≡ length buf → PutIn (insert row rows) (length buf) (Some n) after
  put_set k e r i q h f after a l =
      let g : some (row_of buf i) ≡ find (key row) rows = subst (Old k rows K.parted.first buf) q f ∙ ap (λ (j : ℕ). find j rows) e in
      let b : take (i * width) buf ++ (row ++ drop (i * width + width) buf) ≡ after = ap (λ (j : ℕ). take (i * width) buf ++ (row ++ drop (i * width + j) buf)) (sym w) ∙ sym a in
      put_done (length buf) l (subst (Keeps (insert row rows) n) b (keeps_set i (subst (Within n) q h) g))

-- ---- into the late run

module _ {rows : List Row} {n : ℕ} {buf : List ℕ} (m : ℕ) (P : Parted rows m n buf) (b : Near m n) (row : Row) (w : length row ≡ width) where
  module _ (f : find (key row) P.first ≡ none) where
    new_is : insert row rows ≡ insert_all (insert row P.late) P.first
    new_is = ap (insert row) P.all ∙ insert_late 0 P.first P.late row P.runs.late_table

    new_count : length (insert row rows) ≡ m + length (insert row P.late)
    new_count =
        ap length new_is
        ∙ count_more P.first (insert row P.late) (insert_table 0 row P.late P.runs.late_table w zero-le) (apart_insert P.first P.late row f P.runs.apart)
        ∙ omega (arith, P.runs.split)

    -- the late run was joined to the first
    pub late_joined : (k : ℕ) (after : List ℕ) → length after ≡ length buf → Holds (insert_all (insert row P.late) P.first) k after → PutIn (insert row rows) (length buf) (Some k) after
    late_joined k after l H = put_done (length buf) l (holds_keeps (subst (λ (x : List Row). Holds x k after) (sym new_is) H))

    -- what was done to the late run, as a table of its own
    module _ (r : RustOption ℕ) (tail : List ℕ) (I : (rs : List Row) → Holds rs (n - m) (rest_of buf (m * width)) → Inserted row rs (length (rest_of buf (m * width))) r tail) where
      done : Inserted row P.late (length (rest_of buf (m * width))) r tail
      done = I P.late (late_part P.runs)

      -- the row is in
      pub late_runs : (c : ℕ) → r ≡ Some c → Runs P.first (insert row P.late) m (m + c) (put_rest buf (m * width) tail)
      late_runs c q =
          let R : Runs P.first P.late m n buf = P.runs in
          let D : Inserted row P.late (length (rest_of buf (m * width))) (Some c) tail = subst (λ (x : RustOption ℕ). Inserted row P.late (length (rest_of buf (m * width))) x tail) q done in
          let H : Holds (insert row P.late) c tail = inserted_holds P.late (n - m) (rest_of buf (m * width)) (late_part R) row w c tail D in
          subst (Runs P.first (insert row P.late) m (m + c)) (sym (rest_back buf tail (m * width))) (
          runs_parts (first_holds R) (length-take-le (m * width) buf (omega (arith, holds_fits P.runs.filled))) H (apart_insert P.first P.late row f P.runs.apart))

      -- and the late run has fewer than 32 rows
      pub late_kept : (c : ℕ) → r ≡ Some c → length (put_rest buf (m * width) tail) ≡ length buf → (c ≡ 32 → ⊥) → PutIn (insert row rows) (length buf) (Some (m + c)) (put_rest buf (m * width) tail)
      late_kept c q l h =
          let R : Runs P.first (insert row P.late) m (m + c) (put_rest buf (m * width) tail) = late_runs c q in
          let s : m + c < m + 32 = omega (arith, h, b.2, insert_most row P.late, runs_count R, runs_count P.runs) in
          put_done (length buf) l (record {
            at = m;
            near = (b.0, omega arith, s, b.3);
            parted = record { first = P.first; late = insert row P.late; runs = R; all = new_is };
          })

      -- it has no room
      pub late_full : r ≡ None → (after : List ℕ) → PutIn (insert row rows) (length buf) None after
      late_full q after =
          let part : List ℕ = rest_of buf (m * width) in
          let D : Inserted row P.late (length part) None tail = subst (λ (x : RustOption ℕ). Inserted row P.late (length part) x tail) q done in
          let over : length part < length (insert row P.late) * width = leb-false (length (insert row P.late) * width) (length part) (room_full (length part) row P.late tail D) in
          put_full (length buf) after (omega (arith, rest_length buf (m * width), new_count))

-- ---- taken out of the late run, where the first has no such row

-- rows taken out of the late run alone, while none of the first is between lo and hi, are taken out of the table
pub out_late : {rows : List Row} {n : ℕ} {buf : List ℕ} (m : ℕ) (P : Parted rows m n buf) → Near m n → (lo hi : ℕ) → lo ≤ hi → ltb (rank lo P.first) (rank hi P.first) ≡ false
    → (r : ℕ) (tail : List ℕ) → ((rs : List Row) → Holds rs (n - m) (rest_of buf (m * width)) → Removed lo hi rs (length (rest_of buf (m * width))) r tail)
    → TakenOut (remove lo hi rows) (m + r) (put_rest buf (m * width) tail)
out_late {rows} {n} {buf} m P b lo hi h f r tail I =
    let R : Runs P.first P.late m n buf = P.runs in
    let D : Removed lo hi P.late (length (rest_of buf (m * width))) r tail = I P.late (late_part R) in
    let H : Holds (remove lo hi P.late) r tail = removed_holds P.late (n - m) (rest_of buf (m * width)) (late_part R) lo hi r h tail D in
    let N : Runs P.first (remove lo hi P.late) m (m + r) (put_rest buf (m * width) tail) =
    subst (Runs P.first (remove lo hi P.late) m (m + r)) (sym (rest_back buf tail (m * width))) (
    runs_parts (first_holds R) (length-take-le (m * width) buf (omega (arith, holds_fits P.runs.filled))) H (apart_remove lo hi P.first P.late h R.apart)) in
    let s : m + r < m + 32 = omega (arith, b.2, D.answer, remove_len lo hi P.late, runs_count R) in
    let kept : Keeps (remove lo hi rows) (m + r) (put_rest buf (m * width) tail) =
    record {
      at = m;
      near = (b.0, omega arith, s, b.3);
      parted = record {
        first = P.first;
        late = remove lo hi P.late;
        runs = N;
        all = ap (remove lo hi) P.all ∙ remove_both 0 lo hi P.first P.late h R.late_table R.first_table
            ∙ ap (insert_all (remove lo hi P.late)) (remove_none 0 lo hi P.first R.first_table h (ltb-false (rank lo P.first) (rank hi P.first) f));
      };
    } in
    record { answer = sym (keeps_count kept); after = kept }
