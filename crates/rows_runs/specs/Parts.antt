-- Laws of a buffer that has two runs of rows: each run by itself, both made one, and what is put into one of them. Assumes nothing.
use Rattle.std.specs.Prelude.{◌≡◌, refl, true, false, ◌⊎◌, ℕ, ◌+◌, ◌-◌, ◌*◌, ◌≤◌, ◌<◌, ltb, take, get_or, Option as RustOption, Some, None}
use Rattle.std.proofs.Common.{sym, ◌∙◌, subst, inl, inr, arith, le_of_eq, le_refl, length-append, length-drop, take-append-drop, take_all, drop_at, length-take-le, get_or-append-add, ltb-true, ltb-false, lt-ltb, le-ltb}
use Rattle.std.proofs.Math.Path.{ap}
use mathlib.Core.List.{List, [], ◌∷◌, ◌++◌, append-nil}
use Rattle.std.proofs.Math.Option.{Option, none, some}
use Rattle.std.proofs.Math.ListN.{length, drop, get_or-append}
use Rattle.std.proofs.lemmas.List.{length-replicate, replicate-append-replicate}
use Rattle.std.proofs.Math.Seq.{take_at}
use Rattle.base_words.specs.Word.{flatten}
use Rattle.rows_table.specs.Rows.{Row, width, key_of, key, Wide, Table, Filled, Holds, rank, find, insert_all, zeros, image}
use Rattle.rows_table.specs.Laws.{order, rank_mono}
use Rattle.rows_table.specs.Answers.{found_at, Within}
use Rattle.rows_table.specs.Buffers.{found_row, found_none}
use Rattle.rows_table.specs.Images.{table_wide, length_flatten, take_rows, drop_rows, drop_tail, drop_zeros, image_append, holds_full, key_of_row}
use Rattle.rows_merge.specs.Merge.{Apart}
use Rattle.rows_merge.specs.Laws.{count_more, all_table}
use Rattle.rows_runs.specs.Runs.{row_of, row_in, Runs}
use Rattle.rows_runs.specs.Places.{row_filled}
use Rattle.rows_runs.specs.Union.{find_rest, find_among, find_below, find_beyond, rank_both, all_none, all_append, apart_append, table_less, table_front, table_back, table_append, apart_none}

-- two runs of rows of w words, one after the other, are rows of w words
pub wide_append : (w : ℕ) (a c : List Row) → Wide w a → Wide w c → Wide w (a ++ c)
wide_append w [] c t u = u
wide_append w (r ∷ rs) c t u = (t.0, wide_append w rs c t.1 u)

-- the words from a place on, as the code lends them, and others in their place
abbrev pub rest_of : List ℕ → ℕ → List ℕ
rest_of l at = take (length l - at) (drop at l)

-- the words of l before the place, then these
abbrev pub put_rest : List ℕ → ℕ → List ℕ → List ℕ
put_rest l at tail = take at l ++ (tail ++ drop (length l - at) (drop at l))

-- the words that are lent are all from the place on
pub rest_part : (l : List ℕ) (at : ℕ) → rest_of l at ≡ drop at l
rest_part l at = take_all (length l - at) (drop at l) (le_of_eq (length-drop at l))

-- what is found in a part of the buffer, where that part's rows are the buffer's first
pub found_part : {rows : List Row} {n : ℕ} {part : List ℕ} (buf : List ℕ) → Holds rows n part → ((i : ℕ) → i < n → row_of buf i ≡ get_or rows i [])
    → (k : ℕ) (r : RustOption ℕ) → Within n r → r ≡ found_at (rank k rows) (find k rows) → row_in buf r ≡ find k rows
found_part {rows} {n} {part} buf H f k (Some i) w e = ap (λ (r : Row). some r) (f i w) ∙ sym (found_row rows n part H k i e)
found_part {rows} {n} {part} buf H f k None w e = sym (found_none rows n part H k e)

find_empty : (k : ℕ) (rows : List Row) → length rows ≡ 0 → find k rows ≡ none
unfolding find
find_empty k [] e = refl
find_empty k (r ∷ rs) e = absurd (omega arith)

-- the same added on both sides
same_order : (a b c d n : ℕ) → c ≡ n + a → d ≡ n + b → ltb a b ≡ ltb c d
same_order a b c d n e f = go (order a b)
  where
    go : (a < b) ⊎ (b ≤ a) → ltb a b ≡ ltb c d
    go (inl h) = lt-ltb a b h ∙ sym (lt-ltb c d (omega arith))
    go (inr h) = le-ltb a b h ∙ sym (le-ltb c d (omega arith))

-- rows, and however many zeros
rest_zeros : (rows : List Row) (n k : ℕ) (buf : List ℕ) → Table 0 rows → length rows ≡ n → buf ≡ flatten rows ++ zeros k → Holds rows n buf
unfolding image
rest_zeros rows n k buf t c e =
    let l : length buf ≡ length rows * width + k =
    ap length e ∙ length-append (flatten rows) (zeros k) ∙ omega (arith, length_flatten width rows (table_wide 0 rows t), length-replicate {A = ℕ} k 0) in
    let z : k ≡ length buf - length rows * width = omega arith in
    record { filled = record { words = e ∙ ap (λ (j : ℕ). flatten rows ++ zeros j) z; count = c; wide = table_wide 0 rows t }; table = t }

-- ---- each run by itself

module _ {first late : List Row} {m n : ℕ} {buf : List ℕ} (R : Runs first late m n buf) where
  -- the late run has the rows that the first has not
  pub runs_count : m + length late ≡ n
  runs_count = omega (arith, R.split, R.filled.count, length-append first late)

  -- the words before the late run are the first run's rows
  pub first_words : take (m * width) buf ≡ flatten first
  first_words = take_rows R.filled m (omega (arith, runs_count)) ∙ ap flatten (take_at first late m R.split)

  -- those after it are the late run's rows, and zeros
  pub late_words : drop (m * width) buf ≡ flatten late ++ zeros (length buf - n * width)
  late_words = drop_rows R.filled m (omega (arith, runs_count)) ∙ ap (λ (l : List Row). flatten l ++ zeros (length buf - n * width)) (drop_at first late m R.split)

  -- the first run's part of the buffer holds it as a table
  pub first_holds : Holds first m (take (m * width) buf)
  first_holds = holds_full first m (take (m * width) buf) R.first_table R.split first_words

  -- so does the rest of the buffer the late run
  pub late_holds : Holds late (n - m) (drop (m * width) buf)
  late_holds = rest_zeros late (n - m) (length buf - n * width) (drop (m * width) buf) R.late_table (omega (arith, runs_count)) late_words

  -- as the code lends it
  pub late_part : Holds late (n - m) (rest_of buf (m * width))
  late_part = subst (Holds late (n - m)) (sym (rest_part buf (m * width))) late_holds

  -- a row at a place below m is the first run's
  pub row_first : (i : ℕ) → i < m → row_of buf i ≡ get_or first i []
  row_first i h = row_filled R.filled i (omega (arith, runs_count)) ∙ get_or-append first late [] i (omega (arith, R.split))

  -- one at m + i is the late run's row i
  pub row_late : (i : ℕ) → i < n - m → row_of buf (m + i) ≡ get_or late i []
  row_late i h =
      let e : m + i ≡ length first + i = omega (arith, R.split) in
      row_filled R.filled (m + i) (omega arith) ∙ ap (λ (j : ℕ). get_or (first ++ late) j []) e ∙ get_or-append-add first late i []

  -- the key that stands there is this row's
  pub key_first : (i : ℕ) → i < m → key_of (get_or buf (i * width) 0) (get_or buf (i * width + 1) 0) ≡ key (get_or first i [])
  key_first i h = key_of_row R.filled i (omega (arith, runs_count)) ∙ ap key (get_or-append first late [] i (omega (arith, R.split)))

  -- the key that stands at m is that of the late run's first row
  pub key_late : m < n → key_of (get_or buf (m * width) 0) (get_or buf (m * width + 1) 0) ≡ key (get_or late 0 [])
  key_late h =
      let e : m ≡ length first + 0 = omega (arith, R.split) in
      key_of_row R.filled m h ∙ ap (λ (j : ℕ). key (get_or (first ++ late) j [])) e ∙ ap key (get_or-append-add first late 0 [])

  -- the keys that stand in the first run rise
  pub first_less : (i j x y : ℕ) → i < j → j < m → x ≡ key_of (get_or buf (i * width) 0) (get_or buf (i * width + 1) 0)
      → y ≡ key_of (get_or buf (j * width) 0) (get_or buf (j * width + 1) 0) → x < y
  first_less i j x y h l e f =
      omega (arith, e ∙ key_first i (omega arith), f ∙ key_first j l, table_less 0 first R.first_table i j h (omega (arith, R.split)))

  -- and so do those in the late one
  pub late_less : (i j x y : ℕ) → m ≤ i → i < j → j < n → x ≡ key_of (get_or buf (i * width) 0) (get_or buf (i * width + 1) 0)
      → y ≡ key_of (get_or buf (j * width) 0) (get_or buf (j * width + 1) 0) → x < y
  late_less i j x y a h l e f =
      let p : i ≡ length first + (i - m) = omega (arith, R.split) in
      let q : j ≡ length first + (j - m) = omega (arith, R.split) in
      let u : x ≡ key (get_or late (i - m) []) = e ∙ key_of_row R.filled i (omega arith) ∙ ap (λ (k : ℕ). key (get_or (first ++ late) k [])) p ∙ ap key (get_or-append-add first late (i - m) []) in
      let v : y ≡ key (get_or late (j - m) []) = f ∙ key_of_row R.filled j l ∙ ap (λ (k : ℕ). key (get_or (first ++ late) k [])) q ∙ ap key (get_or-append-add first late (j - m) []) in
      omega (arith, u, v, table_less 0 late R.late_table (i - m) (j - m) (omega arith) (omega (arith, runs_count)))

  -- the table that both together are
  pub both_count : length (insert_all late first) ≡ n
  both_count = count_more first late R.late_table R.apart ∙ omega (arith, R.split, runs_count)

  -- its rows are in order
  pub both_table : Table 0 (insert_all late first)
  both_table = all_table late first (table_wide 0 late R.late_table) R.first_table

  -- ---- a key in one of the runs, by what stands at its ends

  -- without rows the first run has no key
  pub none_first : (k : ℕ) → m ≡ 0 → find k first ≡ none
  none_first k e = find_empty k first (R.split ∙ e)

  -- a key above the first run's last is not in it
  pub beyond_first : (k x : ℕ) → 0 < m → x ≡ key_of (get_or buf ((m - 1) * width) 0) (get_or buf ((m - 1) * width + 1) 0) → x < k → find k first ≡ none
  beyond_first k x h e l = find_beyond 0 k first R.first_table (m - 1) (omega (arith, R.split)) (subst (λ (y : ℕ). y < k) (e ∙ key_first (m - 1) (omega arith)) l)

  -- without rows the late run has none
  pub none_late : (k : ℕ) → m ≡ n → find k late ≡ none
  none_late k e = find_empty k late (omega (arith, runs_count))

  -- a key below the late run's first is not in it
  pub below_late : (k x : ℕ) → m < n → x ≡ key_of (get_or buf (m * width) 0) (get_or buf (m * width + 1) 0) → k < x → find k late ≡ none
  below_late k x h e l = find_below 0 k late R.late_table (subst (λ (y : ℕ). k < y) (e ∙ key_late h) l)

  -- what is found at place i of the late run stands in the buffer at m + i
  pub found_late : (k i : ℕ) → i < n - m → Some i ≡ found_at (rank k late) (find k late) → some (row_of buf (m + i)) ≡ find k late
  found_late k i h e = ap (λ (r : Row). some r) (row_late i h) ∙ sym (found_row late (n - m) (drop (m * width) buf) late_holds k i e)

  -- a key in both
  pub both_first : (k : ℕ) (r : Row) → some r ≡ find k first → some r ≡ find k (insert_all late first)
  both_first k r e = e ∙ sym (find_rest k first late (apart_none k first late r R.apart (sym e)))

  -- a key that isn't in the first run finds in both what it finds in the late one
  pub both_late : (k : ℕ) → none ≡ find k first → find k late ≡ find k (insert_all late first)
  both_late k e = go (find k late) refl
    where
      go : (o : Option Row) → find k late ≡ o → find k late ≡ find k (insert_all late first)
      go none f = f ∙ e ∙ sym (find_rest k first late f)
      go (some r) f = f ∙ sym (find_among 0 k first late r R.late_table f)

  -- whether a key is between two
  pub between_first : (lo hi : ℕ) → lo ≤ hi → ltb (rank lo first) (rank hi first) ≡ true → ltb (rank lo (insert_all late first)) (rank hi (insert_all late first)) ≡ true
  between_first lo hi h e =
      lt-ltb (rank lo (insert_all late first)) (rank hi (insert_all late first)) (
      omega (arith, rank_both 0 lo first late R.late_table R.apart, rank_both 0 hi first late R.late_table R.apart, rank_mono lo hi late h, ltb-true (rank lo first) (rank hi first) e))

  -- where the first run has no key between lo and hi, the late one alone tells whether both have
  pub between_late : (lo hi : ℕ) → lo ≤ hi → ltb (rank lo first) (rank hi first) ≡ false
      → ltb (rank lo late) (rank hi late) ≡ ltb (rank lo (insert_all late first)) (rank hi (insert_all late first))
  between_late lo hi h e =
      let f : rank hi first ≡ rank lo first = omega (arith, ltb-false (rank lo first) (rank hi first) e, rank_mono lo hi first h) in
      same_order (rank lo late) (rank hi late) (rank lo (insert_all late first)) (rank hi (insert_all late first)) (rank lo first)
      (rank_both 0 lo first late R.late_table R.apart) (rank_both 0 hi first late R.late_table R.apart ∙ ap (λ (x : ℕ). x + rank hi late) f)

-- two runs from two parts
pub runs_parts : {first late : List Row} {m l : ℕ} {front tail : List ℕ} → Holds first m front → length front ≡ m * width → Holds late l tail → Apart late first
    → Runs first late m (m + l) (front ++ tail)
runs_parts {first} {late} {m} {l} {front} {tail} F w L a =
    let all : take m first ≡ first = take_all m first (le_of_eq F.filled.count) in
    let f : front ≡ flatten first = sym (take_all (m * width) front (le_of_eq w)) ∙ take_rows F.filled m (le_refl m) ∙ ap flatten all in
    let t : tail ≡ flatten late ++ zeros (length tail - l * width) = drop_rows L.filled 0 (omega arith) in
    let z : length tail - l * width ≡ length (front ++ tail) - (m + l) * width = omega (arith, length-append front tail) in
    record {
      filled = record {
        words = ap (λ (x : List ℕ). x ++ tail) f ∙ ap (λ (x : List ℕ). flatten first ++ x) (t ∙ ap (λ (k : ℕ). flatten late ++ zeros k) z)
            ∙ image_append width (length (front ++ tail)) (m + l) first late (omega (arith, F.filled.count, L.filled.count));
        count = length-append first late ∙ omega (arith, F.filled.count, L.filled.count);
        wide = wide_append width first late F.filled.wide L.filled.wide;
      };
      split = F.filled.count;
      first_table = F.table;
      late_table = L.table;
      apart = a;
    }

-- a table is two runs, wherever it is split
pub holds_runs : {rows : List Row} {n : ℕ} {buf : List ℕ} → Holds rows n buf → (m : ℕ) → m ≤ n → Runs (take m rows) (drop m rows) m n buf
holds_runs {rows} {n} {buf} H m h =
    let e : rows ≡ take m rows ++ drop m rows = sym (take-append-drop m rows) in
    let t : Table 0 (take m rows ++ drop m rows) = subst (Table 0) e H.table in
    record {
      filled = subst (λ (l : List Row). Filled width l n buf) e H.filled;
      split = length-take-le m rows (omega (arith, H.filled.count));
      first_table = table_front 0 (take m rows) (drop m rows) t;
      late_table = table_back 0 (take m rows) (drop m rows) t;
      apart = apart_append 0 (take m rows) (drop m rows) t;
    }

-- a table is its first m rows, with the others put into them
pub parts_all : {rows : List Row} (m : ℕ) → Table 0 rows → rows ≡ insert_all (drop m rows) (take m rows)
parts_all {rows} m t =
    let e : rows ≡ take m rows ++ drop m rows = sym (take-append-drop m rows) in
    e ∙ sym (all_append 0 (take m rows) (drop m rows) (subst (Table 0) e t))

-- ---- made one

-- no row is in the first run
pub runs_short : (first late : List Row) {rows : List Row} {m n : ℕ} {buf : List ℕ} → Runs first late m n buf → rows ≡ insert_all late first → m ≡ 0 → Holds rows n buf
runs_short [] late {rows} {m} {n} {buf} R e z = subst (λ (l : List Row). Holds l n buf) (sym (e ∙ all_none 0 late R.late_table)) (record { filled = R.filled; table = R.late_table })
runs_short (r ∷ rs) late R e z = absurd (omega (arith, R.split))

-- none is in the late one
pub runs_none : (first late : List Row) {m n : ℕ} {buf : List ℕ} → Runs first late m n buf → m ≡ n → Holds (insert_all late first) n buf
unfolding insert_all
runs_none first [] {m} {n} {buf} R e = record { filled = subst (λ (l : List Row). Filled width l n buf) (append-nil first) R.filled; table = R.first_table }
runs_none first (x ∷ xs) R e = absurd (omega (arith, runs_count R))

module _ {first late : List Row} {m n : ℕ} {buf : List ℕ} (R : Runs first late m n buf) where
  -- the late ones come after
  pub runs_order : (x y : ℕ) → 0 < m → m < n → x ≡ key_of (get_or buf ((m - 1) * width) 0) (get_or buf ((m - 1) * width + 1) 0)
      → y ≡ key_of (get_or buf (m * width) 0) (get_or buf (m * width + 1) 0) → x < y → Holds (insert_all late first) n buf
  runs_order x y h l e f q =
      let k : key (get_or first (m - 1) []) < key (get_or late 0 []) = omega (arith, e ∙ key_first R (m - 1) (omega arith), f ∙ key_late R l) in
      let t : Table 0 (first ++ late) = table_append 0 0 first late R.first_table R.late_table (m - 1) (omega (arith, R.split)) k in
      subst (λ (a : List Row). Holds a n buf) (sym (all_append 0 first late t)) (record { filled = R.filled; table = t })

  -- the late ones copied to the beginning of zeros
  pub late_copied : (k : ℕ) (put after : List ℕ) → put ≡ take (n * width - m * width) (drop (m * width) buf) → after ≡ take 0 (zeros k) ++ (put ++ drop (0 + length put) (zeros k))
      → Holds late (n - m) after
  unfolding image
  late_copied k put after p a =
      let len : length (flatten late) ≡ length late * width = length_flatten width late (table_wide 0 late R.late_table) in
      let w : put ≡ flatten late = p ∙ ap (take (n * width - m * width)) (late_words R)
      ∙ take_at (flatten late) (zeros (length buf - n * width)) (n * width - m * width) (omega (arith, len, runs_count R)) in
      let q : 0 + length put ≡ length late * width = omega (arith, ap length w, len) in
      let d : after ≡ flatten late ++ zeros (k - length late * width) =
      a ∙ ap (λ (l : List ℕ). l ++ drop (0 + length put) (zeros k)) w ∙ ap (λ (j : ℕ). flatten late ++ drop j (zeros k)) q ∙ ap (λ (l : List ℕ). flatten late ++ l) (drop_zeros (length late * width) k) in
      rest_zeros late (n - m) (k - length late * width) after R.late_table (omega (arith, runs_count R)) d

  -- the first ones, with zeros where the late ones were
  pub late_cleared : (after : List ℕ) → after ≡ take (m * width) buf ++ (zeros (n * width - m * width) ++ drop (n * width) buf) → Holds first m after
  late_cleared after a =
      let s : n * width ≡ n * width + 0 = omega arith in
      let z : drop (n * width) buf ≡ zeros (length buf - (n * width + 0)) = ap (λ (k : ℕ). drop k buf) s ∙ drop_tail R.filled 0 in
      rest_zeros first m (n * width - m * width + (length buf - (n * width + 0))) after R.first_table R.split (
      a ∙ ap (λ (l : List ℕ). l ++ (zeros (n * width - m * width) ++ drop (n * width) buf)) (first_words R)
      ∙ ap (λ (l : List ℕ). flatten first ++ (zeros (n * width - m * width) ++ l)) z
      ∙ ap (λ (l : List ℕ). flatten first ++ l) (replicate-append-replicate (n * width - m * width) (length buf - (n * width + 0)) 0))
