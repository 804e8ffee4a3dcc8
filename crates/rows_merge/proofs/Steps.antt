-- Two tables merged from the back: of the rows to come the last goes in, and what was merged before it stays as it is. Assumes nothing.
use mathlib.Core.Path.{◌≡◌, refl, sym, ap, ◌∙◌, subst}
use mathlib.Core.Logic.{◌⊎◌, inl, inr}
use mathlib.Core.List.{List, [], ◌∷◌, ◌++◌, append_assoc, append-nil}
use mathlib.Core.Option.{none}
use Prim.Native.Nat.{ℕ, zero, suc, ◌+◌, ◌-◌, ◌*◌, ◌≤◌, ◌<◌}
use native.Mathlib.Omega.{arith}
use native.Mathlib.Numerals.{add-one}
use native.Mathlib.Nat.{le_of_suc-le-suc, not-suc-le-zero, le_of_eq, le_refl}
use lib.ListN.{length, take, drop, get_or, length-append, length-drop, take-append-drop}
use lib.Seq.{slice, take_all, take-suc, drop-cons, take_at, drop_at, take-take, take-append-le, length-take-le, length-slice}
use Rattle.base_words.specs.Word.{flatten}
use Rattle.base_words.specs.Each.{Each}
use Rattle.rows_table.specs.Rows.{width, Row, key_of, key, Table, rank, find, insert, insert_all, zeros, image, Holds}
use Rattle.rows_table.specs.Laws.{order, rank_lt, rank_ge, find_ne, ne_lt, table_down, insert_lt, insert_gt}
use Rattle.rows_table.specs.Each.{each_insert, each_at, wide_each}
use Rattle.rows_table.specs.Images.{flatten_append, flatten_split, table_wide, holds_full, length_flatten_take, image_append, take_rows, drop_rows, drop_tail, key_of_row}
use Rattle.rows_merge.specs.Merge.{Apart, Merging}
use Rattle.rows_merge.specs.Laws.{none_head, none_tail, insert_front, all_table}

-- every key is below k
abbrev Below : ℕ → List Row → Type 0
Below k rows = Each (λ (x : Row). key x < k) rows

-- ---- rows before and after a place

-- before the later rows
all_front : (k : ℕ) (more a c : List Row) → Below k more → Table k c → insert_all more (a ++ c) ≡ insert_all more a ++ c
unfolding insert_all Each
all_front k [] a c h t = refl
all_front k (r ∷ rs) a c h t = ap (insert_all rs) (insert_front r a c (table_down (suc (key r)) k c h.0 t)) ∙ all_front k rs (insert r a) c h.1 t

-- after the earlier ones
insert_between : (r : Row) (a c : List Row) → Below (key r) a → Table (suc (key r)) c → insert r (a ++ c) ≡ a ++ (r ∷ c)
unfolding insert Each
insert_between r [] [] h t = refl
insert_between r [] (x ∷ xs) h t = insert_gt r x xs t.1
insert_between r (y ∷ ys) c h t = insert_lt r y (ys ++ c) h.0 ∙ ap (λ (l : List Row). y ∷ l) (insert_between r ys c h.1 t)

all_snoc : (more rows : List Row) (r : Row) → insert_all (more ++ (r ∷ [])) rows ≡ insert r (insert_all more rows)
unfolding insert_all
all_snoc [] rows r = refl
all_snoc (x ∷ xs) rows r = all_snoc xs (insert x rows) r

all_below : (k : ℕ) (more rows : List Row) → Below k more → Below k rows → Below k (insert_all more rows)
unfolding insert_all Each
all_below k [] rows h g = g
all_below k (r ∷ rs) rows h g = all_below k rs (insert r rows) h.1 (each_insert (λ (x : Row). key x < k) r rows h.0 g)

-- the last key of a table is above the others
last_above : (b : ℕ) (xs : List Row) (r : Row) → Table b (xs ++ (r ∷ [])) → b ≤ key r
last_above b [] r t = t.1
last_above b (x ∷ xs) r t = omega (arith, t.1, last_above (suc (key x)) xs r t.2)

last_below : (b : ℕ) (xs : List Row) (r : Row) → Table b (xs ++ (r ∷ [])) → Below (key r) xs
unfolding Each
last_below b [] r t = tt
last_below b (x ∷ xs) r t = (last_above (suc (key x)) xs r t.2, last_below (suc (key x)) xs r t.2)

rank_below : (k : ℕ) (rows : List Row) → Below k (take (rank k rows) rows)
unfolding Each rank
rank_below k [] = tt
rank_below k (r ∷ rs) = go (order (key r) k) (rank_below k rs)
  where
    go : (key r < k) ⊎ (k ≤ key r) → Below k (take (rank k rs) rs) → Below k (take (rank k (r ∷ rs)) (r ∷ rs))
    go (inl h) ih = rw (rank_lt k r rs h) (h, ih)
    go (inr h) ih = rw (rank_ge k r rs h) tt

rank_table : (b k : ℕ) (rows : List Row) → Table b rows → find k rows ≡ none → Table (suc k) (drop (rank k rows) rows)
unfolding rank
rank_table b k [] t f = tt
rank_table b k (r ∷ rs) t f = go (order (key r) k) (rank_table (suc (key r)) k rs t.2 (none_tail k r rs f))
  where
    go : (key r < k) ⊎ (k ≤ key r) → Table (suc k) (drop (rank k rs) rs) → Table (suc k) (drop (rank k (r ∷ rs)) (r ∷ rs))
    go (inl h) ih = rw (rank_lt k r rs h) ih
    go (inr h) ih = rw (rank_ge k r rs h) (t.0, ne_lt k (key r) h (none_head k r rs f), t.2)

-- the last of the rows to come goes to its place, the others before it
last_in : (more rows : List Row) (r : Row) → Table 0 (more ++ (r ∷ [])) → Table 0 rows → find (key r) rows ≡ none
    → insert_all (more ++ (r ∷ [])) rows ≡ insert_all more (take (rank (key r) rows) rows) ++ (r ∷ drop (rank (key r) rows) rows)
last_in more rows r t u f =
    let p : ℕ = rank (key r) rows in
    let low : Below (key r) more = last_below 0 more r t in
    let high : Table (suc (key r)) (drop p rows) = rank_table 0 (key r) rows u f in
    all_snoc more rows r
    ∙ ap (λ (l : List Row). insert r (insert_all more l)) (sym (take-append-drop p rows))
    ∙ ap (insert r) (all_front (key r) more (take p rows) (drop p rows) low (table_down (key r) (suc (key r)) (drop p rows) (omega arith) high))
    ∙ insert_between r (insert_all more (take p rows)) (drop p rows) (all_below (key r) more (take p rows) low (rank_below (key r) rows)) high

-- ---- parts of tables

table_take : (b i : ℕ) (rows : List Row) → Table b rows → Table b (take i rows)
table_take b zero rows t = tt
table_take b (suc i) [] t = tt
table_take b (suc i) (r ∷ rs) t = (t.0, t.1, table_take (suc (key r)) i rs t.2)

find_take : (k i : ℕ) (rows : List Row) → find k rows ≡ none → find k (take i rows) ≡ none
unfolding find
find_take k zero rows f = refl
find_take k (suc i) [] f = refl
find_take k (suc i) (r ∷ rs) f = find_ne k r (take i rs) (none_head k r rs f) ∙ find_take k i rs (none_tail k r rs f)

apart_at : (rows more : List Row) → Apart more rows → (j : ℕ) → j < length more → find (key (get_or more j [])) rows ≡ none
unfolding Apart
apart_at rows [] a j h = absurd (not-suc-le-zero h)
apart_at rows (x ∷ xs) a zero h = a.0
apart_at rows (x ∷ xs) a (suc j) h = apart_at rows xs a.1 j (le_of_suc-le-suc h)

-- ---- the words

-- the row at j, as a part of the buffer
row_at : (more : List Row) (m : ℕ) (src : List ℕ) → Holds more m src → (j : ℕ) → j < m → take width (drop (j * width) src) ≡ get_or more j []
unfolding flatten
row_at more m src S j h =
    let r : Row = get_or more j [] in
    let tail : List ℕ = zeros (length src - m * width) in
    let c : drop j more ≡ r ∷ drop (suc j) more = drop-cons more j [] (omega (arith, S.filled.count)) in
    let l : length r ≡ width = each_at (λ (x : Row). length x ≡ width) [] more (wide_each width more S.filled.wide) j (omega (arith, S.filled.count)) in
    ap (take width) (drop_rows S.filled j (omega arith) ∙ ap (λ (x : List Row). flatten x ++ tail) c ∙ append_assoc r (flatten (drop (suc j) more)) tail)
    ∙ take_at r (flatten (drop (suc j) more) ++ tail) width l

-- a block of words moved up by w, and words put below it: what stands before, and from there on
module _ (b up after row : List ℕ) (from to w at : ℕ) (h : from ≤ to) (k : to + w ≤ length b) (e : at + length row ≡ from + w)
    (u : up ≡ take (from + w) b ++ (slice from to b ++ drop (to + w) b))
    (a : after ≡ take at up ++ (row ++ drop (at + length row) up)) where
  len_front : length (take (from + w) b) ≡ from + w
  len_front = length-take-le (from + w) b (omega arith)

  len_up : length up ≡ length b
  len_up =
      ap length u ∙ length-append (take (from + w) b) (slice from to b ++ drop (to + w) b)
      ∙ omega (arith, len_front, length-append (slice from to b) (drop (to + w) b), length-slice from to b (omega arith), length-drop (to + w) b)

  len_at : length (take at up) ≡ at
  len_at = length-take-le at up (omega (arith, len_up))

  -- the list keeps its length
  pub moved_length : length after ≡ length b
  moved_length =
      ap length a ∙ length-append (take at up) (row ++ drop (at + length row) up)
      ∙ omega (arith, len_at, len_up, length-append row (drop (at + length row) up), length-drop (at + length row) up)

  -- before the place it is as it was
  pub moved_front : (n : ℕ) → n ≤ at → take n after ≡ take n b
  moved_front n q =
      ap (take n) a ∙ take-append-le n (take at up) (row ++ drop (at + length row) up) (omega (arith, len_at)) ∙ take-take n at up q
      ∙ ap (take n) u ∙ take-append-le n (take (from + w) b) (slice from to b ++ drop (to + w) b) (omega (arith, len_front)) ∙ take-take n (from + w) b (omega arith)

  -- from there on: the words put in, the block, and what stood after its new end
  pub moved_back : drop at after ≡ row ++ (slice from to b ++ drop (to + w) b)
  moved_back =
      ap (drop at) a ∙ drop_at (take at up) (row ++ drop (at + length row) up) at len_at
      ∙ ap (λ (n : ℕ). row ++ drop n up) e ∙ ap (λ (l : List ℕ). row ++ drop (from + w) l) u
      ∙ ap (λ (l : List ℕ). row ++ l) (drop_at (take (from + w) b) (slice from to b ++ drop (to + w) b) (from + w) len_front)

-- ---- a turn

module _ (rows more : List Row) (count m i j : ℕ) (b src : List ℕ) (S : Holds more m src) (M : Merging rows more count m i (j + 1) b) where
  row : Row
  row = get_or more j []

  j_lt : j < length more
  j_lt = omega (arith, M.come)

  -- the rows that are still in their places, as a table of their own
  first_holds : Holds (take i rows) i (take (i * width) b)
  first_holds = holds_full (take i rows) i (take (i * width) b) (table_take 0 i rows M.table) (length-take-le i rows M.few) M.front

  row_is : take width (drop (j * width) src) ≡ row
  unfolding row
  row_is = row_at more m src S j (omega (arith, j_lt, S.filled.count))

  row_key : (k : ℕ) → k ≡ key_of (get_or src (j * width) 0) (get_or src (j * width + 1) 0) → k ≡ key row
  unfolding row
  row_key k e = e ∙ key_of_row S.filled j (omega (arith, j_lt, S.filled.count))

  -- what the last row leaves to be done
  turn_left : (p : ℕ) → p ≤ i → p ≡ rank (key row) (take i rows)
      → insert_all (take (j + 1) more) (take i rows) ≡ insert_all (take j more) (take p rows) ++ (row ∷ drop p (take i rows))
  unfolding row
  turn_left p h e =
      let s : take (j + 1) more ≡ take j more ++ (row ∷ []) = ap (λ (n : ℕ). take n more) (add-one j) ∙ take-suc more j [] j_lt in
      let t : Table 0 (take j more ++ (row ∷ [])) = subst (Table 0) s (table_take 0 (j + 1) more S.table) in
      ap (λ (l : List Row). insert_all l (take i rows)) s
      ∙ last_in (take j more) (take i rows) row t (table_take 0 i rows M.table) (find_take (key row) i rows (apart_at rows more M.apart j j_lt))
      ∙ ap (λ (n : ℕ). insert_all (take j more) (take n (take i rows)) ++ (row ∷ drop n (take i rows))) (sym e)
      ∙ ap (λ (l : List Row). insert_all (take j more) l ++ (row ∷ drop p (take i rows))) (take-take p i rows h)

  -- the last of the rows to come goes in before those of the first i that are above it
  pub turn : (k p : ℕ) → k ≡ key_of (get_or src (j * width) 0) (get_or src (j * width + 1) 0) → p ≤ i → ((rs : List Row) → Holds rs i (take (i * width) b) → p ≡ rank k rs)
      → (i + j + 1) * width ≤ length b → (put up after : List ℕ) → put ≡ take (j * width + width - j * width) (drop (j * width) src)
      → up ≡ take (p * width + (j * width + width)) b ++ (slice (p * width) (i * width) b ++ drop (i * width + (j * width + width)) b)
      → after ≡ take (p * width + j * width) up ++ (put ++ drop (p * width + j * width + length put) up)
      → Merging rows more count m p j after
  unfolding flatten row
  turn k p e h f fit put up after put_is u a =
      let rest : List Row = M.rest in
      let last : List Row = drop p (take i rows) in
      let tail : List ℕ = zeros (length b - (count + m) * width) in
      let one : j * width + width - j * width ≡ width = omega arith in
      let put_row : put ≡ row = put_is ∙ ap (λ (n : ℕ). take n (drop (j * width) src)) one ∙ row_is in
      let wide : length row ≡ width = each_at (λ (x : Row). length x ≡ width) [] more (wide_each width more S.filled.wide) j j_lt in
      let place : p ≡ rank (key row) (take i rows) = f (take i rows) first_holds ∙ ap (λ (n : ℕ). rank n (take i rows)) (row_key k e) in
      let len : p * width + j * width + length put ≡ p * width + (j * width + width) = omega (arith, ap length put_row, wide) in
      let up_le : p * width ≤ i * width = omega arith in
      let room : i * width + (j * width + width) ≤ length b = omega arith in
      let long : length after ≡ length b = moved_length b up after put (p * width) (i * width) (j * width + width) (p * width + j * width) up_le room len u a in
      let front : take (p * width) after ≡ flatten (take p rows) =
      moved_front b up after put (p * width) (i * width) (j * width + width) (p * width + j * width) up_le room len u a (p * width) (omega arith)
      ∙ sym (take-take (p * width) (i * width) b up_le) ∙ take_rows first_holds.filled p h ∙ ap flatten (take-take p i rows h) in
      let block : slice (p * width) (i * width) b ≡ flatten last =
      ap (drop (p * width)) (M.front ∙ flatten_split p (take i rows))
      ∙ drop_at (flatten (take p (take i rows))) (flatten last) (p * width) (
      length_flatten_take width p (take i rows) first_holds.filled.wide (omega (arith, first_holds.filled.count))) in
      let s₁ : i * width + (j * width + width) ≡ (i + (j + 1)) * width = omega arith in
      let s₂ : (p + j) * width ≡ p * width + j * width = omega arith in
      let back : drop (i * width + (j * width + width)) b ≡ flatten rest ++ tail = ap (λ (n : ℕ). drop n b) s₁ ∙ M.back in
      let words : row ++ (flatten last ++ (flatten rest ++ tail)) ≡ flatten ((row ∷ last) ++ rest) ++ tail =
      ap (λ (l : List ℕ). row ++ l) (sym (append_assoc (flatten last) (flatten rest) tail)) ∙ sym (append_assoc row (flatten last ++ flatten rest) tail)
      ∙ ap (λ (l : List ℕ). (row ++ l) ++ tail) (sym (flatten_append last rest)) in
      record {
        table = M.table;
        apart = M.apart;
        front = front;
        rest = (row ∷ last) ++ rest;
        back = ap (λ (n : ℕ). drop n after) s₂ ∙ moved_back b up after put (p * width) (i * width) (j * width + width) (p * width + j * width) up_le room len u a
            ∙ ap (λ (l : List ℕ). l ++ (slice (p * width) (i * width) b ++ drop (i * width + (j * width + width)) b)) put_row
            ∙ ap (λ (l : List ℕ). row ++ (l ++ drop (i * width + (j * width + width)) b)) block ∙ ap (λ (l : List ℕ). row ++ (flatten last ++ l)) back
            ∙ words ∙ ap (λ (n : ℕ). flatten ((row ∷ last) ++ rest) ++ zeros (n - (count + m) * width)) (sym long);
        left = M.left ∙ ap (λ (l : List Row). l ++ rest) (turn_left p h place) ∙ append_assoc (insert_all (take j more) (take p rows)) (row ∷ last) rest;
        few = omega (arith, M.few);
        come = omega (arith, M.come);
        total = omega (arith, length-append last rest, length-drop p (take i rows), length-take-le i rows M.few, M.total);
      }

-- ---- the first turn, and after the last

-- before the first turn nothing is merged
pub turn_first : (rows more : List Row) (count m : ℕ) (b src : List ℕ) → Holds rows count b → Holds more m src → Apart more rows → Merging rows more count m count m b
unfolding flatten
turn_first rows more count m b src H S a =
    let all : take count rows ≡ rows = take_all count rows (le_of_eq H.filled.count) in
    let each : take m more ≡ more = take_all m more (le_of_eq S.filled.count) in
    let s : (count + m) * width ≡ count * width + m * width = omega arith in
    record {
      table = H.table;
      apart = a;
      front = take_rows H.filled count (le_refl count);
      rest = [];
      back = rw s (drop_tail H.filled (m * width));
      left = rw (all, each) (sym (append-nil (insert_all more rows)));
      few = omega (arith, H.filled.count);
      come = omega (arith, S.filled.count);
      total = omega arith;
    }

-- where none is to come, all rows stand in order
pub turn_last : (rows more : List Row) (count m i : ℕ) (b src : List ℕ) → Holds more m src → Merging rows more count m i 0 b → Holds (insert_all more rows) (count + m) b
unfolding insert_all
turn_last rows more count m i b src S M =
    let len : length (take i rows) + length M.rest ≡ count + m = omega (arith, length-take-le i rows M.few, M.total) in
    let s : i * width ≡ (i + 0) * width = omega arith in
    let words : b ≡ image width (length b) (take i rows ++ M.rest) =
    sym (take-append-drop (i * width) b) ∙ ap (λ (l : List ℕ). l ++ drop (i * width) b) M.front
    ∙ ap (λ (l : List ℕ). flatten (take i rows) ++ l) (ap (λ (n : ℕ). drop n b) s ∙ M.back) ∙ image_append width (length b) (count + m) (take i rows) M.rest len in
    let t : Table 0 (insert_all more rows) = all_table more rows S.filled.wide M.table in
    record {
      filled = record {
        words = words ∙ ap (image width (length b)) (sym M.left);
        count = ap length M.left ∙ length-append (take i rows) M.rest ∙ len;
        wide = table_wide 0 (insert_all more rows) t;
      };
      table = t;
    }
