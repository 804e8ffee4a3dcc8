-- Laws of two tables that share no key, and of the table that both together are. By induction on the rows. Assumes nothing.
use Rattle.std.specs.Prelude.{◌≡◌, refl, Bool, true, false, ◌⊎◌, List, [], ◌∷◌, ◌++◌, ℕ, zero, suc, ◌+◌, ◌≤◌, ◌<◌, eqb, length, take, drop, get_or}
use Rattle.std.proofs.Common.{sym, ap, ◌∙◌, inl, inr, zero-le, arith, le_of_suc-le-suc, not-suc-le-zero, length-append, length-drop, take-append-drop, length-take-le, eqb-true}
use Rattle.std.proofs.Math.Option.{Option, none, some}
use Rattle.std.proofs.lemmas.Bool.{eqb-false}
use Rattle.rows_table.specs.Rows.{Row, key, Table, rank, find, insert, insert_all, remove}
use Rattle.rows_table.specs.Laws.{order, order₃, table_above, rank_lt, rank_ge, rank_high, rank_mono, rank_above, find_eq, find_ne, find_above, find_hit, find_miss, insert_lt, insert_eq, insert_gt, insert_old, find_insert_same, find_insert_other, insert_table, zone, remove_low, remove_in, remove_high, remove_splice, remove_table}
use Rattle.rows_merge.specs.Merge.{Apart}
use Rattle.rows_merge.specs.Laws.{none_head, none_tail, insert_front, less, insert_first, insert_apart}

-- ---- what is found

-- nothing and something
found_clash : {A : Type 0} {o : Option Row} {r : Row} → o ≡ none → o ≡ some r → A
found_clash e f = let z : ◌≡◌ {A = ℕ} 0 1 = cc in absurd (omega arith)

-- a key that none of these has finds what it found
pub find_rest : (k : ℕ) (rows more : List Row) → find k more ≡ none → find k (insert_all more rows) ≡ find k rows
unfolding insert_all
find_rest k rows [] f = refl
find_rest k rows (x ∷ xs) f = find_rest k (insert x rows) xs (none_tail k x xs f) ∙ find_insert_other k x rows (none_head k x xs f)

-- one that is among them finds its row
pub find_among : (b k : ℕ) (rows more : List Row) (r : Row) → Table b more → find k more ≡ some r → find k (insert_all more rows) ≡ some r
unfolding insert_all find
find_among b k rows [] r t f = found_clash refl f
find_among b k rows (x ∷ xs) r t f = go (eqb (key x) k) refl (find_among (suc (key x)) k (insert x rows) xs r t.2)
  where
    go : (s : Bool) → eqb (key x) k ≡ s → (find k xs ≡ some r → find k (insert_all xs (insert x rows)) ≡ some r) → find k (insert_all xs (insert x rows)) ≡ some r
    go true q ih =
        let e : key x ≡ k = eqb-true (key x) k q in
        find_rest k (insert x rows) xs (find_above k xs t.2 (omega arith))
        ∙ ap (λ (n : ℕ). find n (insert x rows)) (sym e) ∙ find_insert_same x rows ∙ sym (find_eq k x xs e) ∙ f
    go false q ih = ih (sym (find_ne k x xs (eqb-false (key x) k q)) ∙ f)

-- a key that is in the one is not in the other
pub apart_none : (k : ℕ) (rows more : List Row) (r : Row) → Apart more rows → find k rows ≡ some r → find k more ≡ none
unfolding Apart find
apart_none k rows [] r a f = refl
apart_none k rows (x ∷ xs) r a f = find_ne k x xs (λ e. found_clash (ap (λ (n : ℕ). find n rows) (sym e) ∙ a.0) f) ∙ apart_none k rows xs r a.1 f

-- and one that is in the other is not in the one
pub none_apart : (k : ℕ) (rows more : List Row) (r : Row) → Apart more rows → find k more ≡ some r → find k rows ≡ none
none_apart k rows more r a f = go (find k rows) refl
  where
    go : (o : Option Row) → find k rows ≡ o → find k rows ≡ none
    go none e = e
    go (some x) e = found_clash (apart_none k rows more x a e) f

-- below the first key, above the last
pub find_below : (b k : ℕ) (rows : List Row) → Table b rows → k < key (get_or rows 0 []) → find k rows ≡ none
unfolding find
find_below b k [] t h = refl
find_below b k (r ∷ rs) t h = find_ne k r rs (λ (e : key r ≡ k). omega arith) ∙ find_above k rs t.2 (omega arith)

-- a key above the last row's finds nothing
pub find_beyond : (b k : ℕ) (rows : List Row) → Table b rows → (m : ℕ) → suc m ≡ length rows → key (get_or rows m []) < k → find k rows ≡ none
find_beyond b k rows t m e h = find_miss b k rows t (λ (l : rank k rows < length rows) _. omega (arith, rank_high b k rows t m (omega arith) h))

-- ---- rows before a key

rank_insert_low : (k : ℕ) (r : Row) (rows : List Row) → key r < k → find (key r) rows ≡ none → rank k (insert r rows) ≡ suc (rank k rows)
unfolding insert rank
rank_insert_low k r [] h f = rank_lt k r [] h
rank_insert_low k r (x ∷ xs) h f = go (less r x (none_head (key r) x xs f)) (order (key x) k) (rank_insert_low k r xs h (none_tail (key r) x xs f))
  where
    go : (key x < key r) ⊎ (key r < key x) → (key x < k) ⊎ (k ≤ key x) → rank k (insert r xs) ≡ suc (rank k xs) → rank k (insert r (x ∷ xs)) ≡ suc (rank k (x ∷ xs))
    go (inl q) (inl o) ih = rw (insert_lt r x xs q, rank_lt k x (insert r xs) o, rank_lt k x xs o) (ap (λ (n : ℕ). suc n) ih)
    go (inl q) (inr o) ih = absurd (omega arith)
    go (inr q) o ih = rw (insert_gt r x xs q) (rank_lt k r (x ∷ xs) h)

rank_insert_high : (k : ℕ) (r : Row) (rows : List Row) → k ≤ key r → find (key r) rows ≡ none → rank k (insert r rows) ≡ rank k rows
unfolding insert rank
rank_insert_high k r [] h f = rank_ge k r [] h
rank_insert_high k r (x ∷ xs) h f = go (less r x (none_head (key r) x xs f)) (order (key x) k) (rank_insert_high k r xs h (none_tail (key r) x xs f))
  where
    go : (key x < key r) ⊎ (key r < key x) → (key x < k) ⊎ (k ≤ key x) → rank k (insert r xs) ≡ rank k xs → rank k (insert r (x ∷ xs)) ≡ rank k (x ∷ xs)
    go (inl q) (inl o) ih = rw (insert_lt r x xs q, rank_lt k x (insert r xs) o, rank_lt k x xs o) (ap (λ (n : ℕ). suc n) ih)
    go (inl q) (inr o) ih = rw (insert_lt r x xs q, rank_ge k x (insert r xs) o, rank_ge k x xs o) refl
    go (inr q) o ih = rw (insert_gt r x xs q, rank_ge k r (x ∷ xs) h, rank_ge k x xs (omega arith)) refl

-- those of both
pub rank_both : (b k : ℕ) (rows more : List Row) → Table b more → Apart more rows → rank k (insert_all more rows) ≡ rank k rows + rank k more
unfolding insert_all rank Apart
rank_both b k rows [] t a = omega arith
rank_both b k rows (x ∷ xs) t a =
    go (order (key x) k) (rank_both (suc (key x)) k (insert x rows) xs t.2 (insert_apart (suc (key x)) rows xs x t.2 (omega arith) a.1))
  where
    go : (key x < k) ⊎ (k ≤ key x) → rank k (insert_all xs (insert x rows)) ≡ rank k (insert x rows) + rank k xs → rank k (insert_all xs (insert x rows)) ≡ rank k rows + rank k (x ∷ xs)
    go (inl o) ih = omega (arith, ih, rank_insert_low k x rows o a.0, rank_lt k x xs o)
    go (inr o) ih = omega (arith, ih, rank_insert_high k x rows o a.0, rank_ge k x xs o, rank_above (suc (key x)) k xs t.2 (omega arith))

-- the keys of a table rise
pub table_less : (b : ℕ) (rows : List Row) → Table b rows → (i j : ℕ) → i < j → j < length rows → key (get_or rows i []) < key (get_or rows j [])
table_less b [] t i j h l = absurd (not-suc-le-zero l)
table_less b (r ∷ rs) t i zero h l = absurd (not-suc-le-zero h)
table_less b (r ∷ rs) t zero (suc j) h l = table_above rs t.2 j (le_of_suc-le-suc l)
table_less b (r ∷ rs) t (suc i) (suc j) h l = table_less (suc (key r)) rs t.2 i j (le_of_suc-le-suc h) (le_of_suc-le-suc l)

-- ---- a table in two parts

-- the first part of a table is one
pub table_front : (b : ℕ) (a c : List Row) → Table b (a ++ c) → Table b a
table_front b [] c t = tt
table_front b (r ∷ rs) c t = (t.0, t.1, table_front (suc (key r)) rs c t.2)

-- and so is the second
pub table_back : (b : ℕ) (a c : List Row) → Table b (a ++ c) → Table b c
table_back b [] c t = t
table_back b (r ∷ rs) [] t = tt
table_back b (r ∷ rs) (x ∷ xs) t =
    let u = table_back (suc (key r)) rs (x ∷ xs) t.2 in
    (u.0, omega (arith, t.1, u.1), u.2)

-- rows that come after go in after
all_after : (b : ℕ) (y : Row) (rows more : List Row) → Table b more → key y < b → insert_all more (y ∷ rows) ≡ y ∷ insert_all more rows
unfolding insert_all
all_after b y rows [] t h = refl
all_after b y rows (x ∷ xs) t h = rw (insert_lt x y rows (omega (arith, t.1))) (all_after (suc (key x)) y (insert x rows) xs t.2 (omega (arith, t.1)))

-- rows put into none
pub all_none : (b : ℕ) (more : List Row) → Table b more → insert_all more [] ≡ more
unfolding insert_all insert
all_none b [] t = refl
all_none b (x ∷ xs) t = all_after (suc (key x)) x [] xs t.2 (omega arith) ∙ ap (λ (l : List Row). x ∷ l) (all_none (suc (key x)) xs t.2)

-- the second part put into the first gives the table
pub all_append : (b : ℕ) (a c : List Row) → Table b (a ++ c) → insert_all c a ≡ a ++ c
all_append b [] c t = all_none b c t
all_append b (y ∷ ys) c t =
    all_after (suc (key y)) y ys c (table_back (suc (key y)) ys c t.2) (omega arith) ∙ ap (λ (l : List Row). y ∷ l) (all_append (suc (key y)) ys c t.2)

apart_none_in : (more : List Row) → Apart more []
unfolding Apart find
apart_none_in [] = tt
apart_none_in (x ∷ xs) = (refl, apart_none_in xs)

apart_cons : (b : ℕ) (y : Row) (rows more : List Row) → Table b more → key y < b → Apart more rows → Apart more (y ∷ rows)
unfolding Apart
apart_cons b y rows [] t h a = tt
apart_cons b y rows (x ∷ xs) t h a = (
  find_ne (key x) y rows (λ (e : key y ≡ key x). omega (arith, t.1)) ∙ a.0,
  apart_cons (suc (key x)) y rows xs t.2 (omega (arith, t.1)) a.1,
)

-- the two parts share no key
pub apart_append : (b : ℕ) (a c : List Row) → Table b (a ++ c) → Apart c a
apart_append b [] c t = apart_none_in c
apart_append b (y ∷ ys) c t = apart_cons (suc (key y)) y ys c (table_back (suc (key y)) ys c t.2) (omega arith) (apart_append (suc (key y)) ys c t.2)

-- two tables in order are one
pub table_append : (b d : ℕ) (a c : List Row) → Table b a → Table d c → (m : ℕ) → suc m ≡ length a → key (get_or a m []) < key (get_or c 0 []) → Table b (a ++ c)
table_append b d [] c t u m e h = absurd (omega arith)
table_append b d (y ∷ []) [] t u m e h = (t.0, t.1, tt)
table_append b d (y ∷ []) (x ∷ xs) t u zero e h = (t.0, t.1, (u.0, h, u.2))
table_append b d (y ∷ []) (x ∷ xs) t u (suc m) e h = absurd (omega arith)
table_append b d (y ∷ z ∷ zs) c t u zero e h = absurd (omega arith)
table_append b d (y ∷ z ∷ zs) c t u (suc m) e h = (t.0, t.1, table_append (suc (key y)) d (z ∷ zs) c t.2 u m (omega arith) h)

-- ---- a row put in

-- a row over another with its key
insert_over : (r x : Row) (rows : List Row) → key x ≡ key r → insert r (insert x rows) ≡ insert r rows
unfolding insert
insert_over r x [] e = insert_eq r x [] e
insert_over r x (y ∷ ys) e = go (order₃ (key y) (key x)) (insert_over r x ys e)
  where
    go : (key y < key x) ⊎ ((key y ≡ key x) ⊎ (key x < key y)) → insert r (insert x ys) ≡ insert r ys → insert r (insert x (y ∷ ys)) ≡ insert r (y ∷ ys)
    go (inl q) ih = rw (insert_lt x y ys q, insert_lt r y (insert x ys) (omega arith), insert_lt r y ys (omega arith)) (ap (λ (l : List Row). y ∷ l) ih)
    go (inr (inl q)) ih = rw (insert_eq x y ys q, insert_eq r x ys e, insert_eq r y ys (q ∙ e)) refl
    go (inr (inr q)) ih = rw (insert_gt x y ys q, insert_eq r x (y ∷ ys) e, insert_gt r y ys (omega arith)) refl

-- after them all is among them, also in the place of one of them
pub insert_late : (b : ℕ) (rows more : List Row) (r : Row) → Table b more → insert r (insert_all more rows) ≡ insert_all (insert r more) rows
unfolding insert_all insert
insert_late b rows [] r t = refl
insert_late b rows (x ∷ xs) r t = go (order₃ (key x) (key r)) (insert_late (suc (key x)) (insert x rows) xs r t.2)
  where
    go : (key x < key r) ⊎ ((key x ≡ key r) ⊎ (key r < key x)) → insert r (insert_all xs (insert x rows)) ≡ insert_all (insert r xs) (insert x rows)
        → insert r (insert_all (x ∷ xs) rows) ≡ insert_all (insert r (x ∷ xs)) rows
    go (inl q) ih = rw (insert_lt r x xs q) ih
    go (inr (inl q)) ih =
        rw (insert_eq r x xs q) (insert_first (insert x rows) xs r (find_above (key r) xs t.2 (omega arith)) ∙ ap (insert_all xs) (insert_over r x rows q))
    go (inr (inr q)) ih = rw (insert_gt r x xs q) (insert_first rows (x ∷ xs) r (find_below b (key r) (x ∷ xs) t q))

-- into the other, where none of these has its key
pub apart_other : (rows more : List Row) (r : Row) → find (key r) more ≡ none → Apart more rows → Apart more (insert r rows)
unfolding Apart
apart_other rows [] r f a = tt
apart_other rows (x ∷ xs) r f a = (
  find_insert_other (key x) r rows (λ (e : key r ≡ key x). none_head (key r) x xs f (sym e)) ∙ a.0,
  apart_other rows xs r (none_tail (key r) x xs f) a.1,
)

-- a row's place is that of its key
pub rank_at : (b : ℕ) (rows : List Row) → Table b rows → (i k : ℕ) → i < length rows → key (get_or rows i []) ≡ k → rank k rows ≡ i
rank_at b [] t i k h e = absurd (not-suc-le-zero h)
rank_at b (r ∷ rs) t zero k h e = rank_ge k r rs (omega arith)
rank_at b (r ∷ rs) t (suc i) k h e =
    let above : suc (key r) ≤ key (get_or rs i []) = table_above rs t.2 i (le_of_suc-le-suc h) in
    rank_lt k r rs (omega arith) ∙ ap (λ (n : ℕ). suc n) (rank_at (suc (key r)) rs t.2 i k (le_of_suc-le-suc h) e)

-- the row with its key is replaced
pub insert_at : (b : ℕ) (rows : List Row) (r : Row) → Table b rows → (i : ℕ) → i < length rows → key (get_or rows i []) ≡ key r
    → insert r rows ≡ take i rows ++ (r ∷ drop (suc i) rows)
insert_at b rows r t i h e =
    let p : rank (key r) rows ≡ i = rank_at b rows t i (key r) h e in
    insert_old r rows (omega arith) (ap (λ (n : ℕ). key (get_or rows n [])) p ∙ e) ∙ ap (λ (n : ℕ). take n rows ++ (r ∷ drop (suc n) rows)) p

-- and there are as many rows as before
pub insert_at_length : (b : ℕ) (rows : List Row) (r : Row) → Table b rows → (i : ℕ) → i < length rows → key (get_or rows i []) ≡ key r → length (insert r rows) ≡ length rows
insert_at_length b rows r t i h e =
    ap length (insert_at b rows r t i h e) ∙ length-append (take i rows) (r ∷ drop (suc i) rows)
    ∙ omega (arith, length-take-le i rows (omega arith), length-drop (suc i) rows)

-- a row of a table is what its key finds
pub find_at : (b k : ℕ) (rows : List Row) → Table b rows → (i : ℕ) → i < length rows → key (get_or rows i []) ≡ k → find k rows ≡ some (get_or rows i [])
find_at b k rows t i h e =
    let p : rank k rows ≡ i = rank_at b rows t i k h e in
    find_hit k rows (omega arith) (ap (λ (n : ℕ). key (get_or rows n [])) p ∙ e) ∙ ap (λ (n : ℕ). some (get_or rows n [])) p

-- at most one more
pub insert_most : (r : Row) (rows : List Row) → length (insert r rows) ≤ length rows + 1
unfolding insert
insert_most r [] = omega arith
insert_most r (x ∷ xs) = go (insert_most r xs) (order₃ (key x) (key r))
  where
    go : length (insert r xs) ≤ length xs + 1 → (key x < key r) ⊎ ((key x ≡ key r) ⊎ (key r < key x)) → length (insert r (x ∷ xs)) ≤ suc (length xs) + 1
    go ih (inl q) = rw (insert_lt r x xs q) (omega arith)
    go ih (inr (inl q)) = rw (insert_eq r x xs q) (omega arith)
    go ih (inr (inr q)) = rw (insert_gt r x xs q) (omega arith)

-- ---- rows taken out

-- there are none between
pub remove_none : (b lo hi : ℕ) (rows : List Row) → Table b rows → lo ≤ hi → rank hi rows ≤ rank lo rows → remove lo hi rows ≡ rows
remove_none b lo hi rows t h k =
    let e : rank hi rows ≡ rank lo rows = omega (arith, rank_mono lo hi rows h) in
    remove_splice b lo hi rows t h ∙ ap (λ (n : ℕ). take (rank lo rows) rows ++ drop n rows) e ∙ take-append-drop (rank lo rows) rows

-- ---- rows taken out of both

-- a row out of reach stays
remove_out : (lo hi : ℕ) (x : Row) (xs : List Row) → lo ≤ hi → (key x < lo) ⊎ (hi ≤ key x) → remove lo hi (x ∷ xs) ≡ x ∷ remove lo hi xs
remove_out lo hi x xs h (inl q) = remove_low lo hi x xs q
remove_out lo hi x xs h (inr q) = remove_high lo hi x xs h q

-- within reach, or out of it
reach : (lo hi k : ℕ) → ((lo ≤ k) × (k < hi)) ⊎ ((k < lo) ⊎ (hi ≤ k))
reach lo hi k = go (zone lo hi k)
  where
    go : (k < lo) ⊎ (((lo ≤ k) × (k < hi)) ⊎ (hi ≤ k)) → ((lo ≤ k) × (k < hi)) ⊎ ((k < lo) ⊎ (hi ≤ k))
    go (inl q) = inr (inl q)
    go (inr (inl q)) = inl q
    go (inr (inr q)) = inr (inr q)

remove_head : (lo hi : ℕ) (x : Row) (xs ys : List Row) → lo ≤ hi → remove lo hi xs ≡ remove lo hi ys → remove lo hi (x ∷ xs) ≡ remove lo hi (x ∷ ys)
remove_head lo hi x xs ys h e = go (reach lo hi (key x))
  where
    go : ((lo ≤ key x) × (key x < hi)) ⊎ ((key x < lo) ⊎ (hi ≤ key x)) → remove lo hi (x ∷ xs) ≡ remove lo hi (x ∷ ys)
    go (inl q) = remove_in lo hi x xs q.0 q.1 ∙ e ∙ sym (remove_in lo hi x ys q.0 q.1)
    go (inr q) = remove_out lo hi x xs h q ∙ ap (λ (l : List Row). x ∷ l) e ∙ sym (remove_out lo hi x ys h q)

-- a row that goes in and is taken out
remove_insert_in : (lo hi : ℕ) (x : Row) (rows : List Row) → lo ≤ hi → lo ≤ key x → key x < hi → remove lo hi (insert x rows) ≡ remove lo hi rows
unfolding insert
remove_insert_in lo hi x [] h p q = remove_in lo hi x [] p q
remove_insert_in lo hi x (y ∷ ys) h p q = go (order₃ (key y) (key x)) (remove_insert_in lo hi x ys h p q)
  where
    go : (key y < key x) ⊎ ((key y ≡ key x) ⊎ (key x < key y)) → remove lo hi (insert x ys) ≡ remove lo hi ys → remove lo hi (insert x (y ∷ ys)) ≡ remove lo hi (y ∷ ys)
    go (inl a) ih = ap (remove lo hi) (insert_lt x y ys a) ∙ remove_head lo hi y (insert x ys) ys h ih
    go (inr (inl a)) ih = ap (remove lo hi) (insert_eq x y ys a) ∙ remove_in lo hi x ys p q ∙ sym (remove_in lo hi y ys (omega arith) (omega arith))
    go (inr (inr a)) ih = ap (remove lo hi) (insert_gt x y ys a) ∙ remove_in lo hi x (y ∷ ys) p q

-- and one that stays
pub remove_insert_out : (b lo hi : ℕ) (x : Row) (rows : List Row) → lo ≤ hi → Table b rows → (key x < lo) ⊎ (hi ≤ key x) → remove lo hi (insert x rows) ≡ insert x (remove lo hi rows)
unfolding insert remove
remove_insert_out b lo hi x [] h t o = remove_out lo hi x [] h o
remove_insert_out b lo hi x (y ∷ ys) h t o = go (order₃ (key y) (key x)) (reach lo hi (key y)) (remove_insert_out (suc (key y)) lo hi x ys h t.2 o)
  where
    go : (key y < key x) ⊎ ((key y ≡ key x) ⊎ (key x < key y)) → ((lo ≤ key y) × (key y < hi)) ⊎ ((key y < lo) ⊎ (hi ≤ key y)) → remove lo hi (insert x ys) ≡ insert x (remove lo hi ys)
        → remove lo hi (insert x (y ∷ ys)) ≡ insert x (remove lo hi (y ∷ ys))
    go (inl a) (inl q) ih =
        ap (remove lo hi) (insert_lt x y ys a) ∙ remove_in lo hi y (insert x ys) q.0 q.1 ∙ ih ∙ ap (insert x) (sym (remove_in lo hi y ys q.0 q.1))
    go (inl a) (inr q) ih =
        ap (remove lo hi) (insert_lt x y ys a) ∙ remove_out lo hi y (insert x ys) h q ∙ ap (λ (l : List Row). y ∷ l) ih
        ∙ sym (insert_lt x y (remove lo hi ys) a) ∙ ap (insert x) (sym (remove_out lo hi y ys h q))
    go (inr (inl a)) (inl q) ih = absurd (clash o)
      where
        clash : (key x < lo) ⊎ (hi ≤ key x) → ⊥
        clash (inl z) = omega (arith, q.0)
        clash (inr z) = omega (arith, q.1)
    go (inr (inl a)) (inr q) ih =
        ap (remove lo hi) (insert_eq x y ys a) ∙ remove_out lo hi x ys h o
        ∙ sym (insert_eq x y (remove lo hi ys) a) ∙ ap (insert x) (sym (remove_out lo hi y ys h q))
    go (inr (inr a)) q ih =
        let low : Table (suc (key x)) (y ∷ ys) = (t.0, a, t.2) in
        ap (remove lo hi) (insert_gt x y ys a) ∙ remove_out lo hi x (y ∷ ys) h o ∙ sym (insert_front x [] (remove lo hi (y ∷ ys)) (remove_table (suc (key x)) lo hi (y ∷ ys) h low))

-- what is taken out of both is taken out of each
pub remove_both : (b lo hi : ℕ) (rows more : List Row) → lo ≤ hi → Table b more → Table 0 rows → remove lo hi (insert_all more rows) ≡ insert_all (remove lo hi more) (remove lo hi rows)
unfolding insert_all remove
remove_both b lo hi rows [] h t u = refl
remove_both b lo hi rows (x ∷ xs) h t u = go (reach lo hi (key x)) (remove_both (suc (key x)) lo hi (insert x rows) xs h t.2 (insert_table 0 x rows u t.0 zero-le))
  where
    go : ((lo ≤ key x) × (key x < hi)) ⊎ ((key x < lo) ⊎ (hi ≤ key x)) → remove lo hi (insert_all xs (insert x rows)) ≡ insert_all (remove lo hi xs) (remove lo hi (insert x rows))
        → remove lo hi (insert_all (x ∷ xs) rows) ≡ insert_all (remove lo hi (x ∷ xs)) (remove lo hi rows)
    go (inl q) ih =
        ih ∙ ap (insert_all (remove lo hi xs)) (remove_insert_in lo hi x rows h q.0 q.1) ∙ ap (λ (l : List Row). insert_all l (remove lo hi rows)) (sym (remove_in lo hi x xs q.0 q.1))
    go (inr q) ih =
        ih ∙ ap (insert_all (remove lo hi xs)) (remove_insert_out 0 lo hi x rows h u q) ∙ ap (λ (l : List Row). insert_all l (remove lo hi rows)) (sym (remove_out lo hi x xs h q))

-- rows that share no key with others share none when some of them are taken out
pub apart_remove : (lo hi : ℕ) (rows more : List Row) → lo ≤ hi → Apart more rows → Apart (remove lo hi more) rows
unfolding Apart remove
apart_remove lo hi rows [] h a = tt
apart_remove lo hi rows (x ∷ xs) h a = go (reach lo hi (key x)) (apart_remove lo hi rows xs h a.1)
  where
    go : ((lo ≤ key x) × (key x < hi)) ⊎ ((key x < lo) ⊎ (hi ≤ key x)) → Apart (remove lo hi xs) rows → Apart (remove lo hi (x ∷ xs)) rows
    go (inl q) ih = rw (remove_in lo hi x xs q.0 q.1) ih
    go (inr q) ih = rw (remove_out lo hi x xs h q) (a.0, ih)
