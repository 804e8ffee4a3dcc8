-- Laws of a table as a list of rows: the place of a key, finding, inserting, taking out. By induction on the rows. Assumes nothing.
use Rattle.std.specs.Prelude.{◌≡◌, refl, Bool, true, false, ◌⊎◌, List, [], ◌∷◌, ◌++◌, ℕ, zero, suc, ◌≤◌, ◌<◌, leb, ltb, eqb, length, take, drop, get_or}
use Rattle.std.proofs.Common.{sym, ap, ◌∙◌, subst, inl, inr, zero-le, arith, le_of_suc-le-suc, not-suc-le-zero, le_trans, lt-ltb, le-ltb, le-leb, eq-eqb, ne_eqb, ltb-true, ltb-false, eqb-true}
use Rattle.std.proofs.Math.Option.{none, some}
use Rattle.std.proofs.lemmas.Bool.{lt-leb, eqb-false}
use Rattle.base_words.specs.Word.{pick}
use Rattle.rows_table.specs.Rows.{width, Row, key_of, key, Table, rank, find, insert, insert_all, remove}

-- ---- tests

-- a test that holds picks the first
pub pick_true : {A : Type 0} {t : Bool} (a b : A) → t ≡ true → pick t a b ≡ a
pick_true a b e = ap (λ (t : Bool). pick t a b) e

-- one that fails picks the second
pub pick_false : {A : Type 0} {t : Bool} (a b : A) → t ≡ false → pick t a b ≡ b
pick_false a b e = ap (λ (t : Bool). pick t a b) e

-- which of two numbers is less
pub order : (a b : ℕ) → (a < b) ⊎ (b ≤ a)
order a b = go (ltb a b) refl
  where
    go : (t : Bool) → ltb a b ≡ t → (a < b) ⊎ (b ≤ a)
    go true e = inl (ltb-true a b e)
    go false e = inr (ltb-false a b e)

-- less, equal or more
pub order₃ : (a b : ℕ) → (a < b) ⊎ ((a ≡ b) ⊎ (b < a))
order₃ a b = go (order a b) (order b a)
  where
    go : (a < b) ⊎ (b ≤ a) → (b < a) ⊎ (a ≤ b) → (a < b) ⊎ ((a ≡ b) ⊎ (b < a))
    go (inl h) k = inl h
    go (inr h) (inl k) = inr (inr k)
    go (inr h) (inr k) = inr (inl (omega arith))

-- of two numbers that differ, the one that isn't more is less
pub ne_lt : (a b : ℕ) → a ≤ b → (b ≡ a → ⊥) → a < b
ne_lt a b h n = go (order a b)
  where
    go : (a < b) ⊎ (b ≤ a) → a < b
    go (inl k) = k
    go (inr k) = absurd (n (omega arith))

-- ---- the place of a key

-- a first row below k counts among those before it
pub rank_lt : (k : ℕ) (r : Row) (rs : List Row) → key r < k → rank k (r ∷ rs) ≡ suc (rank k rs)
unfolding rank
rank_lt k r rs h = pick_true (suc (rank k rs)) zero (lt-ltb (key r) k h)

-- a first row not below k ends the count
pub rank_ge : (k : ℕ) (r : Row) (rs : List Row) → k ≤ key r → rank k (r ∷ rs) ≡ zero
unfolding rank
rank_ge k r rs h = pick_false (suc (rank k rs)) zero (le-ltb (key r) k h)

-- a key's place is within the rows or right after the last
pub rank_le : (k : ℕ) (rows : List Row) → rank k rows ≤ length rows
unfolding rank
rank_le k [] = zero-le
rank_le k (r ∷ rs) = go (rank_le k rs) (order (key r) k)
  where
    go : rank k rs ≤ length rs → (key r < k) ⊎ (k ≤ key r) → rank k (r ∷ rs) ≤ suc (length rs)
    go ih (inl h) = rw (rank_lt k r rs h) (omega arith)
    go ih (inr h) = rw (rank_ge k r rs h) (omega arith)

-- every key of a table is at least its bound
pub table_above : {b : ℕ} (rows : List Row) → Table b rows → (m : ℕ) → m < length rows → b ≤ key (get_or rows m [])
table_above [] t m h = absurd (not-suc-le-zero h)
table_above (r ∷ rs) t zero h = t.1
table_above {b = b} (r ∷ rs) t (suc m) h = omega (arith, table_above {b = suc (key r)} rs t.2 m (le_of_suc-le-suc h), t.1)

-- a table with its bound lowered
pub table_down : (a b : ℕ) (rows : List Row) → a ≤ b → Table b rows → Table a rows
table_down a b [] h t = tt
table_down a b (r ∷ rs) h t = (t.0, omega (arith, t.1), t.2)

-- row m has the key k or a larger one: k's place is not after m
pub rank_low : (k : ℕ) (rows : List Row) (m : ℕ) → m < length rows → k ≤ key (get_or rows m []) → rank k rows ≤ m
rank_low k [] m h q = absurd (not-suc-le-zero h)
rank_low k (r ∷ rs) zero h q = rw (rank_ge k r rs q) (omega arith)
rank_low k (r ∷ rs) (suc m) h q = go (rank_low k rs m (le_of_suc-le-suc h) q) (order (key r) k)
  where
    go : rank k rs ≤ m → (key r < k) ⊎ (k ≤ key r) → rank k (r ∷ rs) ≤ suc m
    go ih (inl h) = rw (rank_lt k r rs h) (omega arith)
    go ih (inr h) = rw (rank_ge k r rs h) (omega arith)

-- a larger key has no earlier place
pub rank_mono : (j k : ℕ) (rows : List Row) → j ≤ k → rank j rows ≤ rank k rows
unfolding rank
rank_mono j k [] h = zero-le
rank_mono j k (r ∷ rs) h = go (rank_mono j k rs h) (order (key r) j)
  where
    go : rank j rs ≤ rank k rs → (key r < j) ⊎ (j ≤ key r) → rank j (r ∷ rs) ≤ rank k (r ∷ rs)
    go ih (inl q) = rw (rank_lt j r rs q, rank_lt k r rs (omega arith)) (omega arith)
    go ih (inr q) = rw (rank_ge j r rs q) zero-le

-- row m of a table has a smaller key than k: k's place is after m
pub rank_high : (b k : ℕ) (rows : List Row) → Table b rows → (m : ℕ) → m < length rows → key (get_or rows m []) < k → m < rank k rows
rank_high b k [] t m h q = absurd (not-suc-le-zero h)
rank_high b k (r ∷ rs) t zero h q = rw (rank_lt k r rs q) (omega arith)
rank_high b k (r ∷ rs) t (suc m) h q =
    let above : suc (key r) ≤ key (get_or rs m []) = table_above rs t.2 m (le_of_suc-le-suc h) in
    let ih : m < rank k rs = rank_high (suc (key r)) k rs t.2 m (le_of_suc-le-suc h) q in
    rw (rank_lt k r rs (omega arith)) (omega arith)

-- ---- finding

-- the first row has the key: it is found
pub find_eq : (k : ℕ) (r : Row) (rs : List Row) → key r ≡ k → find k (r ∷ rs) ≡ some r
unfolding find
find_eq k r rs h = pick_true (some r) (find k rs) (eq-eqb (key r) k h)

-- it has another: the others are searched
pub find_ne : (k : ℕ) (r : Row) (rs : List Row) → (key r ≡ k → ⊥) → find k (r ∷ rs) ≡ find k rs
unfolding find
find_ne k r rs h = pick_false (some r) (find k rs) (ne_eqb (key r) k h)

-- a key below a table's bound finds nothing
pub find_above : {b : ℕ} (k : ℕ) (rows : List Row) → Table b rows → k < b → find k rows ≡ none
unfolding find
find_above k [] t h = refl
find_above {b = b} k (r ∷ rs) t h = find_ne k r rs (λ (e : key r ≡ k). omega (arith, t.1)) ∙ find_above {b = suc (key r)} k rs t.2 (omega (arith, t.1))

-- where the row at the place of k has the key k, it is what is found
pub find_hit : (k : ℕ) (rows : List Row) → rank k rows < length rows → key (get_or rows (rank k rows) []) ≡ k → find k rows ≡ some (get_or rows (rank k rows) [])
find_hit k [] h e = absurd (not-suc-le-zero h)
find_hit k (r ∷ rs) h e = go (find_hit k rs) (order (key r) k) h e
  where
    go : (rank k rs < length rs → key (get_or rs (rank k rs) []) ≡ k → find k rs ≡ some (get_or rs (rank k rs) [])) → (key r < k) ⊎ (k ≤ key r)
        → rank k (r ∷ rs) < suc (length rs) → key (get_or (r ∷ rs) (rank k (r ∷ rs)) []) ≡ k → find k (r ∷ rs) ≡ some (get_or (r ∷ rs) (rank k (r ∷ rs)) [])
    go ih (inl q) h e = rw (rank_lt k r rs q) (find_ne k r rs (λ (z : key r ≡ k). omega arith) ∙ ih (le_of_suc-le-suc (rw (rank_lt k r rs q) at h)) (rw (rank_lt k r rs q) at e))
    go ih (inr q) h e = rw (rank_ge k r rs q) (find_eq k r rs (rw (rank_ge k r rs q) at e))

-- where it has another key, or there is none, nothing is found
pub find_miss : (b k : ℕ) (rows : List Row) → Table b rows → (rank k rows < length rows → key (get_or rows (rank k rows) []) ≡ k → ⊥) → find k rows ≡ none
unfolding find
find_miss b k [] t n = refl
find_miss b k (r ∷ rs) t n = go (find_miss (suc (key r)) k rs t.2) (order (key r) k) n
  where
    go : ((rank k rs < length rs → key (get_or rs (rank k rs) []) ≡ k → ⊥) → find k rs ≡ none) → (key r < k) ⊎ (k ≤ key r)
        → (rank k (r ∷ rs) < suc (length rs) → key (get_or (r ∷ rs) (rank k (r ∷ rs)) []) ≡ k → ⊥) → find k (r ∷ rs) ≡ none
    go ih (inl q) n =
        let n' : suc (rank k rs) < suc (length rs) → key (get_or (r ∷ rs) (suc (rank k rs)) []) ≡ k → ⊥ = rw (rank_lt k r rs q) at n in
        find_ne k r rs (λ (z : key r ≡ k). omega arith) ∙ ih (λ h e. n' (omega arith) e)
    go ih (inr q) n =
        let n' : 0 < suc (length rs) → key (get_or (r ∷ rs) 0 []) ≡ k → ⊥ = rw (rank_ge k r rs q) at n in
        find_ne k r rs (n' (omega arith)) ∙ find_above k rs t.2 (omega arith)

-- ---- inserting

-- past a first row with a smaller key
pub insert_lt : (r x : Row) (xs : List Row) → key x < key r → insert r (x ∷ xs) ≡ x ∷ insert r xs
unfolding insert
insert_lt r x xs h = pick_true (x ∷ insert r xs) (pick (eqb (key x) (key r)) (r ∷ xs) (r ∷ x ∷ xs)) (lt-ltb (key x) (key r) h)

-- in the place of a first row with the same key
pub insert_eq : (r x : Row) (xs : List Row) → key x ≡ key r → insert r (x ∷ xs) ≡ r ∷ xs
unfolding insert
insert_eq r x xs h =
    pick_false (x ∷ insert r xs) (pick (eqb (key x) (key r)) (r ∷ xs) (r ∷ x ∷ xs)) (le-ltb (key x) (key r) (omega arith))
    ∙ pick_true (r ∷ xs) (r ∷ x ∷ xs) (eq-eqb (key x) (key r) h)

-- before a first row with a larger key
pub insert_gt : (r x : Row) (xs : List Row) → key r < key x → insert r (x ∷ xs) ≡ r ∷ x ∷ xs
unfolding insert
insert_gt r x xs h =
    pick_false (x ∷ insert r xs) (pick (eqb (key x) (key r)) (r ∷ xs) (r ∷ x ∷ xs)) (le-ltb (key x) (key r) (omega arith))
    ∙ pick_false (r ∷ xs) (r ∷ x ∷ xs) (ne_eqb (key x) (key r) (λ (e : key x ≡ key r). omega arith))

-- it stays a table
pub insert_table : (b : ℕ) (r : Row) (rows : List Row) → Table b rows → length r ≡ width → b ≤ key r → Table b (insert r rows)
unfolding insert
insert_table b r [] t w h = (w, h, tt)
insert_table b r (x ∷ xs) t w h = go (order₃ (key x) (key r)) (insert_table (suc (key x)) r xs t.2 w)
  where
    go : (key x < key r) ⊎ ((key x ≡ key r) ⊎ (key r < key x)) → (suc (key x) ≤ key r → Table (suc (key x)) (insert r xs)) → Table b (insert r (x ∷ xs))
    go (inl q) ih = rw (insert_lt r x xs q) (t.0, t.1, ih q)
    go (inr (inl q)) ih = rw (insert_eq r x xs q) (w, h, subst (λ (n : ℕ). Table (suc n) xs) q t.2)
    go (inr (inr q)) ih = rw (insert_gt r x xs q) (w, h, (t.0, q, t.2))

-- the row is found under its key
pub find_insert_same : (r : Row) (rows : List Row) → find (key r) (insert r rows) ≡ some r
unfolding insert
find_insert_same r [] = find_eq (key r) r [] refl
find_insert_same r (x ∷ xs) = go (order₃ (key x) (key r)) (find_insert_same r xs)
  where
    go : (key x < key r) ⊎ ((key x ≡ key r) ⊎ (key r < key x)) → find (key r) (insert r xs) ≡ some r → find (key r) (insert r (x ∷ xs)) ≡ some r
    go (inl q) ih = rw (insert_lt r x xs q) (find_ne (key r) x (insert r xs) (λ (e : key x ≡ key r). omega arith) ∙ ih)
    go (inr (inl q)) ih = rw (insert_eq r x xs q) (find_eq (key r) r xs refl)
    go (inr (inr q)) ih = rw (insert_gt r x xs q) (find_eq (key r) r (x ∷ xs) refl)

-- and another key finds what it found
pub find_insert_other : (k : ℕ) (r : Row) (rows : List Row) → (key r ≡ k → ⊥) → find k (insert r rows) ≡ find k rows
unfolding insert
find_insert_other k r [] n = find_ne k r [] n
find_insert_other k r (x ∷ xs) n = go (order₃ (key x) (key r)) (find_insert_other k r xs n)
  where
    go₁ : find k (insert r xs) ≡ find k xs → (t : Bool) → eqb (key x) k ≡ t → find k (x ∷ insert r xs) ≡ find k (x ∷ xs)
    go₁ ih true e = find_eq k x (insert r xs) (eqb-true (key x) k e) ∙ sym (find_eq k x xs (eqb-true (key x) k e))
    go₁ ih false e = find_ne k x (insert r xs) (eqb-false (key x) k e) ∙ ih ∙ sym (find_ne k x xs (eqb-false (key x) k e))

    go : (key x < key r) ⊎ ((key x ≡ key r) ⊎ (key r < key x)) → find k (insert r xs) ≡ find k xs → find k (insert r (x ∷ xs)) ≡ find k (x ∷ xs)
    go (inl q) ih = rw (insert_lt r x xs q) (go₁ ih (eqb (key x) k) refl)
    go (inr (inl q)) ih = rw (insert_eq r x xs q) (find_ne k r xs n ∙ sym (find_ne k x xs (λ (e : key x ≡ k). n (sym q ∙ e))))
    go (inr (inr q)) ih = rw (insert_gt r x xs q) (find_ne k r (x ∷ xs) n)

-- where the row at the place has the row's key, it is replaced
pub insert_old : (r : Row) (rows : List Row) → rank (key r) rows < length rows → key (get_or rows (rank (key r) rows) []) ≡ key r
    → insert r rows ≡ take (rank (key r) rows) rows ++ (r ∷ drop (suc (rank (key r) rows)) rows)
insert_old r [] h e = absurd (not-suc-le-zero h)
insert_old r (x ∷ xs) h e = go (insert_old r xs) (order (key x) (key r)) h e
  where
    go : (rank (key r) xs < length xs → key (get_or xs (rank (key r) xs) []) ≡ key r → insert r xs ≡ take (rank (key r) xs) xs ++ (r ∷ drop (suc (rank (key r) xs)) xs))
        → (key x < key r) ⊎ (key r ≤ key x) → rank (key r) (x ∷ xs) < suc (length xs) → key (get_or (x ∷ xs) (rank (key r) (x ∷ xs)) []) ≡ key r
        → insert r (x ∷ xs) ≡ take (rank (key r) (x ∷ xs)) (x ∷ xs) ++ (r ∷ drop (suc (rank (key r) (x ∷ xs))) (x ∷ xs))
    go ih (inl q) h e = rw (insert_lt r x xs q, rank_lt (key r) x xs q) (ap (λ (l : List Row). x ∷ l) (ih (le_of_suc-le-suc (rw (rank_lt (key r) x xs q) at h)) (rw (rank_lt (key r) x xs q) at e)))
    go ih (inr q) h e = rw (rank_ge (key r) x xs q) (insert_eq r x xs (rw (rank_ge (key r) x xs q) at e))

-- else it goes in there
pub insert_new : (r : Row) (rows : List Row) → (rank (key r) rows < length rows → key (get_or rows (rank (key r) rows) []) ≡ key r → ⊥)
    → insert r rows ≡ take (rank (key r) rows) rows ++ (r ∷ drop (rank (key r) rows) rows)
unfolding insert rank
insert_new r [] n = refl
insert_new r (x ∷ xs) n = go (insert_new r xs) (order (key x) (key r)) n
  where
    go : ((rank (key r) xs < length xs → key (get_or xs (rank (key r) xs) []) ≡ key r → ⊥) → insert r xs ≡ take (rank (key r) xs) xs ++ (r ∷ drop (rank (key r) xs) xs))
        → (key x < key r) ⊎ (key r ≤ key x) → (rank (key r) (x ∷ xs) < suc (length xs) → key (get_or (x ∷ xs) (rank (key r) (x ∷ xs)) []) ≡ key r → ⊥)
        → insert r (x ∷ xs) ≡ take (rank (key r) (x ∷ xs)) (x ∷ xs) ++ (r ∷ drop (rank (key r) (x ∷ xs)) (x ∷ xs))
    go ih (inl q) n =
        let n' : suc (rank (key r) xs) < suc (length xs) → key (get_or (x ∷ xs) (suc (rank (key r) xs)) []) ≡ key r → ⊥ = rw (rank_lt (key r) x xs q) at n in
        rw (insert_lt r x xs q, rank_lt (key r) x xs q) (ap (λ (l : List Row). x ∷ l) (ih (λ h e. n' (omega arith) e)))
    go ih (inr q) n =
        let n' : 0 < suc (length xs) → key (get_or (x ∷ xs) 0 []) ≡ key r → ⊥ = rw (rank_ge (key r) x xs q) at n in
        rw (rank_ge (key r) x xs q) (insert_gt r x xs (ne_lt (key r) (key x) q (n' (omega arith))))

-- ---- taking out

-- no key is below the bound
pub rank_above : (b k : ℕ) (rows : List Row) → Table b rows → k ≤ b → rank k rows ≡ 0
unfolding rank
rank_above b k [] t h = refl
rank_above b k (r ∷ rs) t h = rank_ge k r rs (omega (arith, t.1))

-- a first row below lo stays
pub remove_low : (lo hi : ℕ) (x : Row) (xs : List Row) → key x < lo → remove lo hi (x ∷ xs) ≡ x ∷ remove lo hi xs
unfolding remove
remove_low lo hi x xs h = pick_false (pick (ltb (key x) hi) (remove lo hi xs) (x ∷ remove lo hi xs)) (x ∷ remove lo hi xs) (lt-leb lo (key x) h)

-- a first row from lo to below hi goes
pub remove_in : (lo hi : ℕ) (x : Row) (xs : List Row) → lo ≤ key x → key x < hi → remove lo hi (x ∷ xs) ≡ remove lo hi xs
unfolding remove
remove_in lo hi x xs h k =
    pick_true (pick (ltb (key x) hi) (remove lo hi xs) (x ∷ remove lo hi xs)) (x ∷ remove lo hi xs) (le-leb lo (key x) h)
    ∙ pick_true (remove lo hi xs) (x ∷ remove lo hi xs) (lt-ltb (key x) hi k)

-- a first row from hi on stays
pub remove_high : (lo hi : ℕ) (x : Row) (xs : List Row) → lo ≤ hi → hi ≤ key x → remove lo hi (x ∷ xs) ≡ x ∷ remove lo hi xs
unfolding remove
remove_high lo hi x xs h k =
    pick_true (pick (ltb (key x) hi) (remove lo hi xs) (x ∷ remove lo hi xs)) (x ∷ remove lo hi xs) (le-leb lo (key x) (omega arith))
    ∙ pick_false (remove lo hi xs) (x ∷ remove lo hi xs) (le-ltb (key x) hi k)

-- where all keys are from hi on, nothing goes
pub remove_above : (b lo hi : ℕ) (rows : List Row) → Table b rows → lo ≤ hi → hi ≤ b → remove lo hi rows ≡ rows
unfolding remove
remove_above b lo hi [] t h k = refl
remove_above b lo hi (x ∷ xs) t h k =
    remove_high lo hi x xs h (omega (arith, t.1)) ∙ ap (λ (l : List Row). x ∷ l) (remove_above (suc (key x)) lo hi xs t.2 h (omega (arith, t.1)))

-- below lo, between, or from hi on
pub zone : (lo hi k : ℕ) → (k < lo) ⊎ (((lo ≤ k) × (k < hi)) ⊎ (hi ≤ k))
zone lo hi k = go (order k lo) (order k hi)
  where
    go : (k < lo) ⊎ (lo ≤ k) → (k < hi) ⊎ (hi ≤ k) → (k < lo) ⊎ (((lo ≤ k) × (k < hi)) ⊎ (hi ≤ k))
    go (inl a) b = inl a
    go (inr a) (inl b) = inr (inl (a, b))
    go (inr a) (inr b) = inr (inr b)

-- what is left: the rows before lo's place, and those from hi's on
pub remove_splice : (b lo hi : ℕ) (rows : List Row) → Table b rows → lo ≤ hi → remove lo hi rows ≡ take (rank lo rows) rows ++ drop (rank hi rows) rows
unfolding remove rank
remove_splice b lo hi [] t h = refl
remove_splice b lo hi (x ∷ xs) t h = go (remove_splice (suc (key x)) lo hi xs t.2 h) (zone lo hi (key x))
  where
    go : remove lo hi xs ≡ take (rank lo xs) xs ++ drop (rank hi xs) xs → (key x < lo) ⊎ (((lo ≤ key x) × (key x < hi)) ⊎ (hi ≤ key x))
        → remove lo hi (x ∷ xs) ≡ take (rank lo (x ∷ xs)) (x ∷ xs) ++ drop (rank hi (x ∷ xs)) (x ∷ xs)
    go ih (inl q) = rw (remove_low lo hi x xs q, rank_lt lo x xs q, rank_lt hi x xs (omega arith)) (ap (λ (l : List Row). x ∷ l) ih)
    go ih (inr (inl q)) =
        rw (remove_in lo hi x xs q.0 q.1, rank_ge lo x xs q.0, rank_lt hi x xs q.1) (rw (rank_above (suc (key x)) lo xs t.2 (omega arith)) at ih)
    go ih (inr (inr q)) =
        rw (remove_high lo hi x xs h q, rank_ge lo x xs (omega arith), rank_ge hi x xs q) (ap (λ (l : List Row). x ∷ l) (remove_above (suc (key x)) lo hi xs t.2 h (omega arith)))

-- taking out makes no table longer
pub remove_len : (lo hi : ℕ) (rows : List Row) → length (remove lo hi rows) ≤ length rows
unfolding remove
remove_len lo hi [] = zero-le
remove_len lo hi (x ∷ xs) = go (remove_len lo hi xs) (leb lo (key x)) (ltb (key x) hi)
  where
    go : length (remove lo hi xs) ≤ length xs → (s t : Bool) → length (pick s (pick t (remove lo hi xs) (x ∷ remove lo hi xs)) (x ∷ remove lo hi xs)) ≤ suc (length xs)
    go ih true true = omega arith
    go ih true false = omega arith
    go ih false t = omega arith

-- it stays a table, with the same bound
pub remove_table : (b lo hi : ℕ) (rows : List Row) → lo ≤ hi → Table b rows → Table b (remove lo hi rows)
unfolding remove
remove_table b lo hi [] h t = tt
remove_table b lo hi (x ∷ xs) h t = go (remove_table (suc (key x)) lo hi xs h t.2) (zone lo hi (key x))
  where
    go : Table (suc (key x)) (remove lo hi xs) → (key x < lo) ⊎ (((lo ≤ key x) × (key x < hi)) ⊎ (hi ≤ key x)) → Table b (remove lo hi (x ∷ xs))
    go ih (inl q) = rw (remove_low lo hi x xs q) (t.0, t.1, ih)
    go ih (inr (inl q)) = rw (remove_in lo hi x xs q.0 q.1) (table_down b (suc (key x)) (remove lo hi xs) (omega (arith, t.1)) ih)
    go ih (inr (inr q)) = rw (remove_high lo hi x xs h q) (t.0, t.1, ih)

-- a key that was taken out is not found
pub find_remove_in : (k lo hi : ℕ) (rows : List Row) → lo ≤ k → k < hi → lo ≤ hi → find k (remove lo hi rows) ≡ none
unfolding remove find
find_remove_in k lo hi [] a b h = refl
find_remove_in k lo hi (x ∷ xs) a b h = go (find_remove_in k lo hi xs a b h) (zone lo hi (key x))
  where
    go : find k (remove lo hi xs) ≡ none → (key x < lo) ⊎ (((lo ≤ key x) × (key x < hi)) ⊎ (hi ≤ key x)) → find k (remove lo hi (x ∷ xs)) ≡ none
    go ih (inl q) = rw (remove_low lo hi x xs q) (find_ne k x (remove lo hi xs) (λ (e : key x ≡ k). omega arith) ∙ ih)
    go ih (inr (inl q)) = rw (remove_in lo hi x xs q.0 q.1) ih
    go ih (inr (inr q)) = rw (remove_high lo hi x xs h q) (find_ne k x (remove lo hi xs) (λ (e : key x ≡ k). omega arith) ∙ ih)

-- and any other finds what it found
pub find_remove_out : (k lo hi : ℕ) (rows : List Row) → (k < lo) ⊎ (hi ≤ k) → lo ≤ hi → find k (remove lo hi rows) ≡ find k rows
unfolding remove
find_remove_out k lo hi [] o h = refl
find_remove_out k lo hi (x ∷ xs) o h = go (find_remove_out k lo hi xs o h) (zone lo hi (key x)) o
  where
    keep : find k (remove lo hi xs) ≡ find k xs → (t : Bool) → eqb (key x) k ≡ t → find k (x ∷ remove lo hi xs) ≡ find k (x ∷ xs)
    keep ih true e = find_eq k x (remove lo hi xs) (eqb-true (key x) k e) ∙ sym (find_eq k x xs (eqb-true (key x) k e))
    keep ih false e = find_ne k x (remove lo hi xs) (eqb-false (key x) k e) ∙ ih ∙ sym (find_ne k x xs (eqb-false (key x) k e))

    go : find k (remove lo hi xs) ≡ find k xs → (key x < lo) ⊎ (((lo ≤ key x) × (key x < hi)) ⊎ (hi ≤ key x)) → (k < lo) ⊎ (hi ≤ k) → find k (remove lo hi (x ∷ xs)) ≡ find k (x ∷ xs)
    go ih (inl q) o = rw (remove_low lo hi x xs q) (keep ih (eqb (key x) k) refl)
    go ih (inr (inl q)) (inl o) = rw (remove_in lo hi x xs q.0 q.1) (ih ∙ sym (find_ne k x xs (λ (e : key x ≡ k). omega arith)))
    go ih (inr (inl q)) (inr o) = rw (remove_in lo hi x xs q.0 q.1) (ih ∙ sym (find_ne k x xs (λ (e : key x ≡ k). omega arith)))
    go ih (inr (inr q)) o = rw (remove_high lo hi x xs h q) (keep ih (eqb (key x) k) refl)

-- on words of 32 bits the order of the keys is the words' lexicographic order
pub key_lex : (a b c d : ℕ) → b < 4294967296 → d < 4294967296 → key_of a b < key_of c d → (a < c) ⊎ ((a ≡ c) × (b < d))
key_lex a b c d hb hd h = go (order₃ a c)
  where
    go : (a < c) ⊎ ((a ≡ c) ⊎ (c < a)) → (a < c) ⊎ ((a ≡ c) × (b < d))
    go (inl q) = inl q
    go (inr (inl q)) = inr (q, omega arith)
    go (inr (inr q)) = absurd (omega arith)

-- and the other way: words in lexicographic order have their keys in order
pub lex_key : (a b c d : ℕ) → b < 4294967296 → d < 4294967296 → (a < c) ⊎ ((a ≡ c) × (b < d)) → key_of a b < key_of c d
lex_key a b c d hb hd (inl h) = omega arith
lex_key a b c d hb hd (inr h) = omega arith

-- ---- several rows

-- one row makes no table shorter
pub insert_len : (r : Row) (rows : List Row) → length rows ≤ length (insert r rows)
unfolding insert
insert_len r [] = zero-le
insert_len r (x ∷ xs) = go (insert_len r xs) (ltb (key x) (key r)) (eqb (key x) (key r))
  where
    go : length xs ≤ length (insert r xs) → (s t : Bool) → suc (length xs) ≤ length (pick s (x ∷ insert r xs) (pick t (r ∷ xs) (r ∷ x ∷ xs)))
    go ih true t = omega arith
    go ih false true = omega arith
    go ih false false = omega arith

-- nor do several rows
pub insert_all_len : (new rows : List Row) → length rows ≤ length (insert_all new rows)
unfolding insert_all
insert_all_len [] rows = omega arith
insert_all_len (r ∷ rs) rows = le_trans (insert_len r rows) (insert_all_len rs (insert r rows))

-- what is found stands at the key's place
pub find_some : (b k : ℕ) (rows : List Row) → Table b rows → (r : Row) → find k rows ≡ some r → (rank k rows < length rows) × (r ≡ get_or rows (rank k rows) [])
find_some b k rows t r e = go (order (rank k rows) (length rows)) (eqb (key (get_or rows (rank k rows) [])) k) refl
  where
    clash : find k rows ≡ none → (rank k rows < length rows) × (r ≡ get_or rows (rank k rows) [])
    clash f =
        let z : ◌≡◌ {A = ℕ} 0 1 = cc in
        absurd (omega arith)

    go : (rank k rows < length rows) ⊎ (length rows ≤ rank k rows) → (s : Bool) → eqb (key (get_or rows (rank k rows) [])) k ≡ s → (rank k rows < length rows) × (r ≡ get_or rows (rank k rows) [])
    go (inl h) true q =
        let f : find k rows ≡ some (get_or rows (rank k rows) []) = find_hit k rows h (eqb-true (key (get_or rows (rank k rows) [])) k q) in
        (h, cc)
    go (inl h) false q = clash (find_miss b k rows t (λ _. eqb-false (key (get_or rows (rank k rows) [])) k q))
    go (inr h) s q = clash (find_miss b k rows t (λ (l : rank k rows < length rows) _. omega arith))
