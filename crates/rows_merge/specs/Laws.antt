-- Laws of tables that share no key: rows of both go in in any order, and none takes another's place. By induction on the rows. Assumes nothing.
use Rattle.std.specs.Prelude.{◌≡◌, refl, ◌⊎◌, List, [], ◌∷◌, ◌++◌, ℕ, suc, ◌+◌, ◌<◌, length}
use Rattle.std.proofs.Common.{sym, ap, ◌∙◌, inl, inr, zero-le, arith}
use Rattle.std.proofs.Math.Option.{none}
use Rattle.rows_table.specs.Rows.{Row, width, key, Table, Wide, find, insert, insert_all}
use Rattle.rows_table.specs.Laws.{order₃, find_eq, find_ne, insert_lt, insert_eq, insert_gt, insert_table, find_insert_other}
use Rattle.rows_merge.specs.Merge.{Apart}

-- ---- a key that is not found

-- it isn't the first row's
pub none_head : (k : ℕ) (x : Row) (xs : List Row) → find k (x ∷ xs) ≡ none → key x ≡ k → ⊥
none_head k x xs f e =
    let g = find_eq k x xs e in
    let z : ◌≡◌ {A = ℕ} 0 1 = cc in
    omega arith

-- nor that of any after it
pub none_tail : (k : ℕ) (x : Row) (xs : List Row) → find k (x ∷ xs) ≡ none → find k xs ≡ none
none_tail k x xs f = sym (find_ne k x xs (none_head k x xs f)) ∙ f

-- a key that neither these rows nor those have is not found when the ones are put into the others
pub find_more : (k : ℕ) (rows more : List Row) → find k more ≡ none → find k rows ≡ none → find k (insert_all more rows) ≡ none
unfolding insert_all
find_more k rows [] f g = g
find_more k rows (x ∷ xs) f g = find_more k (insert x rows) xs (none_tail k x xs f) (find_insert_other k x rows (none_head k x xs f) ∙ g)

-- ---- a row that comes before the later ones

-- a row below all later ones goes in among the earlier ones
pub insert_front : (r : Row) (a c : List Row) → Table (suc (key r)) c → insert r (a ++ c) ≡ insert r a ++ c
unfolding insert
insert_front r [] [] t = refl
insert_front r [] (x ∷ xs) t = insert_gt r x xs t.1
insert_front r (y ∷ ys) c t = go (order₃ (key y) (key r)) (insert_front r ys c t)
  where
    go : (key y < key r) ⊎ ((key y ≡ key r) ⊎ (key r < key y)) → insert r (ys ++ c) ≡ insert r ys ++ c → insert r (y ∷ (ys ++ c)) ≡ insert r (y ∷ ys) ++ c
    go (inl q) ih = insert_lt r y (ys ++ c) q ∙ ap (λ (l : List Row). y ∷ l) ih ∙ ap (λ (l : List Row). l ++ c) (sym (insert_lt r y ys q))
    go (inr (inl q)) ih = insert_eq r y (ys ++ c) q ∙ ap (λ (l : List Row). l ++ c) (sym (insert_eq r y ys q))
    go (inr (inr q)) ih = insert_gt r y (ys ++ c) q ∙ ap (λ (l : List Row). l ++ c) (sym (insert_gt r y ys q))

-- ---- rows with other keys

-- one of two keys is less
pub less : (r x : Row) → (key x ≡ key r → ⊥) → (key x < key r) ⊎ (key r < key x)
less r x n = go (order₃ (key x) (key r))
  where
    go : (key x < key r) ⊎ ((key x ≡ key r) ⊎ (key r < key x)) → (key x < key r) ⊎ (key r < key x)
    go (inl q) = inl q
    go (inr (inl q)) = absurd (n q)
    go (inr (inr q)) = inr q

insert_none : (r : Row) → insert r [] ≡ r ∷ []
unfolding insert
insert_none r = refl

-- two rows go in in either order
pub insert_swap : (r x : Row) (rows : List Row) → (key x ≡ key r → ⊥) → insert r (insert x rows) ≡ insert x (insert r rows)
insert_swap r x [] n = go (less r x n)
  where
    go : (key x < key r) ⊎ (key r < key x) → insert r (insert x []) ≡ insert x (insert r [])
    go (inl q) = rw (insert_none x, insert_none r, insert_lt r x [] q, insert_none r, insert_gt x r [] q) refl
    go (inr q) = rw (insert_none x, insert_none r, insert_gt r x [] q, insert_lt x r [] q, insert_none x) refl
insert_swap r x (y ∷ ys) n = go (order₃ (key y) (key r)) (order₃ (key y) (key x)) (less r x n) (insert_swap r x ys n)
  where
    go : (key y < key r) ⊎ ((key y ≡ key r) ⊎ (key r < key y)) → (key y < key x) ⊎ ((key y ≡ key x) ⊎ (key x < key y)) → (key x < key r) ⊎ (key r < key x)
        → insert r (insert x ys) ≡ insert x (insert r ys) → insert r (insert x (y ∷ ys)) ≡ insert x (insert r (y ∷ ys))
    go (inl a) (inl b) o ih =
        rw (insert_lt x y ys b, insert_lt r y ys a, insert_lt r y (insert x ys) a, insert_lt x y (insert r ys) b) (ap (λ (l : List Row). y ∷ l) ih)
    go (inl a) (inr (inl b)) o ih = rw (insert_eq x y ys b, insert_lt r y ys a, insert_lt r x ys (omega arith), insert_eq x y (insert r ys) b) refl
    go (inl a) (inr (inr b)) o ih = rw (insert_gt x y ys b, insert_lt r y ys a, insert_lt r x (y ∷ ys) (omega arith), insert_lt r y ys a, insert_gt x y (insert r ys) b) refl
    go (inr (inl a)) (inl b) o ih = rw (insert_lt x y ys b, insert_eq r y ys a, insert_eq r y (insert x ys) a, insert_lt x r ys (omega arith)) refl
    go (inr (inl a)) (inr (inl b)) o ih = absurd (n (sym b ∙ a))
    go (inr (inl a)) (inr (inr b)) o ih = rw (insert_gt x y ys b, insert_eq r y ys a, insert_lt r x (y ∷ ys) (omega arith), insert_eq r y ys a, insert_gt x r ys (omega arith)) refl
    go (inr (inr a)) (inl b) o ih = rw (insert_lt x y ys b, insert_gt r y ys a, insert_gt r y (insert x ys) a, insert_lt x r (y ∷ ys) (omega arith), insert_lt x y ys b) refl
    go (inr (inr a)) (inr (inl b)) o ih = rw (insert_eq x y ys b, insert_gt r y ys a, insert_gt r x ys (omega arith), insert_lt x r (y ∷ ys) (omega arith), insert_eq x y ys b) refl
    go (inr (inr a)) (inr (inr b)) (inl o) ih = rw (insert_gt x y ys b, insert_gt r y ys a, insert_lt r x (y ∷ ys) o, insert_gt r y ys a, insert_gt x r (y ∷ ys) o) refl
    go (inr (inr a)) (inr (inr b)) (inr o) ih = rw (insert_gt x y ys b, insert_gt r y ys a, insert_gt r x (y ∷ ys) o, insert_lt x r (y ∷ ys) o, insert_gt x y ys b) refl

-- after them all is before them all
pub insert_first : (rows more : List Row) (r : Row) → find (key r) more ≡ none → insert r (insert_all more rows) ≡ insert_all more (insert r rows)
unfolding insert_all
insert_first rows [] r f = refl
insert_first rows (x ∷ xs) r f =
    insert_first (insert x rows) xs r (none_tail (key r) x xs f) ∙ ap (insert_all xs) (insert_swap r x rows (none_head (key r) x xs f))

-- ---- tables that share no key

-- one more row whose key the other table has not
pub apart_insert : (rows more : List Row) (r : Row) → find (key r) rows ≡ none → Apart more rows → Apart (insert r more) rows
unfolding Apart insert
apart_insert rows [] r f a = (f, tt)
apart_insert rows (x ∷ xs) r f a = go (order₃ (key x) (key r)) (apart_insert rows xs r f a.1)
  where
    go : (key x < key r) ⊎ ((key x ≡ key r) ⊎ (key r < key x)) → Apart (insert r xs) rows → Apart (insert r (x ∷ xs)) rows
    go (inl q) ih = rw (insert_lt r x xs q) (a.0, ih)
    go (inr (inl q)) ih = rw (insert_eq r x xs q) (f, a.1)
    go (inr (inr q)) ih = rw (insert_gt r x xs q) (f, a)

-- a row into the other table, whose key none of these has
pub insert_apart : (b : ℕ) (rows more : List Row) (r : Row) → Table b more → key r < b → Apart more rows → Apart more (insert r rows)
unfolding Apart
insert_apart b rows [] r t h a = tt
insert_apart b rows (x ∷ xs) r t h a = (
  find_insert_other (key x) r rows (λ (e : key r ≡ key x). omega (arith, t.1)) ∙ a.0,
  insert_apart (suc (key x)) rows xs r t.2 (omega (arith, t.1)) a.1,
)

-- ---- how many

-- a row with a new key makes the rows one more
pub count_insert : (more : List Row) (r : Row) → find (key r) more ≡ none → length (insert r more) ≡ length more + 1
unfolding insert
count_insert [] r f = refl
count_insert (x ∷ xs) r f = go (order₃ (key x) (key r)) (count_insert xs r (none_tail (key r) x xs f))
  where
    go : (key x < key r) ⊎ ((key x ≡ key r) ⊎ (key r < key x)) → length (insert r xs) ≡ length xs + 1 → length (insert r (x ∷ xs)) ≡ suc (length xs) + 1
    go (inl q) ih = rw (insert_lt r x xs q) (omega arith)
    go (inr (inl q)) ih = absurd (none_head (key r) x xs f q)
    go (inr (inr q)) ih = rw (insert_gt r x xs q) (omega arith)

count_from : (b : ℕ) (rows more : List Row) → Table b more → Apart more rows → length (insert_all more rows) ≡ length rows + length more
unfolding insert_all Apart
count_from b rows [] t a = omega arith
count_from b rows (x ∷ xs) t a =
    count_from (suc (key x)) (insert x rows) xs t.2 (insert_apart (suc (key x)) rows xs x t.2 (omega arith) a.1)
    ∙ omega (arith, count_insert rows x a.0)

-- rows that share no key with the others, put into them, add their number
pub count_more : (rows more : List Row) → Table 0 more → Apart more rows → length (insert_all more rows) ≡ length rows + length more
count_more rows more t a = count_from 0 rows more t a

-- ---- they stay in order

-- a table stays one when rows of the right width are put into it
pub all_table : (more rows : List Row) → Wide width more → Table 0 rows → Table 0 (insert_all more rows)
unfolding insert_all
all_table [] rows w t = t
all_table (r ∷ rs) rows w t = all_table rs (insert r rows) w.1 (insert_table 0 r rows t w.0 zero-le)
