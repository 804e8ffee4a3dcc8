-- Where the arrays stand among sorted rows of 32-bit words: between the places of the first keys of kinds 133 and 134. Assumes nothing.
use Rattle.std.specs.Prelude.{ℕ, suc, ◌+◌, ◌*◌, ◌≤◌, ◌<◌, ◌≡◌, refl, false, ◌⊎◌, List, [], ◌∷◌, ltb, length, take, drop, get_or}
use Rattle.std.proofs.Common.{◌∙◌, inl, inr, arith, eq-eqb, ne_eqb, lt-ltb}
use Rattle.std.proofs.Math.Dec.{leb-suc-suc}
use Rattle.base_words.specs.Word.{kind_of}
use Rattle.rows_table.specs.Rows.{Row, width, key, rank, Table}
use Rattle.rows_runs.specs.Runs.{Keeps}
use Rattle.rows_table.specs.Laws.{zone, order, rank_lt, rank_ge, rank_le, rank_low, rank_high}
use Rattle.rows_table.specs.Each.{each_at}
use Rattle.rows_runs.specs.Laws.{keeps_each}
use Rattle.rows_runs.specs.Places.{row_word_lem}
use Rattle.rows_kinds.specs.Kinds.{entry_key}
use Rattle.fold_const_eval.specs.EvalLaws.{Words32}
use Rattle.collect_definition.specs.Collect.{any_array}

-- word 1 of each row has 32 bits
abbrev pub Small : List Row → Type 0
Small rows = (i : ℕ) → i < length rows → get_or (get_or rows i []) 1 0 < 4294967296

-- the rows of a buffer of 32-bit words
pub keeps_small : {rows : List Row} {n : ℕ} {buf : List ℕ} → Words32 buf → Keeps rows n buf → Small rows
keeps_small {rows} {n} {buf} W K i h =
    each_at (λ r. get_or r 1 0 < 4294967296) [] rows (keeps_each K (λ r. get_or r 1 0 < 4294967296) (λ j g. omega (arith, row_word_lem buf j 1 (omega arith), W (j * width + 1)))) i h

-- the rows after the first
pub small_next : (r : Row) (rs : List Row) → Small (r ∷ rs) → Small rs
small_next r rs S i h = S (suc i) (omega arith)

-- a row's kind, by the place of its key among the first keys of the kinds
module _ (r : Row) (k : ℕ) where
  -- a key below the first of kind k: the row's kind is below k
  pub kind_below : key r < entry_key k 0 0 → kind_of (get_or r 0 0) < k
  unfolding key
  kind_below h = omega (arith, h)

  -- a key from there on: its kind is k or above
  pub kind_from : entry_key k 0 0 ≤ key r → get_or r 1 0 < 4294967296 → k ≤ kind_of (get_or r 0 0)
  unfolding key
  kind_from h s = omega (arith, h, s)

-- the first keys of kinds 133 and 134
abbrev pub arrays_from : ℕ
arrays_from = entry_key 133 0 0

-- the first key of kind 134
abbrev pub arrays_to : ℕ
arrays_to = entry_key 134 0 0

none_above : (b : ℕ) (rows : List Row) → Table b rows → arrays_to ≤ b → Small rows → any_array rows ≡ false
unfolding any_array
none_above b [] t h S = refl
none_above b (r ∷ rs) t h S =
    let k : 134 ≤ kind_of (get_or r 0 0) = kind_from r 134 (omega (arith, t.1)) (S 0 (omega arith)) in
    rw (ne_eqb (kind_of (get_or r 0 0)) 133 (λ e. omega (arith, e, k))) (none_above (suc (key r)) rs t.2 (omega (arith, t.1)) (small_next r rs S))

-- some row is an array's exactly where the two places differ
pub any_array_lem : (b : ℕ) (rows : List Row) → Table b rows → Small rows → ltb (rank arrays_from rows) (rank arrays_to rows) ≡ any_array rows
unfolding any_array rank
any_array_lem b [] t S = refl
any_array_lem b (r ∷ rs) t S = go (zone arrays_from arrays_to (key r)) (any_array_lem (suc (key r)) rs t.2 (small_next r rs S))
  where
    go : (key r < arrays_from) ⊎ (((arrays_from ≤ key r) × (key r < arrays_to)) ⊎ (arrays_to ≤ key r)) → ltb (rank arrays_from rs) (rank arrays_to rs) ≡ any_array rs
        → ltb (rank arrays_from (r ∷ rs)) (rank arrays_to (r ∷ rs)) ≡ any_array (r ∷ rs)
    go (inl q) ih =
        let k : kind_of (get_or r 0 0) < 133 = kind_below r 133 q in
        rw (rank_lt arrays_from r rs q, rank_lt arrays_to r rs (omega (arith, q)), ne_eqb (kind_of (get_or r 0 0)) 133 (λ e. omega (arith, e, k))) (leb-suc-suc (suc (rank arrays_from rs)) (rank arrays_to rs) ∙ ih)
    go (inr (inl q)) ih =
        let lo : 133 ≤ kind_of (get_or r 0 0) = kind_from r 133 q.0 (S 0 (omega arith)) in
        let hi : kind_of (get_or r 0 0) < 134 = kind_below r 134 q.1 in
        rw (rank_ge arrays_from r rs q.0, rank_lt arrays_to r rs q.1, eq-eqb (kind_of (get_or r 0 0)) 133 (omega (arith, lo, hi))) (lt-ltb 0 (suc (rank arrays_to rs)) (omega arith))
    go (inr (inr q)) ih =
        rw (rank_ge arrays_from r rs (omega (arith, q)), rank_ge arrays_to r rs q, none_above (key r) (r ∷ rs) (t.0, omega arith, t.2) q S) refl

-- ---- before the first of them, after the last, and between

-- before the first key of kind 133 no row is an array's
pub take_quiet : (rows : List Row) → any_array (take (rank arrays_from rows) rows) ≡ false
unfolding any_array rank
take_quiet [] = refl
take_quiet (r ∷ rs) = go (order (key r) arrays_from) (take_quiet rs)
  where
    go : (key r < arrays_from) ⊎ (arrays_from ≤ key r) → any_array (take (rank arrays_from rs) rs) ≡ false → any_array (take (rank arrays_from (r ∷ rs)) (r ∷ rs)) ≡ false
    go (inl q) ih =
        let k : kind_of (get_or r 0 0) < 133 = kind_below r 133 q in
        rw (rank_lt arrays_from r rs q, ne_eqb (kind_of (get_or r 0 0)) 133 (λ e. omega (arith, e, k))) ih
    go (inr q) ih = rw (rank_ge arrays_from r rs q) refl

-- nor is one from the first key of kind 134 on
pub drop_quiet : (b : ℕ) (rows : List Row) → Table b rows → Small rows → any_array (drop (rank arrays_to rows) rows) ≡ false
unfolding rank any_array
drop_quiet b [] t S = refl
drop_quiet b (r ∷ rs) t S = go (order (key r) arrays_to) (drop_quiet (suc (key r)) rs t.2 (small_next r rs S))
  where
    go : (key r < arrays_to) ⊎ (arrays_to ≤ key r) → any_array (drop (rank arrays_to rs) rs) ≡ false → any_array (drop (rank arrays_to (r ∷ rs)) (r ∷ rs)) ≡ false
    go (inl q) ih = rw (rank_lt arrays_to r rs q) ih
    go (inr q) ih = rw (rank_ge arrays_to r rs q) (none_above (key r) (r ∷ rs) (t.0, omega arith, t.2) q S)

-- each row between is
pub array_between : (rows : List Row) → Table 0 rows → Small rows → (i : ℕ) → rank arrays_from rows ≤ i → i < rank arrays_to rows → kind_of (get_or (get_or rows i []) 0 0) ≡ 133
array_between rows t S i p q =
    let inside : i < length rows = omega (arith, q, rank_le arrays_to rows) in
    let lo : arrays_from ≤ key (get_or rows i []) = low (order (key (get_or rows i [])) arrays_from) in
    let hi : key (get_or rows i []) < arrays_to = high (order (key (get_or rows i [])) arrays_to) in
    omega (arith, kind_from (get_or rows i []) 133 lo (S i inside), kind_below (get_or rows i []) 134 hi)
  where
    low : (key (get_or rows i []) < arrays_from) ⊎ (arrays_from ≤ key (get_or rows i [])) → arrays_from ≤ key (get_or rows i [])
    low (inl h) = absurd (omega (arith, p, rank_high 0 arrays_from rows t i (omega (arith, q, rank_le arrays_to rows)) h))
    low (inr h) = h

    high : (key (get_or rows i []) < arrays_to) ⊎ (arrays_to ≤ key (get_or rows i [])) → key (get_or rows i []) < arrays_to
    high (inl h) = h
    high (inr h) = absurd (omega (arith, q, rank_low arrays_to rows i (omega (arith, q, rank_le arrays_to rows)) h))
