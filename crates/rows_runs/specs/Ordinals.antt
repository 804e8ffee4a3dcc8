-- New rows with ordinals in turn replace the old ones with the same: only the others need to be taken out before. By induction on the rows. Assumes
-- nothing.
use Rattle.std.specs.Prelude.{◌≡◌, refl, ◌⊎◌, List, [], ◌∷◌, ℕ, suc, ◌+◌, ◌≤◌, ◌<◌, length}
use Rattle.std.proofs.Common.{sym, ap, ◌∙◌, subst, inl, inr, zero-le, arith}
use Rattle.rows_table.specs.Rows.{Row, width, key, Table, insert, insert_all, remove, replace}
use Rattle.rows_table.specs.Laws.{order, order₃, insert_lt, insert_eq, insert_table, remove_low, remove_in, remove_high, remove_table}
use Rattle.rows_merge.specs.Laws.{insert_front}
use Rattle.rows_runs.specs.Union.{remove_insert_out}

-- the keys of these rows are k, the number after it, and so on
abbrev pub InTurn : ℕ → List Row → Type 0
InTurn k [] = Unit {0}
InTurn k (r ∷ rs) = (length r ≡ width) × (key r ≡ k) × InTurn (suc k) rs

-- where all keys are from b on, it is the same to begin before
remove_above : (b lo hi : ℕ) (rows : List Row) → lo < hi → suc lo ≤ b → Table b rows → remove lo hi rows ≡ remove (suc lo) hi rows
unfolding remove
remove_above b lo hi [] h l t = refl
remove_above b lo hi (x ∷ xs) h l t = go (order (key x) hi) (remove_above (suc (key x)) lo hi xs h (omega (arith, t.1)) t.2)
  where
    go : (key x < hi) ⊎ (hi ≤ key x) → remove lo hi xs ≡ remove (suc lo) hi xs → remove lo hi (x ∷ xs) ≡ remove (suc lo) hi (x ∷ xs)
    go (inl q) ih = remove_in lo hi x xs (omega (arith, t.1)) q ∙ ih ∙ sym (remove_in (suc lo) hi x xs (omega (arith, t.1)) q)
    go (inr q) ih = remove_high lo hi x xs (omega arith) q ∙ ap (λ (l : List Row). x ∷ l) ih ∙ sym (remove_high (suc lo) hi x xs (omega arith) q)

-- the row with the first of the keys need not be taken out: it is replaced
insert_first_out : (b hi : ℕ) (r : Row) (rows : List Row) → key r < hi → Table b rows → insert r (remove (key r) hi rows) ≡ insert r (remove (suc (key r)) hi rows)
unfolding remove insert
insert_first_out b hi r [] h t = refl
insert_first_out b hi r (x ∷ xs) h t = go (order₃ (key x) (key r)) (insert_first_out (suc (key x)) hi r xs h t.2)
  where
    go : (key x < key r) ⊎ ((key x ≡ key r) ⊎ (key r < key x)) → insert r (remove (key r) hi xs) ≡ insert r (remove (suc (key r)) hi xs)
        → insert r (remove (key r) hi (x ∷ xs)) ≡ insert r (remove (suc (key r)) hi (x ∷ xs))
    go (inl q) ih =
        ap (insert r) (remove_low (key r) hi x xs q) ∙ insert_lt r x (remove (key r) hi xs) q ∙ ap (λ (l : List Row). x ∷ l) ih
        ∙ sym (insert_lt r x (remove (suc (key r)) hi xs) q) ∙ ap (insert r) (sym (remove_low (suc (key r)) hi x xs (omega arith)))
    go (inr (inl q)) ih =
        let above : Table (suc (key r)) xs = subst (λ (k : ℕ). Table (suc k) xs) q t.2 in
        ap (insert r) (remove_in (key r) hi x xs (omega arith) (omega arith))
        ∙ ap (insert r) (remove_above (suc (key r)) (key r) hi xs h (omega arith) above)
        ∙ insert_front r [] (remove (suc (key r)) hi xs) (remove_table (suc (key r)) (suc (key r)) hi xs (omega arith) above)
        ∙ sym (insert_eq r x (remove (suc (key r)) hi xs) q) ∙ ap (insert r) (sym (remove_low (suc (key r)) hi x xs (omega arith)))
    go (inr (inr q)) ih = ap (insert r) (remove_above (key x) (key r) hi (x ∷ xs) h q (t.0, omega arith, t.2))

-- nor those with the keys in turn
all_out : (lo hi : ℕ) (new rows : List Row) → InTurn lo new → lo + length new ≤ hi → Table 0 rows → insert_all new (remove lo hi rows) ≡ insert_all new (remove (lo + length new) hi rows)
unfolding insert_all
all_out lo hi [] rows n h t = ap (λ (k : ℕ). remove k hi rows) (omega arith)
all_out lo hi (r ∷ rs) rows n h t =
    let last : suc lo + length rs ≡ lo + length (r ∷ rs) = omega arith in
    let first : insert r (remove lo hi rows) ≡ insert r (remove (suc lo) hi rows) =
    subst (λ (k : ℕ). insert r (remove k hi rows) ≡ insert r (remove (suc k) hi rows)) n.1 (insert_first_out 0 hi r rows (omega (arith, n.1)) t) in
    ap (insert_all rs) (first ∙ sym (remove_insert_out 0 (suc lo) hi r rows (omega arith) t (inl (omega (arith, n.1)))))
    ∙ all_out (suc lo) hi rs (insert r rows) n.2 (omega arith) (insert_table 0 r rows t n.0 zero-le)
    ∙ ap (insert_all rs) (remove_insert_out 0 (suc lo + length rs) hi r rows (omega arith) t (inl (omega (arith, n.1))))
    ∙ ap (λ (k : ℕ). insert_all rs (insert r (remove k hi rows))) last

-- the same after a row that stands before them all
pub replace_turn : (lo hi : ℕ) (top : Row) (new rows : List Row) → length top ≡ width → key top < lo → InTurn lo new → lo + length new ≤ hi → Table 0 rows
    → replace (lo + length new) hi (top ∷ new) rows ≡ replace lo hi (top ∷ new) rows
unfolding replace insert_all
replace_turn lo hi top new rows w k n h t =
    ap (insert_all new) (sym (remove_insert_out 0 (lo + length new) hi top rows h t (inl (omega arith))))
    ∙ sym (all_out lo hi new (insert top rows) n h (insert_table 0 top rows t w zero-le))
    ∙ ap (insert_all new) (remove_insert_out 0 lo hi top rows (omega arith) t (inl k))
