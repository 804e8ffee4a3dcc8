-- A fact of each of a list is so at every place. Of each row it stays when rows go in and out, and it is so of the row that a key finds. Assumes nothing.
use Rattle.std.specs.Prelude.{ℕ, zero, suc, ◌≤◌, ◌<◌, refl, Bool, ◌⊎◌, eqb, length, get_or}
use Rattle.std.proofs.Math.Path.{◌≡◌, subst}
use Rattle.std.proofs.Common.{sym, ap, ◌∙◌, inl, inr, arith, le_of_suc-le-suc, not-suc-le-zero, eqb-true}
use Rattle.std.proofs.Math.Bool.{true, false}
use mathlib.Core.List.{List, [], ◌∷◌}
use Rattle.std.proofs.Math.Option.{some}
use Rattle.base_words.specs.Word.{pick}
use Rattle.base_words.specs.Each.{Each}
use Rattle.rows_table.specs.Rows.{Row, key, find, insert, remove, Wide}
use Rattle.rows_table.specs.Laws.{order₃, zone, insert_lt, insert_eq, insert_gt, remove_low, remove_in, remove_high}

-- it holds of the element at a place within the list
pub each_at : {A : Type 0} (P : A → Type 0) (d : A) (xs : List A) → Each P xs → (i : ℕ) → i < length xs → P (get_or xs i d)
unfolding Each
each_at P d [] a i h = absurd (not-suc-le-zero h)
each_at P d (x ∷ xs) a zero h = a.0
each_at P d (x ∷ xs) a (suc i) h = each_at P d xs a.1 i (le_of_suc-le-suc h)

-- rows of w words, as a fact of each
pub wide_each : (w : ℕ) (rows : List Row) → Wide w rows → Each (λ r. length r ≡ w) rows
unfolding Each
wide_each w [] t = tt
wide_each w (r ∷ rs) t = (t.0, wide_each w rs t.1)

-- ---- rows that go in and out

module _ (P : Row → Type 0) where
  -- P holds of each row after one went in of which it holds
  pub each_insert : (r : Row) (rows : List Row) → P r → Each P rows → Each P (insert r rows)
  unfolding Each insert
  each_insert r [] o a = (o, tt)
  each_insert r (x ∷ xs) o a = go (order₃ (key x) (key r)) (each_insert r xs o a.1)
    where
      go : (key x < key r) ⊎ ((key x ≡ key r) ⊎ (key r < key x)) → Each P (insert r xs) → Each P (insert r (x ∷ xs))
      go (inl q) ih = rw (insert_lt r x xs q) (a.0, ih)
      go (inr (inl q)) ih = rw (insert_eq r x xs q) (o, a.1)
      go (inr (inr q)) ih = rw (insert_gt r x xs q) (o, a)

  -- it holds of those left after some were taken out
  pub each_remove : (lo hi : ℕ) (rows : List Row) → lo ≤ hi → Each P rows → Each P (remove lo hi rows)
  unfolding Each remove
  each_remove lo hi [] h a = tt
  each_remove lo hi (x ∷ xs) h a = go (each_remove lo hi xs h a.1) (zone lo hi (key x))
    where
      go : Each P (remove lo hi xs) → (key x < lo) ⊎ (((lo ≤ key x) × (key x < hi)) ⊎ (hi ≤ key x)) → Each P (remove lo hi (x ∷ xs))
      go ih (inl q) = rw (remove_low lo hi x xs q) (a.0, ih)
      go ih (inr (inl q)) = rw (remove_in lo hi x xs q.0 q.1) ih
      go ih (inr (inr q)) = rw (remove_high lo hi x xs h q) (a.0, ih)

  -- ---- the row that a key finds

  -- it holds of the row that a key finds
  pub each_find : (k : ℕ) (rows : List Row) (r : Row) → Each P rows → find k rows ≡ some r → P r
  unfolding Each find
  each_find k [] r a e = let z : ◌≡◌ {A = ℕ} 0 1 = cc in absurd (omega arith)
  each_find k (x ∷ xs) r a e = go (eqb (key x) k) e (each_find k xs r a.1)
    where
      go : (b : Bool) → pick b (some x) (find k xs) ≡ some r → (find k xs ≡ some r → P r) → P r
      go true f ih = let p : x ≡ r = cc in subst P p a.0
      go false f ih = ih f

-- the row that is found has the key
pub find_key : (k : ℕ) (rows : List Row) (r : Row) → find k rows ≡ some r → key r ≡ k
unfolding find
find_key k [] r e = let z : ◌≡◌ {A = ℕ} 0 1 = cc in absurd (omega arith)
find_key k (x ∷ xs) r e = go (eqb (key x) k) refl e (find_key k xs r)
  where
    go : (b : Bool) → eqb (key x) k ≡ b → pick b (some x) (find k xs) ≡ some r → (find k xs ≡ some r → key r ≡ k) → key r ≡ k
    go true q f ih = let p : x ≡ r = cc in ap key (sym p) ∙ eqb-true (key x) k q
    go false q f ih = ih f
