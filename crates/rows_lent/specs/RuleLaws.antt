-- What the tests of the rules say: a name's number is below the marks' number, a word of a row in order meets its own rule, an array's row names it.
-- Assumes nothing.
use Rattle.std.specs.Prelude.{ℕ, zero, suc, ◌+◌, ◌-◌, ◌≤◌, ◌<◌, ◌≡◌, refl, Bool, true, false, ◌⊎◌, List, [], ◌∷◌, eqb, length, drop, get_or}
use Rattle.std.proofs.Common.{ap, ◌∙◌, subst, inl, inr, arith, le_of_suc-le-suc, not-suc-le-zero, get_or-drop, eqb-true}
use Rattle.std.proofs.lemmas.Bool.{false≢true}
use Rattle.std.proofs.Math.ListN.{get_or-eq_default}
use Rattle.base_words.specs.Word.{kind_of, pay_of, pick}
use Rattle.rows_table.specs.Rows.{Row}
use Rattle.rows_table.specs.Laws.{order}
use Rattle.rows_lent.specs.Rules.{is_marked, scope_ok, word_ok, words_ok, kind_ok, row_ok}

-- ---- numbers of names

-- the number of a name is below the number of strings
pub name_below : (names : List ℕ) (x : ℕ) → is_marked names x ≡ true → x < length names
name_below names x e = go (order x (length names))
  where
    go : (x < length names) ⊎ (length names ≤ x) → x < length names
    go (inl h) = h
    go (inr h) =
        let one : get_or names x 0 ≡ 1 = eqb-true (get_or names x 0) 1 e in
        absurd (omega (arith, one, get_or-eq_default names 0 h))

-- a scope is at most the number of strings
pub scope_below : (names : List ℕ) (w : ℕ) → scope_ok names w ≡ true → w ≤ length names
unfolding scope_ok
scope_below names w e = go (eqb w 0) refl e
  where
    go : (t : Bool) → eqb w 0 ≡ t → pick t true (is_marked names (w - 1)) ≡ true → w ≤ length names
    go true q f = omega (arith, eqb-true w 0 q)
    go false q f = omega (arith, name_below names (w - 1) f)

-- ---- words under their rules

-- two tests, one after the other, both hold
pub pick_both : (b c : Bool) → pick b c false ≡ true → (b ≡ true) × (c ≡ true)
pick_both true c e = (refl, e)
pick_both false c e = absurd (false≢true e)

-- word j under its rule
pub words_ok_at : (names rs ws : List ℕ) (j : ℕ) → words_ok names rs ws ≡ true → j < length ws → word_ok names (get_or rs j 0) (get_or ws j 0) (get_or ws (suc j) 0) (get_or ws (suc (suc j)) 0) ≡ true
unfolding words_ok
words_ok_at names rs [] j e h = absurd (not-suc-le-zero h)
words_ok_at names rs (w ∷ ws) zero e h = (pick_both (word_ok names (get_or rs 0 0) w (get_or ws 0 0) (get_or ws 1 0)) _ e).0
words_ok_at names rs (w ∷ ws) (suc j) e h =
    let t = words_ok_at names (drop 1 rs) ws j (pick_both (word_ok names (get_or rs 0 0) w (get_or ws 0 0) (get_or ws 1 0)) _ e).1 (le_of_suc-le-suc h) in
    let p : 1 + j ≡ suc j = omega arith in
    subst (λ (x : ℕ). word_ok names x (get_or ws j 0) (get_or ws (suc j) 0) (get_or ws (suc (suc j)) 0) ≡ true) (get_or-drop 1 rs j 0 ∙ ap (λ (i : ℕ). get_or rs i 0) p) t

-- the name of an array
pub array_name : (names : List ℕ) (r : Row) → kind_of (get_or r 0 0) ≡ 133 → row_ok names r ≡ true → is_marked names (pay_of (get_or r 0 0)) ≡ true
unfolding row_ok kind_ok words_ok word_ok
array_name names r k o =
    let t : kind_ok names 5 r ≡ true = rw k at o in
    (pick_both (is_marked names (pay_of (get_or r 0 0))) _ t).0
