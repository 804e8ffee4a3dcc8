-- The words of a row, tested in turn, and zeros. Assumes nothing.
use mathlib.Core.Path.{◌≡◌, sym, ap, ◌∙◌}
use mathlib.Core.Bool.{Bool, true, false}
use mathlib.Core.List.{List, []}
use Prim.Native.Nat.{ℕ, zero, suc, ◌+◌, ◌*◌, ◌≤◌, ◌<◌}
use native.Mathlib.Omega.{arith}
use native.Mathlib.Numerals.{add-one}
use lib.ListN.{length, take, drop, get_or, drop_of_length-le}
use lib.Seq.{drop-cons, drop-drop, get_or-drop, get_or-take}
use Rattle.std.proofs.Common.{le_of_suc-le-suc, not-suc-le-zero}
use Rattle.std.specs.Simd.{first_chunks}
use Rattle.std.specs.Prelude.{eqb, refl, ◌∷◌, ◌&&◌}
use Rattle.std.specs.List.{list_all}
use Rattle.base_words.specs.Word.{pay_of, pick}
use Rattle.rows_table.specs.Laws.{pick_true, pick_false}
use Rattle.rows_table.specs.Rows.{Row, width}
use Rattle.rows_lent.specs.Rules.{rules, word_ok, words_ok, kind_ok}
use Rattle.rows_lent.specs.Lent.{all_zero}

module _ (names rs ws : List ℕ) (j : ℕ) where
  -- word j under its rule
  abbrev pub here : Bool
  here = word_ok names (get_or rs j 0) (get_or ws j 0) (get_or ws (j + 1) 0) (get_or ws (j + 2) 0)

  abbrev rest : Bool
  rest = words_ok names (drop (j + 1) rs) (drop (j + 1) ws)

  step : j < length ws → words_ok names (drop j rs) (drop j ws) ≡ pick here rest false
  unfolding words_ok
  step h =
      let z : j + 0 ≡ j = omega arith in
      let s₁ : suc j + 0 ≡ j + 1 = omega arith in
      let s₂ : suc j + 1 ≡ j + 2 = omega arith in
      let r : get_or (drop j rs) 0 0 ≡ get_or rs j 0 = get_or-drop j rs 0 0 ∙ ap (λ (i : ℕ). get_or rs i 0) z in
      let a : get_or (drop (suc j) ws) 0 0 ≡ get_or ws (j + 1) 0 = get_or-drop (suc j) ws 0 0 ∙ ap (λ (i : ℕ). get_or ws i 0) s₁ in
      let b : get_or (drop (suc j) ws) 1 0 ≡ get_or ws (j + 2) 0 = get_or-drop (suc j) ws 1 0 ∙ ap (λ (i : ℕ). get_or ws i 0) s₂ in
      ap (words_ok names (drop j rs)) (drop-cons ws j 0 h)
      ∙ ap (λ (x : ℕ). pick (word_ok names x (get_or ws j 0) (get_or (drop (suc j) ws) 0 0) (get_or (drop (suc j) ws) 1 0)) (words_ok names (drop 1 (drop j rs)) (drop (suc j) ws)) false) r
      ∙ ap (λ (x : ℕ). pick (word_ok names (get_or rs j 0) (get_or ws j 0) x (get_or (drop (suc j) ws) 1 0)) (words_ok names (drop 1 (drop j rs)) (drop (suc j) ws)) false) a
      ∙ ap (λ (x : ℕ). pick (word_ok names (get_or rs j 0) (get_or ws j 0) (get_or ws (j + 1) 0) x) (words_ok names (drop 1 (drop j rs)) (drop (suc j) ws)) false) b
      ∙ ap (λ (l : List ℕ). pick here (words_ok names l (drop (suc j) ws)) false) (drop-drop 1 j rs)
      ∙ ap (λ (i : ℕ). pick here (words_ok names (drop (j + 1) rs) (drop i ws)) false) (sym (add-one j))

  -- it is right: those after it decide
  pub words_more : j < length ws → here ≡ true → words_ok names (drop j rs) (drop j ws) ≡ words_ok names (drop (j + 1) rs) (drop (j + 1) ws)
  words_more h o = step h ∙ pick_true rest false o

  -- it isn't: nor is the row
  pub words_no : j < length ws → here ≡ false → words_ok names (drop j rs) (drop j ws) ≡ false
  words_no h o = step h ∙ pick_false rest false o

  -- past the last word nothing is asked
  pub words_end : length ws ≤ j → words_ok names (drop j rs) (drop j ws) ≡ true
  unfolding words_ok
  words_end h = rw (drop_of_length-le ws h)

-- word 0, and then the others
pub first_word : (names : List ℕ) (k : ℕ) (r : Row)
    → kind_ok names k r ≡ pick (word_ok names (get_or (get_or rules k []) 0 0) (pay_of (get_or r 0 0)) (get_or r 1 0) (get_or r 2 0)) (words_ok names (drop 1 (get_or rules k [])) (drop 1 r)) false
unfolding kind_ok words_ok
first_word names k r =
    ap (λ (x : ℕ). pick (word_ok names (get_or (get_or rules k []) 0 0) (pay_of (get_or r 0 0)) x (get_or (drop 1 r) 1 0)) (words_ok names (drop 1 (get_or rules k [])) (drop 1 r)) false) (get_or-drop 1 r 0 0)
    ∙ ap (λ (x : ℕ). pick (word_ok names (get_or (get_or rules k []) 0 0) (pay_of (get_or r 0 0)) (get_or r 1 0) x) (words_ok names (drop 1 (get_or rules k [])) (drop 1 r)) false) (get_or-drop 1 r 1 0)

-- each word is zero
pub all_zero_is : (words : List ℕ) → all_zero words ≡ list_all (λ x. eqb x 0) words
unfolding all_zero
all_zero_is [] = refl
all_zero_is (x ∷ xs) = go (eqb x 0) (all_zero_is xs)
  where
    go : (t : Bool) → all_zero xs ≡ list_all (λ y. eqb y 0) xs → pick t (all_zero xs) false ≡ (t && list_all (λ y. eqb y 0) xs)
    go true e = e
    go false e = refl

-- ---- rows cut out of a buffer

-- row i of them
pub row_at : (k i : ℕ) (b : List ℕ) → i < k → get_or (first_chunks width k b) i [] ≡ take width (drop (i * width) b)
row_at zero i b h = absurd (not-suc-le-zero h)
row_at (suc k) zero b h = refl
row_at (suc k) (suc i) b h =
    row_at k i (drop width b) (le_of_suc-le-suc h) ∙ ap (take width) (drop-drop (i * width) width b ∙ ap (λ (j : ℕ). drop j b) (omega arith))

-- its first word
pub row_first : (i : ℕ) (b : List ℕ) → get_or (take width (drop (i * width) b)) 0 0 ≡ get_or b (i * width) 0
row_first i b =
    let e : i * width + 0 ≡ i * width = omega arith in
    get_or-take width (drop (i * width) b) 0 0 (omega arith) ∙ get_or-drop (i * width) b 0 0 ∙ ap (λ (j : ℕ). get_or b j 0) e
