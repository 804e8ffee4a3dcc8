-- The literal that stands at a place, by the kind of its head: its words, its value, the place past it. No line here knows the code. Assumes nothing.
use Prim.Native.Nat.{ℕ, ◌+◌, ◌<◌, ◌≤◌}
use mathlib.Core.Path.{◌≡◌, refl, sym, ap, ap₂, ◌∙◌, subst}
use mathlib.Core.List.{List, ◌∷◌}
use native.Mathlib.Omega.{arith}
use lib.ListN.{length, get_or}
use mathlib.Core.Logic.{◌⊎◌, inl, inr}
use Rattle.rows_table.specs.Laws.{order}
use Rattle.base_words.specs.Word.{kind_of, pay_of}
use Rattle.tree_expr.specs.Expr.{Literal, words_l, ValidL, kind_l}
use Rattle.tree_expr.specs.Expr as E
use Rattle.tree_expr.specs.Stands.{Wrote}
use Rattle.tree_expr.proofs.Parts.{wrote_first, pay_is}
use Rattle.tree_expr.proofs.Nodes.{in_lit}
use Rattle.base_numbers.specs.Numbers.{whole_at}
use Rattle.fold_const_eval.specs.ConstEval.{signed32, literal, const_eval}
use Rattle.fold_const_eval.specs.Evaluates.{laid_as, LiteralAt, EvaluatesAlone}
use Rattle.fold_values.specs.Value.{value_of}

-- ---- the literal there

module _ (ws : List ℕ) (at : ℕ) where
  -- a word after the literal's head, and the end
  at_2 : {a w end : ℕ} {xs : List ℕ} → Wrote ws (at + 1) (a ∷ w ∷ xs) end → get_or ws (at + 2) 0 ≡ w
  at_2 r =
      let p : at + 2 ≡ at + 1 + 1 = omega arith in
      ap (λ (i : ℕ). get_or ws i 0) p ∙ (wrote_first (wrote_first r).rest).is

  at_3 : {a w v end : ℕ} {xs : List ℕ} → Wrote ws (at + 1) (a ∷ w ∷ v ∷ xs) end → get_or ws (at + 3) 0 ≡ v
  at_3 r =
      let p : at + 3 ≡ at + 1 + 1 + 1 = omega arith in
      ap (λ (i : ℕ). get_or ws i 0) p ∙ (wrote_first (wrote_first (wrote_first r).rest).rest).is

  -- what a literal of a kind is
  integer_is : (l : Literal) {end : ℕ} → Wrote ws (at + 1) (words_l l) end → kind_l l ≡ 24 → (l ≡ E.Integer (get_or ws (at + 2) 0)) × (at + 3 ≡ end)
  unfolding words_l kind_l
  integer_is (E.Integer a) r k = (ap E.Integer (sym (at_2 r)), omega (arith, r.span))
  integer_is (E.Long a) r k = absurd (omega arith)
  integer_is (E.Single a b) r k = absurd (omega arith)
  integer_is (E.Float a b) r k = absurd (omega arith)
  integer_is (E.Text s) r k = absurd (omega arith)

  long_is : (l : Literal) {end : ℕ} → Wrote ws (at + 1) (words_l l) end → kind_l l ≡ 25 → (l ≡ E.Long (get_or ws (at + 2) 0)) × (at + 3 ≡ end)
  unfolding words_l kind_l
  long_is (E.Integer a) r k = absurd (omega arith)
  long_is (E.Long a) r k = (ap E.Long (sym (at_2 r)), omega (arith, r.span))
  long_is (E.Single a b) r k = absurd (omega arith)
  long_is (E.Float a b) r k = absurd (omega arith)
  long_is (E.Text s) r k = absurd (omega arith)

  single_is : (l : Literal) {end : ℕ} → Wrote ws (at + 1) (words_l l) end → kind_l l ≡ 26 → (l ≡ E.Single (get_or ws (at + 2) 0) (get_or ws (at + 3) 0)) × (at + 4 ≡ end)
  unfolding words_l kind_l
  single_is (E.Integer a) r k = absurd (omega arith)
  single_is (E.Long a) r k = absurd (omega arith)
  single_is (E.Single a b) r k = (ap₂ E.Single (sym (at_2 r)) (sym (at_3 r)), omega (arith, r.span))
  single_is (E.Float a b) r k = absurd (omega arith)
  single_is (E.Text s) r k = absurd (omega arith)

  float_is : (l : Literal) {end : ℕ} → Wrote ws (at + 1) (words_l l) end → kind_l l ≡ 27 → (l ≡ E.Float (get_or ws (at + 2) 0) (get_or ws (at + 3) 0)) × (at + 4 ≡ end)
  unfolding words_l kind_l
  float_is (E.Integer a) r k = absurd (omega arith)
  float_is (E.Long a) r k = absurd (omega arith)
  float_is (E.Single a b) r k = absurd (omega arith)
  float_is (E.Float a b) r k = (ap₂ E.Float (sym (at_2 r)) (sym (at_3 r)), omega (arith, r.span))
  float_is (E.Text s) r k = absurd (omega arith)

  text_is : (n : ℕ) (l : Literal) {end : ℕ} → Wrote ws (at + 1) (words_l l) end → ValidL n l → (kind_l l ≡ 24 → ⊥) → (kind_l l ≡ 25 → ⊥) → (kind_l l ≡ 26 → ⊥) → (kind_l l ≡ 27 → ⊥)
      → (l ≡ E.Text (pay_of (get_or ws (at + 2) 0))) × (at + 3 ≡ end)
  unfolding words_l kind_l ValidL
  text_is n (E.Integer w) r v a b c d = absurd (a refl)
  text_is n (E.Long w) r v a b c d = absurd (b refl)
  text_is n (E.Single x y) r v a b c d = absurd (c refl)
  text_is n (E.Float x y) r v a b c d = absurd (d refl)
  text_is n (E.Text s) r v a b c d = (ap E.Text (sym (ap pay_of (at_2 r) ∙ pay_is 2 s v.fits)), omega (arith, r.span))

-- ---- what the expression folds to

module _ {ws : List ℕ} {at : ℕ} (K : kind_of (get_or ws at 0) ≡ 16) where
  -- 24: an Integer
  pub eval_24 : kind_of (get_or ws (at + 1) 0) ≡ 24 → {h : ℕ} → whole_at (get_or ws (at + 2) 0) h ≡ signed32 (get_or ws (at + 2) 0) → EvaluatesAlone ws at (laid_as (at + 3) 24 (get_or ws (at + 2) 0) h)
  unfolding const_eval literal value_of
  eval_24 k q n e end s rows =
      let v = in_lit K s in
      let l = integer_is ws at v.lit v.wrote (sym v.kind ∙ k) in
      record { answer = rw (v.is, l.0, q) refl; past = l.1 }

  -- 25: a Long
  pub eval_25 : kind_of (get_or ws (at + 1) 0) ≡ 25 → {h : ℕ} → whole_at (get_or ws (at + 2) 0) h ≡ signed32 (get_or ws (at + 2) 0) → EvaluatesAlone ws at (laid_as (at + 3) 25 (get_or ws (at + 2) 0) h)
  unfolding const_eval literal value_of
  eval_25 k q n e end s rows =
      let v = in_lit K s in
      let l = long_is ws at v.lit v.wrote (sym v.kind ∙ k) in
      record { answer = rw (v.is, l.0, q) refl; past = l.1 }

  -- 26: a Single
  pub eval_26 : kind_of (get_or ws (at + 1) 0) ≡ 26 → EvaluatesAlone ws at (laid_as (at + 4) 26 (get_or ws (at + 2) 0) (get_or ws (at + 3) 0))
  unfolding const_eval literal value_of
  eval_26 k n e end s rows =
      let v = in_lit K s in
      let l = single_is ws at v.lit v.wrote (sym v.kind ∙ k) in
      record { answer = rw (v.is, l.0) refl; past = l.1 }

  -- 27: a Float
  pub eval_27 : kind_of (get_or ws (at + 1) 0) ≡ 27 → EvaluatesAlone ws at (laid_as (at + 4) 27 (get_or ws (at + 2) 0) (get_or ws (at + 3) 0))
  unfolding const_eval literal value_of
  eval_27 k n e end s rows =
      let v = in_lit K s in
      let l = float_is ws at v.lit v.wrote (sym v.kind ∙ k) in
      record { answer = rw (v.is, l.0) refl; past = l.1 }

  -- 24 or 25: a whole number
  pub eval_whole : 24 ≤ kind_of (get_or ws (at + 1) 0) → kind_of (get_or ws (at + 1) 0) < 26 → {h : ℕ} → whole_at (get_or ws (at + 2) 0) h ≡ signed32 (get_or ws (at + 2) 0)
      → EvaluatesAlone ws at (laid_as (at + 3) (kind_of (get_or ws (at + 1) 0)) (get_or ws (at + 2) 0) h)
  eval_whole a b {h} q = go (order (kind_of (get_or ws (at + 1) 0)) 25)
    where
      go : (kind_of (get_or ws (at + 1) 0) < 25) ⊎ (25 ≤ kind_of (get_or ws (at + 1) 0)) → EvaluatesAlone ws at (laid_as (at + 3) (kind_of (get_or ws (at + 1) 0)) (get_or ws (at + 2) 0) h)
      go (inl l) =
          let k : kind_of (get_or ws (at + 1) 0) ≡ 24 = omega arith in
          subst (λ (j : ℕ). EvaluatesAlone ws at (laid_as (at + 3) j (get_or ws (at + 2) 0) h)) (sym k) (eval_24 k q)
      go (inr l) =
          let k : kind_of (get_or ws (at + 1) 0) ≡ 25 = omega arith in
          subst (λ (j : ℕ). EvaluatesAlone ws at (laid_as (at + 3) j (get_or ws (at + 2) 0) h)) (sym k) (eval_25 k q)

  -- 26 or 27: a float
  pub eval_float : 26 ≤ kind_of (get_or ws (at + 1) 0) → kind_of (get_or ws (at + 1) 0) < 28
      → EvaluatesAlone ws at (laid_as (at + 4) (kind_of (get_or ws (at + 1) 0)) (get_or ws (at + 2) 0) (get_or ws (at + 3) 0))
  eval_float a b = go (order (kind_of (get_or ws (at + 1) 0)) 27)
    where
      go : (kind_of (get_or ws (at + 1) 0) < 27) ⊎ (27 ≤ kind_of (get_or ws (at + 1) 0)) → EvaluatesAlone ws at (laid_as (at + 4) (kind_of (get_or ws (at + 1) 0)) (get_or ws (at + 2) 0) (get_or ws (at + 3) 0))
      go (inl l) =
          let k : kind_of (get_or ws (at + 1) 0) ≡ 26 = omega arith in
          subst (λ (j : ℕ). EvaluatesAlone ws at (laid_as (at + 4) j (get_or ws (at + 2) 0) (get_or ws (at + 3) 0))) (sym k) (eval_26 k)
      go (inr l) =
          let k : kind_of (get_or ws (at + 1) 0) ≡ 27 = omega arith in
          subst (λ (j : ℕ). EvaluatesAlone ws at (laid_as (at + 4) j (get_or ws (at + 2) 0) (get_or ws (at + 3) 0))) (sym k) (eval_27 k)

  -- 28: a string's number
  pub eval_28 : (kind_of (get_or ws (at + 1) 0) ≡ 24 → ⊥) → (kind_of (get_or ws (at + 1) 0) ≡ 25 → ⊥) → (kind_of (get_or ws (at + 1) 0) ≡ 26 → ⊥) → (kind_of (get_or ws (at + 1) 0) ≡ 27 → ⊥)
      → EvaluatesAlone ws at (laid_as (at + 3) 28 (pay_of (get_or ws (at + 2) 0)) 0)
  unfolding const_eval literal value_of
  eval_28 a b c d n e end s rows =
      let v = in_lit K s in
      let l = text_is ws at n.count v.lit v.wrote v.valid (λ q. a (v.kind ∙ q)) (λ q. b (v.kind ∙ q)) (λ q. c (v.kind ∙ q)) (λ q. d (v.kind ∙ q)) in
      record { answer = rw (v.is, l.0) refl; past = l.1 }

-- ---- the words that are looked at

long_enough : (l : Literal) → 2 ≤ length (words_l l)
unfolding words_l
long_enough (E.Integer a) = omega arith
long_enough (E.Long a) = omega arith
long_enough (E.Single a b) = omega arith
long_enough (E.Float a b) = omega arith
long_enough (E.Text s) = omega arith

module _ {ws : List ℕ} {at : ℕ} (A : LiteralAt ws at) where
  -- the word after the literal's head
  pub word_2 : at + 2 < length ws
  word_2 = let v = in_lit A.kind A.some.stands in omega (arith, v.wrote.span, v.wrote.inside, long_enough v.lit)

  -- the second word of a Single
  pub single_there : kind_of (get_or ws (at + 1) 0) ≡ 26 → at + 3 < length ws
  single_there k =
      let v = in_lit A.kind A.some.stands in
      omega (arith, (single_is ws at v.lit v.wrote (sym v.kind ∙ k)).1, v.wrote.inside)

  -- the second word of a Float
  pub float_there : kind_of (get_or ws (at + 1) 0) ≡ 27 → at + 3 < length ws
  float_there k =
      let v = in_lit A.kind A.some.stands in
      omega (arith, (float_is ws at v.lit v.wrote (sym v.kind ∙ k)).1, v.wrote.inside)

-- a float's high word is within the words
pub float_inside : {ws : List ℕ} {at : ℕ} → LiteralAt ws at → 26 ≤ kind_of (get_or ws (at + 1) 0) → kind_of (get_or ws (at + 1) 0) < 28 → at + 3 < length ws
float_inside {ws} {at} L a b = go (order (kind_of (get_or ws (at + 1) 0)) 27)
  where
    go : (kind_of (get_or ws (at + 1) 0) < 27) ⊎ (27 ≤ kind_of (get_or ws (at + 1) 0)) → at + 3 < length ws
    go (inl l) = single_there L (omega arith)
    go (inr l) = float_there L (omega arith)
