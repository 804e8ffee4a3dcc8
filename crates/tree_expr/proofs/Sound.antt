-- The definition of reading is right: what it gives is the tree whose words stand there, and it gives every right tree that is not too deep. Assumes nothing.
use Prim.Native.Nat.{ℕ, zero, suc, ◌<◌, ◌≤◌}
use mathlib.Core.Path.{◌≡◌, refl, sym, ◌∙◌}
use mathlib.Core.List.{List, [], ◌∷◌}
use mathlib.Core.Bool.{Bool, true}
use mathlib.Core.Logic.{◌⊎◌, inl, inr, ⊎_elim}
use native.Mathlib.Omega.{arith}
use native.Mathlib.Nat.{le_antisymm}
use native.Mathlib.Numerals.{add-one}
use native.Mathlib.Decide.{ℕ_discrete}
use lib.ListN.{length, get_or}
use lib.Dec.{ltb}
use borrow.Author.Tests.{ltb-true}
use Rattle.tree_expr.specs.Expr.{Strings, Named, finite, Literal, Integer, Long, Single, Float, Text, Expr, Exprs, none, words_l, many, words, words_all, depth, depths, Below, ValidL, Valid, Valids}
use Rattle.base_words.specs.Word.{word_of}
use Rattle.tree_expr.specs.Got.{Got, got}
use Rattle.tree_expr.specs.Reader.{raw_at, test_at, leaf_at, head_at, float_at, literal_body, literal_at, exprs_at, list_at, body_at, expr_at}
use Rattle.tree_expr.specs.Stands.{Wrote}
use Rattle.tree_expr.proofs.Laws.{pick_true, wrong_got, deep_got, bind_got, map_got, IsRaw, raw_got, IsLeaf, leaf_got, IsName, name_got, IsHead, head_got, list_got, got_16, got_17, got_18, got_19, got_20, got_21, got_22, got_23}
use Rattle.tree_expr.proofs.Parts.{wrote_none, wrote_cons, wrote_cat, word_is}

-- a number that is at least n: it is n, or more
pub at_least : (n k : ℕ) → n ≤ k → (k ≡ n) ⊎ (suc n ≤ k)
at_least n k h = elim (ℕ_discrete k n) [ yes e ↦ inl e | no f ↦ inr (omega arith) ]

-- a head, or a leaf, before other words
cons_head : {ws : List ℕ} {a b at k m end : ℕ} {xs : List ℕ} (K : ℕ) → IsHead ws a b at k m → k ≡ K → Wrote ws m xs end → Wrote ws at (word_of K 0 ∷ xs) end
cons_head {ws} {a} {b} {at} {k} {m} K h q r = wrote_cons h.inside (word_is _ K 0 (sym h.is ∙ q) h.pay) h.to r

-- a word that was read, and those after it
pub cons_leaf : {ws : List ℕ} {k n at x m end : ℕ} {xs : List ℕ} → IsLeaf ws k n at x m → Wrote ws m xs end → Wrote ws at (word_of k x ∷ xs) end
cons_leaf h r = wrote_cons h.inside (word_is _ _ _ h.kind (sym h.is)) h.to r

-- that word alone
pub one_leaf : {ws : List ℕ} {k n at x m : ℕ} → IsLeaf ws k n at x m → Wrote ws at (word_of k x ∷ []) m
one_leaf {ws} {k} {n} {at} {x} {m} h = cons_leaf h (wrote_none ws m (omega (arith, h.inside, h.to)))

-- its payload is below the bound
pub below_leaf : {ws : List ℕ} {k n at x m : ℕ} → IsLeaf ws k n at x m → Below n x
below_leaf {ws} {k} {n} {at} {x} {m} h = record { below = h.below; fits = omega (arith, h.is) }

-- a name's word that was read, and those after it
pub cons_name : {ws ns : List ℕ} {at x m end : ℕ} {xs : List ℕ} → IsName ws ns at x m → Wrote ws m xs end → Wrote ws at (word_of 2 x ∷ xs) end
cons_name h r = wrote_cons h.inside (word_is _ _ _ h.kind (sym h.is)) h.to r

-- that word alone
pub one_name : {ws ns : List ℕ} {at x m : ℕ} → IsName ws ns at x m → Wrote ws at (word_of 2 x ∷ []) m
one_name {ws} {ns} {at} {x} {m} h = cons_name h (wrote_none ws m (omega (arith, h.inside, h.to)))

-- its number is a name's
pub named_name : {ws ns : List ℕ} {at x m : ℕ} → IsName ws ns at x m → Named ns x
named_name {ws} {ns} {at} {x} {m} h = record { named = h.named; fits = omega (arith, h.is) }

cons_raw : {ws : List ℕ} {at x m end : ℕ} {xs : List ℕ} → IsRaw ws at x m → Wrote ws m xs end → Wrote ws at (x ∷ xs) end
cons_raw h r = wrote_cons h.inside (sym h.is) h.to r

test_got : {ws : List ℕ} (ok : ℕ → Bool) {at x m : ℕ} → test_at ws ok at ≡ got x m → IsRaw ws at x m × (ok x ≡ true)
unfolding test_at
test_got {ws} ok {at} {x} {m} e =
    let h1 = pick_true (ltb at (length ws)) e wrong_got in
    let h2 = pick_true (ok (get_or ws at 0)) h1.1 wrong_got in
    let e1 = h2.1 in
    let q : x ≡ get_or ws at 0 = cc in
    (record { inside = ltb-true at (length ws) h1.0; is = q; to = cc }, rw q h2.0)

-- a valid expression stands there, at most d deep
pub record Right (ws : List ℕ) (n : Strings) (d at : ℕ) (e : Expr) (end : ℕ) : Type 0 where
  pub wrote : Wrote ws at (words e) end
  pub valid : Valid n e
  pub deep : depth e ≤ d

-- so many do
pub record Rights (ws : List ℕ) (n : Strings) (d at : ℕ) (es : Exprs) (end count : ℕ) : Type 0 where
  pub wrote : Wrote ws at (words_all es) end
  pub valid : Valids n es
  pub deep : depths es ≤ d
  pub counted : many es ≡ count

raw_sound : {ws : List ℕ} {at m : ℕ} (x : ℕ) → raw_at ws at ≡ got x m → Wrote ws at (x ∷ []) m
raw_sound {ws} {at} {m} x h = let r = raw_got h in cons_raw r (wrote_none ws m (omega (arith, r.inside, r.to)))

float_sound : (ws : List ℕ) (f : ℕ → ℕ → Literal) (at : ℕ) {l : Literal} {end : ℕ} → float_at ws f at ≡ got l end → (a : ℕ) × (b : ℕ) × (l ≡ f a b) × Wrote ws at (a ∷ b ∷ []) end × (finite b ≡ true)
unfolding float_at
float_sound ws f at {l} {end} h =
    let v = bind_got (raw_at ws at) h in
    let w = map_got (f v.0) (test_at ws finite v.1) v.3 in
    let t = test_got finite w.1 in
    (v.0, w.0, w.2, cons_raw (raw_got v.2) (cons_raw t.0 (wrote_none ws end (omega (arith, t.0.inside, t.0.to)))), t.1)

lit_body_sound : (ws : List ℕ) (n at k m : ℕ) (l : Literal) (end : ℕ) → IsHead ws 24 28 at k m → literal_body ws n k m ≡ got l end → Wrote ws at (words_l l) end × ValidL n l
unfolding literal_body words_l ValidL
lit_body_sound ws n at k m l end H h =
    ⊎_elim (λ (q : k ≡ 24). let v = map_got Integer (raw_at ws m) (rw q at h) in rw v.2 (cons_head 24 H q (raw_sound v.0 v.1), tt)) (λ (h25 : 25 ≤ k).
    ⊎_elim (λ (q : k ≡ 25). let v = map_got Long (raw_at ws m) (rw q at h) in rw v.2 (cons_head 25 H q (raw_sound v.0 v.1), tt)) (λ (h26 : 26 ≤ k).
    ⊎_elim (λ (q : k ≡ 26). let v = float_sound ws Single m (rw q at h) in rw v.2 (cons_head 26 H q v.3, v.4)) (λ (h27 : 27 ≤ k).
    ⊎_elim (λ (q : k ≡ 27). let v = float_sound ws Float m (rw q at h) in rw v.2 (cons_head 27 H q v.3, v.4)) (λ (h28 : 28 ≤ k).
    let q : k ≡ 28 = le_antisymm H.upto h28 in
    let v = map_got Text (leaf_at ws 2 n m) (rw q at h) in
    let L = leaf_got v.1 in rw v.2 (cons_head 28 H q (one_leaf L), below_leaf L))
    (at_least 27 k h27)) (at_least 26 k h26)) (at_least 25 k h25)) (at_least 24 k H.from)

-- a literal that was read stands there, and is valid
pub lit_sound : (ws : List ℕ) (n at : ℕ) (l : Literal) (end : ℕ) → literal_at ws n at ≡ got l end → Wrote ws at (words_l l) end × ValidL n l
unfolding literal_at
lit_sound ws n at l end h =
    let v = bind_got (head_at ws 24 28 at) h in
    lit_body_sound ws n at v.0 v.1 l end (head_got v.2) v.3

module _ (ws : List ℕ) (n : Strings) (d : ℕ) (sub : ℕ → Got Expr) (S : (at : ℕ) (e : Expr) (end : ℕ) → sub at ≡ got e end → Right ws n d at e end) where
  -- so many expressions that were read stand there, are valid and not too deep
  pub exprs_sound : (count at : ℕ) (es : Exprs) (end : ℕ) → at ≤ length ws → exprs_at ws n sub count at ≡ got es end → Rights ws n d at es end count
  unfolding exprs_at words_all Valids depths many
  exprs_sound zero at es end i h =
      let e : es ≡ none = cc in
      let q : at ≡ end = cc in
      rw (e, ← q) (record { wrote = wrote_none ws at i; valid = tt; deep = omega arith; counted = refl })
  exprs_sound (suc c) at es end i h =
      let v = bind_got (sub at) h in
      let w = map_got _ (exprs_at ws n sub c v.1) v.3 in
      let E = S _ _ _ v.2 in
      let R = exprs_sound c v.1 w.0 end E.wrote.inside w.1 in
      rw w.2 (record { wrote = wrote_cat E.wrote R.wrote; valid = (E.valid, R.valid); deep = omega (arith, E.deep, R.deep); counted = rw R.counted (add-one c) })

  -- so does a list, and its count fits a payload
  pub list_sound : (at : ℕ) (es : Exprs) (end : ℕ) → list_at ws n sub at ≡ got es end → Wrote ws at (word_of 1 (many es) ∷ words_all es) end × (many es < 16777216) × Valids n es × (depths es ≤ d)
  list_sound at es end h =
      let v = list_got h in
      let H = leaf_got v.head in
      let R = exprs_sound v.count v.mid es end (omega (arith, H.inside, H.to)) v.items in
      rw R.counted (cons_leaf H R.wrote, H.below, R.valid, R.deep)

  body_sound : (at k m : ℕ) (e : Expr) (end : ℕ) → IsHead ws 16 23 at k m → body_at ws n sub k m ≡ got e end → Right ws n (suc d) at e end
  unfolding words Valid depth
  body_sound at k m e end H h =
      ⊎_elim (λ (q : k ≡ 16). let v = got_16 q h in let L = lit_sound ws n.count m v.lit end v.reads in
      rw v.is (record { wrote = cons_head 16 H q L.0; valid = L.1; deep = omega arith })) (λ (h17 : 17 ≤ k).
      ⊎_elim (λ (q : k ≡ 17). let v = got_17 q h in let L = name_got v.reads in
      rw v.is (record { wrote = cons_head 17 H q (one_name L); valid = named_name L; deep = omega arith })) (λ (h18 : 18 ≤ k).
      ⊎_elim (λ (q : k ≡ 18). let v = got_18 q h in let L = name_got v.reads in let R = list_sound v.mid v.items end v.list in
      rw v.is (record { wrote = cons_head 18 H q (cons_name L R.0); valid = (named_name L, R.1, R.2); deep = omega (arith, R.3) })) (λ (h19 : 19 ≤ k).
      ⊎_elim (λ (q : k ≡ 19). let v = got_19 q h in let L = leaf_got v.reads in let E = S _ _ _ v.inner in
      rw v.is (record { wrote = cons_head 19 H q (cons_leaf L E.wrote); valid = (below_leaf L, E.valid); deep = omega (arith, E.deep) })) (λ (h20 : 20 ≤ k).
      ⊎_elim (λ (q : k ≡ 20). let v = got_20 q h in let L = leaf_got v.reads in let E = S _ _ _ v.left in let F = S _ _ _ v.right in
      rw v.is (record { wrote = cons_head 20 H q (cons_leaf L (wrote_cat E.wrote F.wrote)); valid = (below_leaf L, E.valid, F.valid); deep = omega (arith, E.deep, F.deep) })) (λ (h21 : 21 ≤ k).
      ⊎_elim (λ (q : k ≡ 21). let v = got_21 q h in let L = name_got v.reads in let R = list_sound v.mid v.items end v.list in
      rw v.is (record { wrote = cons_head 21 H q (cons_name L R.0); valid = (named_name L, R.1, R.2); deep = omega (arith, R.3) })) (λ (h22 : 22 ≤ k).
      ⊎_elim (λ (q : k ≡ 22). let v = got_22 q h in let L = name_got v.reads in let E = S _ _ _ v.inner in
      rw v.is (record { wrote = cons_head 22 H q (wrote_cat E.wrote (one_name L)); valid = (E.valid, named_name L); deep = omega (arith, E.deep) })) (λ (h23 : 23 ≤ k).
      let v = got_23 (le_antisymm H.upto h23) h in let E = S _ _ _ v.inner in
      rw v.is (record { wrote = cons_head 23 H (le_antisymm H.upto h23) E.wrote; valid = E.valid; deep = omega (arith, E.deep) }))
      (at_least 22 k h22)) (at_least 21 k h21)) (at_least 20 k h20)) (at_least 19 k h19)) (at_least 18 k h18)) (at_least 17 k h17)) (at_least 16 k H.from)

-- so does an expression
pub sound : (ws : List ℕ) (n : Strings) (d at : ℕ) (e : Expr) (end : ℕ) → expr_at ws n d at ≡ got e end → Right ws n d at e end
unfolding expr_at
sound ws n zero at e end h = absurd (deep_got (bind_got (head_at ws 16 23 at) h).3)
sound ws n (suc d) at e end h =
    let v = bind_got (head_at ws 16 23 at) h in
    body_sound ws n d (expr_at ws n d) (sound ws n d) at v.0 v.1 e end (head_got v.2) v.3
