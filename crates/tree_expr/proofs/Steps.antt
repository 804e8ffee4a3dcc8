-- Between what the definition gives and the answer of the code, which leaves the tree out. Assumes nothing.
use Prim.Native.Nat.{ℕ, zero, suc, ◌+◌, ◌<◌, ◌≤◌, ◌-◌}
use mathlib.Core.Path.{◌≡◌, refl, sym, ap, ◌∙◌}
use mathlib.Core.List.{List}
use mathlib.Core.Logic.{◌⊎◌, inl, inr, ⊎_elim}
use native.Mathlib.Omega.{arith}
use native.Mathlib.Numerals.{sub-one}
use native.Mathlib.Decide.{ℕ_discrete}
use lib.ListN.{get_or}
use Rattle.tree_expr.specs.Got.{Got, got, wrong, deep, bind}
use Rattle.base_words.specs.Word.{kind_of, pay_of}
use Rattle.tree_expr.specs.Expr.{Strings, finite, Literal, Single, Expr}
use Rattle.tree_expr.specs.Reader.{raw_at, test_at, leaf_at, name_at, head_at, float_at, literal_body, literal_at, exprs_at, list_at, body_at, expr_at}
use Rattle.tree_expr.proofs.Laws.{IsHead, head_got, IsLeaf, leaf_got}
use Rattle.tree_expr.specs.Answer.{step_of, then, Step}
use Rattle.tree_expr.specs.declared.Cursor.{Cursor}
use Rattle.std.specs.Prelude.{Ok, Err}
use Rattle.std.specs.Result.{IsErrAnd}
use Rattle.std.proofs.lemmas.Result.{err_from_is_err_and}
use Rattle.tree_expr.specs.declared.Misread.{Misread}
use Rattle.tree_expr.specs.declared.Misread.TheVariants.{Wrong, Deep}

-- what the last reading is made into does not show in the answer
pub step_map : {A B : Type 0} (f : A → B) (p : Got A) → step_of (bind p (λ a m. got (f a) m)) ≡ step_of p
unfolding bind step_of
step_map f (got a m) = refl
step_map f (wrong p) = refl
step_map f (deep p) = refl

-- an answer `Read` comes from a value
pub read : {A : Type 0} (p : Got A) {s : Step} {c : Cursor} → s ≡ step_of p → s ≡ Ok c → (a : A) × (p ≡ got a c.at)
unfolding step_of
read (got a m) {s} {c} e r = (a, ap (got a) (cc))
read (wrong p) e r = cc
read (deep p) e r = cc

-- a `?` hands an `Err` on as it is
pub hands_on : {r : Step} {m : Misread} → IsErrAnd r (λ x. x ≡ m) → r ≡ Err m
hands_on {r} h = let p = err_from_is_err_and r h in p.1 ∙ ap Err p.2

-- any other answer is the whole's
pub stop : {A B : Type 0} (p : Got A) (k : A → ℕ → Got B) {s r : Step} {m : Misread} → s ≡ step_of p → s ≡ Err m → IsErrAnd r (λ x. x ≡ m) → r ≡ step_of (bind p k)
unfolding bind step_of
stop (got a at) k e t h = cc
stop (wrong p) k e t h = hands_on h ∙ sym t ∙ e
stop (deep p) k e t h = hands_on h ∙ sym t ∙ e

-- after an answer `Read` the next reading decides
pub next : {A B : Type 0} (p : Got A) (k : A → ℕ → Got B) {s r : Step} {c : Cursor} → s ≡ step_of p → s ≡ Ok c → ((a : A) → p ≡ got a c.at → r ≡ step_of (k a c.at)) → r ≡ step_of (bind p k)
unfolding bind
next p k {s} {r} {c} e q f =
    let v : (a : _) × (p ≡ got a c.at) = read p e q in
    f v.0 v.1 ∙ sym (ap (λ x. step_of (bind x k)) v.1)

-- the last reading, made into something
pub last : {A B : Type 0} (f : A → B) (p : Got A) {r : Step} → r ≡ step_of p → r ≡ step_of (bind p (λ a m. got (f a) m))
last f p e = e ∙ sym (step_map f p)

-- what an answer `Read` says of a head, and of a leaf
pub head_read : {ws : List ℕ} {a b at : ℕ} {s : Step} {c : Cursor} → s ≡ step_of (head_at ws a b at) → s ≡ Ok c → IsHead ws a b at (kind_of (get_or ws at 0)) c.at
head_read {ws} {a} {b} {at} {s} {c} e q =
    let v = read (head_at ws a b at) e q in
    let h : IsHead ws a b at v.0 c.at = head_got v.1 in
    rw h.is at h

-- of a leaf: it is a word of that kind, and its payload is below the bound
pub leaf_read : {ws : List ℕ} {k n at : ℕ} {s : Step} {c : Cursor} → s ≡ step_of (leaf_at ws k n at) → s ≡ Ok c → IsLeaf ws k n at (pay_of (get_or ws at 0)) c.at
leaf_read {ws} {k} {n} {at} {s} {c} e q =
    let v = read (leaf_at ws k n at) e q in
    let h : IsLeaf ws k n at v.0 c.at = leaf_got v.1 in
    rw h.is at h

-- after a head, or a leaf, the word's own kind, or payload, is what was read
pub next_head : {B : Type 0} (ws : List ℕ) (a b at : ℕ) (k : ℕ → ℕ → Got B) {s r : Step} {c : Cursor} → s ≡ step_of (head_at ws a b at) → s ≡ Ok c → r ≡ step_of (k (kind_of (get_or ws at 0)) c.at) → r ≡ step_of (bind (head_at ws a b at) k)
next_head ws a b at k {s} {r} {c} e q h = next (head_at ws a b at) k e q (λ x p. rw (head_got p).is h)

-- after a leaf
pub next_leaf : {B : Type 0} (ws : List ℕ) (i n at : ℕ) (k : ℕ → ℕ → Got B) {s r : Step} {c : Cursor} → s ≡ step_of (leaf_at ws i n at) → s ≡ Ok c → r ≡ step_of (k (pay_of (get_or ws at 0)) c.at) → r ≡ step_of (bind (leaf_at ws i n at) k)
next_leaf ws i n at k {s} {r} {c} e q h = next (leaf_at ws i n at) k e q (λ x p. rw (leaf_got p).is h)

-- one of two numbers
pub either : (n k : ℕ) → n ≤ k → k < n + 2 → (k ≡ n) ⊎ (k ≡ n + 1)
either n k a b = elim (ℕ_discrete k n) [ yes p ↦ inl p | no q ↦ inr (omega arith) ]

-- a number that is at least n, and is not n
pub past : (n k : ℕ) → n ≤ k → (k ≡ n → ⊥) → suc n ≤ k
past n k a b = omega arith

-- the answer for two words does not show what they are made into
pub float_any : (ws : List ℕ) (m : ℕ) (f g : ℕ → ℕ → Literal) → step_of (float_at ws f m) ≡ step_of (float_at ws g m)
unfolding float_at bind
float_any ws m f g = go (raw_at ws m)
  where
    go : (p : Got ℕ) → step_of (bind p (λ a m. bind (test_at ws finite m) (λ b m'. got (f a b) m'))) ≡ step_of (bind p (λ a m. bind (test_at ws finite m) (λ b m'. got (g a b) m')))
    go (got a m) = step_map (f a) (test_at ws finite m) ∙ sym (step_map (g a) (test_at ws finite m))
    go (wrong p) = refl
    go (deep p) = refl

module _ (ws : List ℕ) (n k m : ℕ) {r : Step} where
  -- 24 or 25: one raw word
  pub lit_raw : 24 ≤ k → k < 26 → r ≡ step_of (raw_at ws m) → r ≡ step_of (literal_body ws n k m)
  unfolding literal_body
  lit_raw a b h = ⊎_elim (λ (e : k ≡ 24). rw e (last _ _ h)) (λ (e : k ≡ 25). rw e (last _ _ h)) (either 24 k a b)

  -- 26 or 27: two words, the high one of a finite float
  pub lit_float : 26 ≤ k → k < 28 → r ≡ step_of (float_at ws Single m) → r ≡ step_of (literal_body ws n k m)
  unfolding literal_body
  lit_float a b h = ⊎_elim (λ (e : k ≡ 26). rw e h) (λ (e : k ≡ 27). rw e (h ∙ float_any _ _ _ _)) (either 26 k a b)

  -- 28: a string's number
  pub lit_text : k ≡ 28 → r ≡ step_of (leaf_at ws 2 n m) → r ≡ step_of (literal_body ws n k m)
  unfolding literal_body
  lit_text e h = rw e (last _ _ h)

-- a sequence of readings, as a sequence of answers
pub step_bind : {A B : Type 0} (p : Got A) (k : A → ℕ → Got B) (f : ℕ → Step) → ((a : A) (m : ℕ) → step_of (k a m) ≡ f m) → step_of (bind p k) ≡ then (step_of p) f
unfolding bind step_of then
step_bind (got a m) k f h = h a m
step_bind (wrong p) k f h = refl
step_bind (deep p) k f h = refl

-- the first answer is Read: the second decides
pub on : {S : Step} (f : ℕ → Step) {s r : Step} {c : Cursor} → s ≡ S → s ≡ Ok c → r ≡ f c.at → r ≡ then S f
unfolding then
on {S} f {s} {r} {c} e q h = h ∙ ap (λ x. then x f) (sym q ∙ e)

-- it is any other: that is the answer
pub halt : {S : Step} (f : ℕ → Step) {s r : Step} {m : Misread} → s ≡ S → s ≡ Err m → IsErrAnd r (λ x. x ≡ m) → r ≡ then S f
unfolding then
halt f {m = Wrong p} e t h = hands_on h ∙ ap (λ x. then x f) (sym t ∙ e)
halt f {m = Deep p} e t h = hands_on h ∙ ap (λ x. then x f) (sym t ∙ e)

-- an expression: its head, then by its kind
pub expr_stop : (ws : List ℕ) (n : Strings) (left at : ℕ) {s r : Step} {m : Misread} → s ≡ step_of (head_at ws 16 23 at) → s ≡ Err m → IsErrAnd r (λ x. x ≡ m) → r ≡ step_of (expr_at ws n left at)
unfolding expr_at
expr_stop ws n zero at e t h = stop _ _ e t h
expr_stop ws n (suc d) at e t h = stop _ _ e t h

-- behind the head, with one level less
pub expr_body : (ws : List ℕ) (n : Strings) (left at : ℕ) {s : Step} {c : Cursor} {r : Step} → (left ≡ 0 → ⊥) → s ≡ step_of (head_at ws 16 23 at) → s ≡ Ok c → r ≡ step_of (body_at ws n (expr_at ws n (left - 1)) (kind_of (get_or ws at 0)) c.at) → r ≡ step_of (expr_at ws n left at)
unfolding expr_at
expr_body ws n zero at z e q h = absurd (z refl)
expr_body ws n (suc d) at z e q h = next_head ws 16 23 at _ e q (rw sub-one at h)

module _ (ws : List ℕ) (n : Strings) (left at : ℕ) {s : Step} where
  -- a head where no level is left is too deep
  pub expr_deep : {c : Cursor} → left ≡ 0 → s ≡ step_of (head_at ws 16 23 at) → s ≡ Ok c → Err (Deep at) ≡ step_of (expr_at ws n left at)
  unfolding expr_at step_of
  expr_deep z e q = rw z (next_head ws 16 23 at _ e q refl)

module _ (ws : List ℕ) (n : Strings) (sub : ℕ → Got Expr) (k m : ℕ) {r : Step} where
  -- 16: a literal
  pub body_16 : k ≡ 16 → r ≡ step_of (literal_at ws n.count m) → r ≡ step_of (body_at ws n sub k m)
  unfolding body_at
  body_16 e h = rw e (last _ _ h)

  -- 17: a name
  pub body_17 : k ≡ 17 → r ≡ step_of (name_at ws n.names m) → r ≡ step_of (body_at ws n sub k m)
  unfolding body_at
  body_17 e h = rw e (last _ _ h)

  -- 18 or 21: a name, then a list
  pub body_18 : (k ≡ 18) ⊎ (k ≡ 21) → r ≡ then (step_of (name_at ws n.names m)) (λ m'. step_of (list_at ws n sub m')) → r ≡ step_of (body_at ws n sub k m)
  unfolding body_at
  body_18 (inl e) h = rw e (h ∙ sym (step_bind _ _ _ (λ x m'. step_map _ _)))
  body_18 (inr e) h = rw e (h ∙ sym (step_bind _ _ _ (λ x m'. step_map _ _)))

  -- 19: an operator, then an expression
  pub body_19 : k ≡ 19 → r ≡ then (step_of (leaf_at ws 9 2 m)) (λ m'. step_of (sub m')) → r ≡ step_of (body_at ws n sub k m)
  unfolding body_at
  body_19 e h = rw e (h ∙ sym (step_bind _ _ _ (λ x m'. step_map _ _)))

  -- 20: an operator, then two expressions
  pub body_20 : k ≡ 20 → r ≡ then (step_of (leaf_at ws 9 18 m)) (λ m'. then (step_of (sub m')) (λ m''. step_of (sub m''))) → r ≡ step_of (body_at ws n sub k m)
  unfolding body_at
  body_20 e h = rw e (h ∙ sym (step_bind _ _ _ (λ x m'. step_bind _ _ _ (λ y m''. step_map _ _))))

  -- 22: an expression, then a name
  pub body_22 : k ≡ 22 → r ≡ then (step_of (sub m)) (λ m'. step_of (name_at ws n.names m')) → r ≡ step_of (body_at ws n sub k m)
  unfolding body_at
  body_22 e h = rw e (h ∙ sym (step_bind _ _ _ (λ x m'. step_map _ _)))

  -- 23: an expression
  pub body_23 : k ≡ 23 → r ≡ step_of (sub m) → r ≡ step_of (body_at ws n sub k m)
  unfolding body_at
  body_23 e h = rw e (last _ _ h)

-- so many expressions
pub exprs_none : (ws : List ℕ) (n : Strings) (sub : ℕ → Got Expr) (count : ℕ) (c : Cursor) → count ≤ 0 → step_of (exprs_at ws n sub count c.at) ≡ Ok c
unfolding exprs_at step_of
exprs_none ws n sub zero c z = refl
exprs_none ws n sub (suc k) c z = absurd (omega arith)

-- one expression, and then the others
pub exprs_more : (ws : List ℕ) (n : Strings) (sub : ℕ → Got Expr) (count m : ℕ) → 0 < count → step_of (exprs_at ws n sub count m) ≡ then (step_of (sub m)) (λ m'. step_of (exprs_at ws n sub (count - 1) m'))
unfolding exprs_at
exprs_more ws n sub zero m z = absurd (omega arith)
exprs_more ws n sub (suc k) m z = rw sub-one (step_bind _ _ _ (λ x m'. step_map _ _))

-- the same where i of them are read already
pub exprs_next : (ws : List ℕ) (n : Strings) (sub : ℕ → Got Expr) (count i m : ℕ) → i < count → step_of (exprs_at ws n sub (count - i) m) ≡ then (step_of (sub m)) (λ m'. step_of (exprs_at ws n sub (count - (i + 1)) m'))
exprs_next ws n sub count i m h =
    let e : count - (i + 1) ≡ count - i - 1 = omega arith in
    rw e (exprs_more ws n sub (count - i) m (omega arith))
