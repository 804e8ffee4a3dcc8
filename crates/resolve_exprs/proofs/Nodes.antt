-- What stands inside an expression that stands at a place, and how many words stand around its children. Assumes nothing.
use Prim.Native.Nat.{ℕ, ◌+◌, ◌≤◌, ◌<◌}
use native.Mathlib.Omega.{arith}
use mathlib.Core.Path.{◌≡◌, refl, sym, ap, subst, ◌∙◌}
use mathlib.Core.List.{List, ◌∷◌, ◌++◌, append-nil}
use lib.ListN.{length, get_or}
use Rattle.base_words.specs.Word.{word_of, kind_of, pay_of}
use Rattle.tree_expr.specs.Expr.{Strings, Expr, Lit, Var, Elem, Unary, Binary, Call, Field, Paren, Exprs, many, words, words_all, words_l, Valid, kind_e}
use Rattle.tree_expr.specs.Stands.{Wrote, Stands, StandsAll}
use Rattle.tree_expr.proofs.Parts.{wrote_first, wrote_left, wrote_right, pay_is}
use Rattle.tree_expr.proofs.Nodes.{within, kind_of_lem}
use Rattle.tree_skip.specs.Shape as N
use Rattle.tree_skip.specs.Shape.{children, Shaped}
use Rattle.tree_skip.specs.declared.Shape.{Shape}
use Rattle.tree_skip.proofs.Laws as S
use Rattle.resolve_exprs.specs.Node.{front, back}

-- the words of a node, in three parts
pub node : (e : Expr) → words e ≡ front e ++ (words_all (children e) ++ back e)
unfolding words words_all front children back
node (Lit l) = sym (append-nil (word_of 16 0 ∷ words_l l))
node (Var x) = refl
node (Elem x es) = ap (λ (l : List ℕ). word_of 18 0 ∷ word_of 2 x ∷ word_of 1 (many es) ∷ l) (sym (append-nil (words_all es)))
node (Unary o e) = ap (λ (l : List ℕ). word_of 19 0 ∷ word_of 9 o ∷ l) (simp append-nil)
node (Binary o e d) = ap (λ (l : List ℕ). word_of 20 0 ∷ word_of 9 o ∷ l) (simp append-nil)
node (Call x es) = ap (λ (l : List ℕ). word_of 21 0 ∷ word_of 2 x ∷ word_of 1 (many es) ∷ l) (sym (append-nil (words_all es)))
node (Field e x) = ap (λ (l : List ℕ). word_of 22 0 ∷ l) (simp append-nil)
node (Paren e) = ap (λ (l : List ℕ). word_of 23 0 ∷ l) (simp append-nil)

-- its children stand after the front, and its back after them
pub record Inside (ws : List ℕ) (n : Strings) (at : ℕ) (e : Expr) (end : ℕ) : Type 0 where
  pub mid : ℕ
  pub there : StandsAll ws n (at + length (front e)) (children e) mid
  pub behind : Wrote ws mid (back e) end

-- so it is of an expression that stands there
pub inside : {ws : List ℕ} {n : Strings} {at : ℕ} {e : Expr} {end : ℕ} → Stands ws n at e end → Inside ws n at e end
inside {ws} {n} {at} {e} {end} s =
    let w : Wrote ws at (front e ++ (words_all (children e) ++ back e)) end = rw (node e) at s.wrote in
    let r = wrote_right (front e) w in
    record { mid = _; there = record { wrote = wrote_left (words_all (children e)) (back e) r; valid = (S.inside s).items.valid }; behind = wrote_right (words_all (children e)) r }

-- the words around the children are as many as the shape says
front_long : (e : Expr) → N.front e ≡ length (front e)
unfolding N.front front
front_long (Lit l) = omega (arith, S.literal_long l)
front_long (Var x) = refl
front_long (Elem x es) = refl
front_long (Unary o e) = refl
front_long (Binary o e d) = refl
front_long (Call x es) = refl
front_long (Field e x) = refl
front_long (Paren e) = refl

back_long : (e : Expr) → N.back e ≡ length (back e)
unfolding N.back back
back_long (Lit l) = refl
back_long (Var x) = refl
back_long (Elem x es) = refl
back_long (Unary o e) = refl
back_long (Binary o e d) = refl
back_long (Call x es) = refl
back_long (Field e x) = refl
back_long (Paren e) = refl

-- how many words stand before the children
pub before : {e : Expr} {s : Shape} → Shaped e s → s.front ≡ length (front e)
before {e} h = h.front_is ∙ front_long e

-- how many after them
pub after : {e : Expr} {s : Shape} → Shaped e s → s.back ≡ length (back e)
after {e} h = h.back_is ∙ back_long e

-- it ends after its place, within the words
pub moves : {ws : List ℕ} {n : Strings} {at : ℕ} {e : Expr} {end : ℕ} → Stands ws n at e end → (at < end) × (end ≤ length ws)
moves s = let w = within s in (w.moves, w.inside)

-- ---- a call, and a pair

-- what stands after the head of a call, or of a CALL: a name, the head of a list and the arguments
pub record Called (ws : List ℕ) (n : Strings) (at end : ℕ) : Type 0 where
  pub name : ℕ
  pub args : Exprs
  pub called : get_or ws (at + 1) 0 ≡ word_of 2 name
  pub listed : get_or ws (at + 2) 0 ≡ word_of 1 (many args)
  pub small : name < 16777216
  pub few : many args < 16777216
  pub there : StandsAll ws n (at + 3) args end

module _ {ws : List ℕ} {n : Strings} {at end : ℕ} (C : Called ws n at end) where
  -- the word after the head has the name
  pub name_is : pay_of (get_or ws (at + 1) 0) ≡ C.name
  name_is = ap pay_of C.called ∙ pay_is 2 C.name C.small

  -- the word after that has the number of members
  pub many_is : many C.args ≡ pay_of (get_or ws (at + 2) 0)
  many_is = sym (ap pay_of C.listed ∙ pay_is 1 (many C.args) C.few)

  -- these three words are inside
  pub head_inside : at + 3 ≤ length ws
  head_inside = let s = C.there in omega (arith, s.wrote.span, s.wrote.inside)

-- a call: its name, its list's head, and its arguments
pub record InCall (ws : List ℕ) (n : Strings) (at : ℕ) (e : Expr) (end : ℕ) : Type 0 where
  pub parts : Called ws n at end
  pub is : e ≡ Call parts.name parts.args

-- 21: a name, a list's head, and the arguments
pub in_call : {ws : List ℕ} {n : Strings} {at : ℕ} {e : Expr} {end : ℕ} → kind_of (get_or ws at 0) ≡ 21 → Stands ws n at e end → InCall ws n at e end
unfolding words Valid kind_e
in_call {ws} {n} {at} {e} {end} q s = go e (sym (kind_of_lem s) ∙ q) s.wrote s.valid
  where
    go : (e : Expr) → kind_e e ≡ 21 → Wrote ws at (words e) end → Valid n e → InCall ws n at e end
    go (Lit l) k w v = absurd (omega (arith, k))
    go (Var x) k w v = absurd (omega (arith, k))
    go (Elem x es) k w v = absurd (omega (arith, k))
    go (Unary o e) k w v = absurd (omega (arith, k))
    go (Binary o e d) k w v = absurd (omega (arith, k))
    go (Call x es) k w v =
        let f = wrote_first w in
        let g = wrote_first f.rest in
        let h = wrote_first g.rest in
        let p : at + 1 + 1 ≡ at + 2 = omega arith in
        let r : at + 1 + 1 + 1 ≡ at + 3 = omega arith in
        record { parts = record { name = x; args = es; called = g.is; listed = ap (λ (i : ℕ). get_or ws i 0) (sym p) ∙ h.is; small = v.0.fits; few = v.1; there = record { wrote = subst (λ (i : ℕ). Wrote ws i (words_all es) end) r h.rest; valid = v.2 } }; is = refl }
    go (Field e x) k w v = absurd (omega (arith, k))
    go (Paren e) k w v = absurd (omega (arith, k))

-- a pair: the expression in it
pub record InPair (ws : List ℕ) (n : Strings) (at : ℕ) (e : Expr) (end : ℕ) : Type 0 where
  pub arg : Expr
  pub is : e ≡ Paren arg
  pub there : Stands ws n (at + 1) arg end

-- 23: an expression in parentheses
pub in_pair : {ws : List ℕ} {n : Strings} {at : ℕ} {e : Expr} {end : ℕ} → kind_of (get_or ws at 0) ≡ 23 → Stands ws n at e end → InPair ws n at e end
unfolding words Valid kind_e
in_pair {ws} {n} {at} {e} {end} q s = go e (sym (kind_of_lem s) ∙ q) s.wrote s.valid
  where
    go : (e : Expr) → kind_e e ≡ 23 → Wrote ws at (words e) end → Valid n e → InPair ws n at e end
    go (Lit l) k w v = absurd (omega (arith, k))
    go (Var x) k w v = absurd (omega (arith, k))
    go (Elem x es) k w v = absurd (omega (arith, k))
    go (Unary o e) k w v = absurd (omega (arith, k))
    go (Binary o e d) k w v = absurd (omega (arith, k))
    go (Call x es) k w v = absurd (omega (arith, k))
    go (Field e x) k w v = absurd (omega (arith, k))
    go (Paren e) k w v = record { arg = e; is = refl; there = record { wrote = (wrote_first w).rest; valid = v } }
