-- The first use of a name in an expression, itself before what stands in it. Assumes nothing.
use Prim.Native.Nat.{ℕ, zero, suc, ◌+◌, ◌<◌, ◌≤◌}
use native.Mathlib.Omega.{arith}
use mathlib.Core.Path.{◌≡◌, refl, sym, ap, ap₂, ◌∙◌}
use mathlib.Core.Logic.{◌⊎◌, inl, inr, ⊎_elim}
use mathlib.Core.Bool.{Bool, true, false}
use mathlib.Core.List.{List, [], ◌∷◌, ◌++◌}
use mathlib.Core.Option.{Option, none as nothing, some}
use lib.Dec.{eqb}
use lib.ListN.{length, get_or}
use Rattle.base_words.specs.Word.{word_of, kind_of, pay_of, pick}
use Rattle.tree_expr.specs.Expr.{Strings, Expr, Exprs, Lit, Var, Elem, Unary, Binary, Call, Field, Paren, none, more, many, words, words_all, Valid, Valids, kind_e}
use Rattle.tree_expr.specs.Stands.{Wrote, Stands, StandsAll}
use Rattle.tree_expr.proofs.Parts.{wrote_first, wrote_left, wrote_right, pay_is}
use Rattle.tree_expr.proofs.Nodes.{kind_of_lem}
use Rattle.std.specs.Prelude.{None}
use Rattle.tree_skip.specs.Shape.{SomeExpr, children}
use Rattle.tree_skip.specs.declared.Shape.{Shape}
use Rattle.tree_skip.proofs.Laws.{ShapedAt, inside}
use Rattle.collect_subscript_count.specs.Subscripts.{or_else, first_of, subscripted, in_expr, in_exprs}
use Rattle.collect_subscript_count.specs.Notes.{noted}
use Rattle.collect_subscript_count.specs.Code.{use_of, Marks, here_of, HereNotes, NotesExpr, SomeExprs, NotesExprs}
use Rattle.collect_subscript_count.proofs.Marks.{noted_same}

-- ---- one use or else another

-- the code's answer where no use was found
pub unused : use_of None ≡ nothing
unfolding use_of
unused = refl

-- where both answers are none, so is the answer
pub pick_none : (b : Bool) → pick {A = Option ℕ} b nothing nothing ≡ nothing
pick_none true = refl
pick_none false = refl

-- the first of three, taken together either way
pub or_else_assoc : (a b c : Option ℕ) → or_else (or_else a b) c ≡ or_else a (or_else b c)
unfolding or_else
or_else_assoc nothing b c = refl
or_else_assoc (some n) b c = refl

-- or else nothing
pub or_else_none : (a : Option ℕ) → or_else a nothing ≡ a
unfolding or_else
or_else_none nothing = refl
or_else_none (some n) = refl

-- the first in two lists, one after the other
pub first_of_append : {A : Type 0} (f : A → Option ℕ) (xs ys : List A) → first_of f (xs ++ ys) ≡ or_else (first_of f xs) (first_of f ys)
unfolding first_of or_else
first_of_append f [] ys = refl
first_of_append f (x ∷ xs) ys = ap (or_else (f x)) (first_of_append f xs ys) ∙ sym (or_else_assoc (f x) (first_of f xs) (first_of f ys))

-- ---- the use that an expression is

-- the first use in an expression: itself, or else in what stands in it
pub here_parts : (name : ℕ) (e : Expr) → in_expr name e ≡ or_else (here_of name e) (in_exprs name (children e))
unfolding in_expr in_exprs here_of children or_else
here_parts name (Lit l) = refl
here_parts name (Var x) = refl
here_parts name (Elem x es) = refl
here_parts name (Unary o e) = sym (or_else_none (in_expr name e))
here_parts name (Binary o l r) = ap (or_else (in_expr name l)) (sym (or_else_none (in_expr name r)))
here_parts name (Call x es) = refl
here_parts name (Field e x) = sym (or_else_none (in_expr name e))
here_parts name (Paren e) = sym (or_else_none (in_expr name e))

-- a name with its list, as the words have them
module _ {ws : List ℕ} {at : ℕ} (name : ℕ) {end : ℕ} where
  two : (k x : ℕ) (es : Exprs) → Wrote ws at (word_of k 0 ∷ word_of 2 x ∷ word_of 1 (many es) ∷ words_all es) end → x < 16777216 → many es < 16777216 → subscripted (eqb x name) (many es) ≡ subscripted (eqb (pay_of (get_or ws (at + 1) 0)) name) (pay_of (get_or ws (at + 2) 0))
  two k x es w a b =
      let f = wrote_first (wrote_first w).rest in
      let g = wrote_first f.rest in
      let p : at + 1 + 1 ≡ at + 2 = omega arith in
      let q : pay_of (get_or ws (at + 1) 0) ≡ x = ap pay_of f.is ∙ pay_is 2 x a in
      let r : pay_of (get_or ws (at + 2) 0) ≡ many es = ap (λ (i : ℕ). pay_of (get_or ws i 0)) (sym p) ∙ ap pay_of g.is ∙ pay_is 1 (many es) b in
      ap₂ (λ (y m : ℕ). subscripted (eqb y name) m) (sym q) (sym r)

  in_name : {n : Strings} {e : Expr} → (kind_of (get_or ws at 0) ≡ 18) ⊎ (kind_of (get_or ws at 0) ≡ 21) → Stands ws n at e end → here_of name e ≡ subscripted (eqb (pay_of (get_or ws (at + 1) 0)) name) (pay_of (get_or ws (at + 2) 0))
  unfolding words Valid kind_e here_of
  in_name {n} {e} k s = go e s.wrote s.valid (kind_of_lem s)
    where
      other : {A : Type 0} (j : ℕ) → kind_of (get_or ws at 0) ≡ j → (j ≡ 18 → ⊥) → (j ≡ 21 → ⊥) → A
      other j q a b = ⊎_elim (λ (p : kind_of (get_or ws at 0) ≡ 18). absurd (a (sym q ∙ p))) (λ (p : kind_of (get_or ws at 0) ≡ 21). absurd (b (sym q ∙ p))) k

      go : (e : Expr) → Wrote ws at (words e) end → Valid n e → kind_of (get_or ws at 0) ≡ kind_e e → here_of name e ≡ subscripted (eqb (pay_of (get_or ws (at + 1) 0)) name) (pay_of (get_or ws (at + 2) 0))
      go (Lit l) w v q = other 16 q (λ z. absurd (omega arith)) (λ z. absurd (omega arith))
      go (Var x) w v q = other 17 q (λ z. absurd (omega arith)) (λ z. absurd (omega arith))
      go (Elem x es) w v q = two 18 x es w v.0.fits v.1
      go (Unary o e) w v q = other 19 q (λ z. absurd (omega arith)) (λ z. absurd (omega arith))
      go (Binary o l r) w v q = other 20 q (λ z. absurd (omega arith)) (λ z. absurd (omega arith))
      go (Call x es) w v q = two 21 x es w v.0.fits v.1
      go (Field e x) w v q = other 22 q (λ z. absurd (omega arith)) (λ z. absurd (omega arith))
      go (Paren e) w v q = other 23 q (λ z. absurd (omega arith)) (λ z. absurd (omega arith))

-- an empty list is no use, whatever the name
subscripted_none : (b : Bool) → subscripted b 0 ≡ nothing
unfolding subscripted
subscripted_none true = refl
subscripted_none false = refl

subscripted_some : (b : Bool) (m : ℕ) → (m ≡ 0 → ⊥) → subscripted b m ≡ pick b (some m) nothing
unfolding subscripted
subscripted_some true zero z = absurd (z refl)
subscripted_some true (suc m) z = refl
subscripted_some false m z = refl

module _ {ws : List ℕ} {at k : ℕ} {before after : Marks} where
  -- an element or a call with an empty list is no use
  pub here_empty : (kind_of (get_or ws at 0) ≡ 18) ⊎ (kind_of (get_or ws at 0) ≡ 21) → pay_of (get_or ws (at + 2) 0) ≡ 0 → ((x : ℕ) → after x ≡ before x) → HereNotes ws at k before after
  unfolding noted
  here_empty l z q = record {
    gives = λ n e end s x.
        let b : Bool = eqb (pay_of (get_or ws (at + 1) 0)) x in
        let o : here_of x e ≡ nothing = in_name x l s ∙ ap (subscripted b) z ∙ subscripted_none b in
        q x ∙ ap (λ (o : Option ℕ). noted k o (before x)) (sym o);
  }

  -- one with a list is a use of its name
  pub here_list : (kind_of (get_or ws at 0) ≡ 18) ⊎ (kind_of (get_or ws at 0) ≡ 21) → (pay_of (get_or ws (at + 2) 0) ≡ 0 → ⊥) → ((x : ℕ) → after x ≡ noted k (pick (eqb (pay_of (get_or ws (at + 1) 0)) x) (some (pay_of (get_or ws (at + 2) 0))) nothing) (before x)) → HereNotes ws at k before after
  here_list l z q = record { gives = λ n e end s x. q x ∙ ap (λ (o : Option ℕ). noted k o (before x)) (sym (in_name x l s ∙ subscripted_some (eqb (pay_of (get_or ws (at + 1) 0)) x) (pay_of (get_or ws (at + 2) 0)) z)) }

  -- any other expression is none
  pub here_other : ((kind_of (get_or ws at 0) ≡ 18) ⊎ (kind_of (get_or ws at 0) ≡ 21) → ⊥) → ((x : ℕ) → after x ≡ before x) → HereNotes ws at k before after
  unfolding here_of kind_e noted
  here_other z q = record { gives = λ n e end s x. q x ∙ ap (λ (o : Option ℕ). noted k o (before x)) (go x e (kind_of_lem s)) }
    where
      go : (x : ℕ) (e : Expr) → kind_of (get_or ws at 0) ≡ kind_e e → nothing ≡ here_of x e
      go x (Lit l) q = refl
      go x (Var y) q = refl
      go x (Elem y es) q = absurd (z (inl q))
      go x (Unary o e) q = refl
      go x (Binary o l r) q = refl
      go x (Call y es) q = absurd (z (inr q))
      go x (Field e y) q = refl
      go x (Paren e) q = refl

-- ---- an expression, from its parts

-- as many expressions as its shape says stand after its first words
pub children_there : {ws : List ℕ} {at : ℕ} {r : Shape} → SomeExpr ws at → ShapedAt ws at r → SomeExprs ws (at + r.front) r.children
children_there {ws} {at} {r} A S =
    let s = A.stands in
    let h = S _ _ _ s in
    let i = inside s in
    let f = i.items in
    record { strings = A.strings; exprs = children A.expr; end = i.mid; stands = rw h.front_is f; counted = sym h.children_is }

-- itself, or else in its children; and it ends after their end
pub expr_done : {ws : List ℕ} {at k next : ℕ} {s : Shape} {before mid after : Marks} → ShapedAt ws at s → HereNotes ws at k before mid → NotesExprs ws (at + s.front) s.children k mid after next → NotesExpr ws at k before after (next + s.back)
expr_done {ws} {at} {k} {next} {s} {before} S H C = record {
  gives = λ n e end t.
      let p = S n e end t in
      let i = inside t in
      let f = i.items in
      let g = C.gives n (children e) i.mid (rw p.front_is f) (sym p.children_is) in (
        λ x.
            g.0 x
            ∙ ap (noted k (in_exprs x (children e))) (H.gives n e end t x)
            ∙ noted_same k (here_of x e) (in_exprs x (children e)) (before x)
            ∙ ap (λ (o : Option ℕ). noted k o (before x)) (sym (here_parts x e)),
        omega (arith, g.1, p.back_is, i.to),
      );
}

-- its last words are within the words
pub back_fits : {ws : List ℕ} {at k next : ℕ} {s : Shape} {before after : Marks} → SomeExpr ws at → ShapedAt ws at s → NotesExprs ws (at + s.front) s.children k before after next → next + s.back ≤ length ws
back_fits {ws} {at} {k} {next} {s} A S C =
    let t = A.stands in
    let p = S A.strings A.expr A.end t in
    let i = inside t in
    let f = i.items in
    let g = C.gives A.strings (children A.expr) i.mid (rw p.front_is f) (sym p.children_is) in
    omega (arith, g.1, p.back_is, i.to, t.wrote.inside)

-- ---- so many expressions

-- some are left: what they note comes to what all note
record ExprsLeft (ws : List ℕ) (n : Strings) (k : ℕ) (es : Exprs) (at end a i : ℕ) (before now : Marks) : Type 0 where
  left : Exprs
  there : StandsAll ws n a left end
  few : many left + i ≡ many es
  from : at ≤ a
  is : (x : ℕ) → noted k (in_exprs x left) (now x) ≡ noted k (in_exprs x es) (before x)

-- i of c walked, up to a
pub record ExprsRead (ws : List ℕ) (at c k : ℕ) (before now : Marks) (a i : ℕ) : Type 0 where
  gives : (n : Strings) (es : Exprs) (end : ℕ) → StandsAll ws n at es end → many es ≡ c → ExprsLeft ws n k es at end a i before now

-- none is walked
pub exprs_start : (ws : List ℕ) (at c k : ℕ) (before : Marks) → ExprsRead ws at c k before before at 0
exprs_start ws at c k before = record { gives = λ n es end s q. record { left = es; there = s; few = omega arith; from = omega arith; is = λ x. refl } }

-- the next one
record ExprsSplit (ws : List ℕ) (n : Strings) (es : Exprs) (a end : ℕ) : Type 0 where
  head : Expr
  mid : ℕ
  tail : Exprs
  there : Stands ws n a head mid
  next : StandsAll ws n mid tail end
  few : many es ≡ many tail + 1
  is : (x : ℕ) → in_exprs x es ≡ or_else (in_expr x head) (in_exprs x tail)

exprs_split : {ws : List ℕ} {n : Strings} {es : Exprs} {a end : ℕ} → 0 < many es → StandsAll ws n a es end → ExprsSplit ws n es a end
unfolding words_all Valids many in_exprs
exprs_split {es = none} z s = absurd (omega arith)
exprs_split {es = more e es} z s = record { head = e; mid = _; tail = es; there = record { wrote = wrote_left (words e) (words_all es) s.wrote; valid = s.valid.0 }; next = record { wrote = wrote_right (words e) s.wrote; valid = s.valid.1 }; few = refl; is = λ x. refl }

-- the next one stands where the last one ended
pub next_expr : {ws : List ℕ} {at c k a i : ℕ} {before now : Marks} → SomeExprs ws at c → ExprsRead ws at c k before now a i → i < c → SomeExpr ws a × (at ≤ a)
next_expr A R h =
    let L = R.gives _ _ _ A.stands A.counted in
    let S = exprs_split (omega (arith, L.few, A.counted)) L.there in
    (record { strings = A.strings; expr = S.head; end = S.mid; stands = S.there }, L.from)

-- one more walked
pub exprs_step : {ws : List ℕ} {at c k a i a' : ℕ} {before now after : Marks} → ExprsRead ws at c k before now a i → i < c → NotesExpr ws a k now after a' → ExprsRead ws at c k before after a' (i + 1)
exprs_step {k = k} {now = now} {after} R h E = record {
  gives = λ n es end t q.
      let L = R.gives n es end t q in
      let S = exprs_split (omega (arith, L.few, q)) L.there in
      let g = E.gives n S.head S.mid S.there in
      let w = S.there in
      record {
        left = S.tail;
        there = rw g.1 S.next;
        few = omega (arith, L.few, S.few);
        from = omega (arith, L.from, g.1, w.wrote.span);
        is = λ x.
            ap (noted k (in_exprs x S.tail)) (g.0 x)
            ∙ noted_same k (in_expr x S.head) (in_exprs x S.tail) (now x)
            ∙ ap (λ (o : Option ℕ). noted k o (now x)) (sym (S.is x))
            ∙ L.is x;
      };
}

-- all are walked
pub exprs_done : {ws : List ℕ} {at c k a i : ℕ} {before after : Marks} → ExprsRead ws at c k before after a i → c ≤ i → NotesExprs ws at c k before after a
unfolding words_all many in_exprs noted
exprs_done {ws} {at} {c} {k} {a} {i} {before} {after} R h = record { gives = λ n es end t q. let L = R.gives n es end t q in go n es end L.left L.there (omega (arith, L.few, q)) L.is }
  where
    go : (n : Strings) (es : Exprs) (end : ℕ) (left : Exprs) → StandsAll ws n a left end → many left ≡ 0 → ((x : ℕ) → noted k (in_exprs x left) (after x) ≡ noted k (in_exprs x es) (before x)) → ((x : ℕ) → after x ≡ noted k (in_exprs x es) (before x)) × (a ≡ end)
    go n es end none t z q = (q, omega (arith, t.wrote.span))
    go n es end (more e es') t z q = absurd (omega arith)
