-- Where an expression's children stand, its shape by the kind of its head, and what is left of them at each turn of stepping over it. Assumes nothing.
use Prim.Native.Nat.{ℕ, ◌+◌, ◌<◌, ◌≤◌}
use mathlib.Core.Path.{◌≡◌, refl, sym, ap, subst, ◌∙◌}
use mathlib.Core.Logic.{◌⊎◌, inl, inr, ⊎_elim}
use mathlib.Core.Bool.{Bool, true, false}
use mathlib.Core.List.{List, [], ◌∷◌}
use native.Mathlib.Omega.{arith}
use lib.ListN.{length, get_or}
use lib.Dec.{eqb}
use Rattle.base_words.specs.Word.{word_of, pick, kind_of, pay_of}
use Rattle.tree_expr.specs.Expr.{Strings, Literal, Integer, Long, Single, Float, Text, Expr, Exprs, Lit, Var, Elem, Unary, Binary, Call, Field, Paren, none, more, many, words, words_all, words_l, Valid, Valids, kind_e, kind_l}
use Rattle.tree_expr.specs.Stands.{Wrote, Stands, StandsAll}
use Rattle.tree_expr.proofs.Laws.{got_17}
use Rattle.tree_expr.proofs.Parts.{wrote_none, wrote_at, wrote_cat, wrote_first, wrote_left, wrote_right}
use Rattle.tree_expr.proofs.Nodes.{node, within, kind_of_lem, in_lit, in_elem, in_unary, in_binary, in_field}
use Rattle.tree_skip.specs.Shape.{SomeExpr, literal_words, front, children, back, Shaped}
use Rattle.tree_skip.specs.declared.Shape.{Shape}

-- ---- where the children stand

-- a literal has as many words as its kind says
pub literal_long : (l : Literal) → length (words_l l) ≡ literal_words (kind_l l)
unfolding words_l literal_words kind_l
literal_long (Integer a) = refl
literal_long (Long a) = refl
literal_long (Single a b) = refl
literal_long (Float a b) = refl
literal_long (Text s) = refl

literal_some : (k : ℕ) → 2 ≤ literal_words k
unfolding literal_words
literal_some k = go (eqb k 26) (eqb k 27)
  where
    go : (a b : Bool) → 2 ≤ pick a 3 (pick b 3 2)
    go true b = omega arith
    go false true = omega arith
    go false false = omega arith

-- these are at most three
pub literal_few : (k : ℕ) → literal_words k ≤ 3
unfolding literal_words
literal_few k = go (eqb k 26) (eqb k 27)
  where
    go : (a b : Bool) → pick a 3 (pick b 3 2) ≤ 3
    go true b = omega arith
    go false true = omega arith
    go false false = omega arith

words_some : (e : Expr) → 1 ≤ length (words e)
unfolding words
words_some (Lit l) = omega arith
words_some (Var x) = omega arith
words_some (Elem x es) = omega arith
words_some (Unary o e) = omega arith
words_some (Binary o l r) = omega arith
words_some (Call x es) = omega arith
words_some (Field e x) = omega arith
words_some (Paren e) = omega arith

-- between the words before them and those after
pub record Inside (ws : List ℕ) (n : Strings) (at : ℕ) (e : Expr) (end : ℕ) : Type 0 where
  pub mid : ℕ
  pub items : StandsAll ws n (at + front e) (children e) mid
  pub to : mid + back e ≡ end

module _ (ws : List ℕ) (n : Strings) where
  -- no children: the words before them are all
  alone : (at long end : ℕ) → at + long ≡ end → end ≤ length ws → StandsAll ws n (at + long) none end
  unfolding words_all Valids
  alone at long end p h = record { wrote = rw p (wrote_none ws end h); valid = tt }

  one_child : {at : ℕ} (e : Expr) {end : ℕ} → Wrote ws at (words e) end → Valid n e → StandsAll ws n at (more e none) end
  unfolding words_all Valids
  one_child e {end} w v = record { wrote = wrote_cat w (wrote_none ws end w.inside); valid = (v, tt) }

  inside_of : (e : Expr) (at end : ℕ) → Wrote ws at (words e) end → Valid n e → Inside ws n at e end
  unfolding words words_all Valid Valids front children back
  inside_of (Lit l) at end w v =
      let p : at + (1 + literal_words (kind_l l)) ≡ end = omega (arith, w.span, literal_long l) in
      record { mid = end; items = alone at (1 + literal_words (kind_l l)) end p w.inside; to = omega arith }
  inside_of (Var x) at end w v =
      let p : at + 2 ≡ end = omega (arith, w.span) in
      record { mid = end; items = alone at 2 end p w.inside; to = omega arith }
  inside_of (Elem x es) at end w v =
      let r = (wrote_first (wrote_first (wrote_first w).rest).rest).rest in
      record { mid = end; items = record { wrote = wrote_at (omega arith) r; valid = v.2 }; to = omega arith }
  inside_of (Unary o e) at end w v =
      let r = (wrote_first (wrote_first w).rest).rest in
      record { mid = end; items = one_child e (wrote_at (omega arith) r) v.1; to = omega arith }
  inside_of (Binary o l r) at end w v =
      let t = (wrote_first (wrote_first w).rest).rest in
      let b = wrote_right (words l) t in
      record { mid = end; items = record { wrote = wrote_at (omega arith) (wrote_cat (wrote_left (words l) (words r) t) (wrote_cat b (wrote_none ws end w.inside))); valid = (v.1, (v.2, tt)) }; to = omega arith }
  inside_of (Call x es) at end w v =
      let r = (wrote_first (wrote_first (wrote_first w).rest).rest).rest in
      record { mid = end; items = record { wrote = wrote_at (omega arith) r; valid = v.2 }; to = omega arith }
  inside_of (Field e x) at end w v =
      let r = (wrote_first w).rest in
      let a = wrote_left (words e) (word_of 2 x ∷ []) r in
      let b = wrote_right (words e) r in
      record { mid = at + 1 + length (words e); items = one_child e a v.0; to = omega (arith, b.span) }
  inside_of (Paren e) at end w v = record { mid = end; items = one_child e (wrote_first w).rest v; to = omega arith }

-- so they stand in an expression that stands there
pub inside : {ws : List ℕ} {n : Strings} {at : ℕ} {e : Expr} {end : ℕ} → Stands ws n at e end → Inside ws n at e end
inside {ws} {n} {at} {e} {end} s = inside_of ws n e at end s.wrote s.valid

-- ---- the shape by the kind of the head

-- r is the shape of what stands there
abbrev pub ShapedAt : List ℕ → ℕ → Shape → Type 0
ShapedAt ws at r = (n : Strings) (e : Expr) (end : ℕ) → Stands ws n at e end → Shaped e r

-- an answer that is this shape
pub told : {ws : List ℕ} {at : ℕ} {r s : Shape} → r ≡ s → ShapedAt ws at s → ShapedAt ws at r
told {ws} {at} q S = subst (λ (x : Shape). ShapedAt ws at x) (sym q) S

module _ {ws : List ℕ} {at : ℕ} where
  -- 16: a literal has no children
  pub shape_16 : kind_of (get_or ws at 0) ≡ 16 → {f : ℕ} → f ≡ literal_words (kind_of (get_or ws (at + 1) 0)) → ShapedAt ws at (record { front = 1 + f; children = 0; back = 0 })
  unfolding front children back many
  shape_16 k q n e end s = let v = in_lit k s in rw v.is (record { front_is = rw (q, v.kind) refl; children_is = refl; back_is = refl })

  -- 17: nor has a variable
  pub shape_17 : kind_of (get_or ws at 0) ≡ 17 → ShapedAt ws at (record { front = 2; children = 0; back = 0 })
  unfolding front children back many
  shape_17 k n e end s = let v = got_17 k (node s).body in rw v.is (record { front_is = refl; children_is = refl; back_is = refl })

  -- 18 or 21: an element and a call have as many as the list says
  pub shape_18 : (kind_of (get_or ws at 0) ≡ 18) ⊎ (kind_of (get_or ws at 0) ≡ 21) → ShapedAt ws at (record { front = 3; children = pay_of (get_or ws (at + 2) 0); back = 0 })
  unfolding front children back
  shape_18 k n e end s =
      let v = in_elem k s in
      let p : at + 1 + 1 ≡ at + 2 = omega arith in
      let c : pay_of (get_or ws (at + 2) 0) ≡ many v.args = sym (v.list.count ∙ ap (λ (i : ℕ). pay_of (get_or ws i 0)) p) in
      ⊎_elim (λ (q : e ≡ Elem v.name v.args). rw q (record { front_is = refl; children_is = c; back_is = refl }))
      (λ (q : e ≡ Call v.name v.args). rw q (record { front_is = refl; children_is = c; back_is = refl })) v.is

  -- 19: a unary operator has one
  pub shape_19 : kind_of (get_or ws at 0) ≡ 19 → ShapedAt ws at (record { front = 2; children = 1; back = 0 })
  unfolding front children back many
  shape_19 k n e end s = rw (in_unary k s).is (record { front_is = refl; children_is = refl; back_is = refl })

  -- 20: a binary operator has two
  pub shape_20 : kind_of (get_or ws at 0) ≡ 20 → ShapedAt ws at (record { front = 2; children = 2; back = 0 })
  unfolding front children back many
  shape_20 k n e end s = rw (in_binary k s).is (record { front_is = refl; children_is = refl; back_is = refl })

  -- 22: a field has one, and its name comes last
  pub shape_22 : kind_of (get_or ws at 0) ≡ 22 → ShapedAt ws at (record { front = 1; children = 1; back = 1 })
  unfolding front children back many
  shape_22 k n e end s = rw (in_field k s).is (record { front_is = refl; children_is = refl; back_is = refl })

  -- what is left is a pair of parentheses
  pub shape_23 : (kind_of (get_or ws at 0) ≡ 16 → ⊥) → (kind_of (get_or ws at 0) ≡ 17 → ⊥) → ((kind_of (get_or ws at 0) ≡ 18) ⊎ (kind_of (get_or ws at 0) ≡ 21) → ⊥)
      → (kind_of (get_or ws at 0) ≡ 19 → ⊥) → (kind_of (get_or ws at 0) ≡ 20 → ⊥) → (kind_of (get_or ws at 0) ≡ 22 → ⊥)
      → ShapedAt ws at (record { front = 1; children = 1; back = 0 })
  unfolding front children back many kind_e
  shape_23 a b c d f g n e end s = go e (kind_of_lem s)
    where
      go : (e : Expr) → kind_of (get_or ws at 0) ≡ kind_e e → Shaped e (record { front = 1; children = 1; back = 0 })
      go (Lit l) q = absurd (a q)
      go (Var x) q = absurd (b q)
      go (Elem x es) q = absurd (c (inl q))
      go (Unary o e) q = absurd (d q)
      go (Binary o l r) q = absurd (f q)
      go (Call x es) q = absurd (c (inr q))
      go (Field e x) q = absurd (g q)
      go (Paren e) q = record { front_is = refl; children_is = refl; back_is = refl }

-- ---- the words that are looked at

-- the head is within the words
pub here : {ws : List ℕ} {at : ℕ} → SomeExpr ws at → at < length ws
here {ws} {at} A = let w = within A.stands in omega (arith, w.moves, w.inside)

-- a word follows the head
pub two_words : {ws : List ℕ} {at : ℕ} → SomeExpr ws at → at + 1 < length ws
unfolding words
two_words {ws} {at} A = go A.expr A.stands.wrote
  where
    go : (e : Expr) → Wrote ws at (words e) A.end → at + 1 < length ws
    go (Lit l) w = omega (arith, w.span, w.inside, literal_long l, literal_some (kind_l l))
    go (Var x) w = omega (arith, w.span, w.inside)
    go (Elem x es) w = omega (arith, w.span, w.inside)
    go (Unary o e) w = omega (arith, w.span, w.inside)
    go (Binary o l r) w = omega (arith, w.span, w.inside)
    go (Call x es) w = omega (arith, w.span, w.inside)
    go (Field e x) w = omega (arith, (wrote_first (wrote_right (words e) (wrote_first w).rest)).inside)
    go (Paren e) w = omega (arith, words_some e, w.span, w.inside)

-- and the head of a list
pub list_word : {ws : List ℕ} {at : ℕ} → (kind_of (get_or ws at 0) ≡ 18) ⊎ (kind_of (get_or ws at 0) ≡ 21) → SomeExpr ws at → at + 2 < length ws
list_word {ws} {at} k A = let l = (in_elem k A.stands).list.items.wrote in omega (arith, l.span, l.inside)

-- the words before the children are there
pub front_fits : {ws : List ℕ} {at : ℕ} {r : Shape} → SomeExpr ws at → ShapedAt ws at r → at + r.front + r.back ≤ length ws
front_fits {ws} {at} {r} A S =
    let s = A.stands in
    let i = inside s in
    let h = S _ _ _ s in
    omega (arith, i.items.wrote.span, i.to, s.wrote.inside, h.front_is, h.back_is)

-- and there is one at least
pub front_some : {ws : List ℕ} {at : ℕ} {r : Shape} → SomeExpr ws at → ShapedAt ws at r → 0 < r.front
unfolding front
front_some {ws} {at} {r} A S = let h = S _ _ _ A.stands in go A.expr h.front_is
  where
    go : (e : Expr) → r.front ≡ front e → 0 < r.front
    go (Lit l) p = omega arith
    go (Var x) p = omega arith
    go (Elem x es) p = omega arith
    go (Unary o e) p = omega arith
    go (Binary o l r) p = omega arith
    go (Call x es) p = omega arith
    go (Field e x) p = omega arith
    go (Paren e) p = omega arith

-- ---- what is left of the children

-- so many expressions stand at m, and the words after them end the expression
pub record Rest (ws : List ℕ) (n : Strings) (m left b end : ℕ) : Type 0 where
  pub es : Exprs
  pub mid : ℕ
  pub items : StandsAll ws n m es mid
  pub count : many es ≡ left
  pub to : mid + b ≡ end

-- for whatever expression stands at `at`
abbrev pub Left : List ℕ → ℕ → ℕ → ℕ → ℕ → Type 0
Left ws at m left b = (n : Strings) (e : Expr) (end : ℕ) → Stands ws n at e end → Rest ws n m left b end

-- at first all children are left
pub left_all : {ws : List ℕ} {at left : ℕ} {r : Shape} → ShapedAt ws at r → left ≡ r.children → Left ws at (at + r.front) left r.back
left_all {ws} {at} {left} {r} S p n e end s =
    let h = S n e end s in
    let i = inside s in
    let f = i.items in
    record { es = children e; mid = i.mid; items = rw h.front_is f; count = sym (p ∙ h.children_is); to = rw h.back_is i.to }

-- one more
record Split (ws : List ℕ) (n : Strings) (m left b end : ℕ) : Type 0 where
  first : Expr
  stop : ℕ
  stands : Stands ws n m first stop
  rest : Rest ws n stop left b end

split : {ws : List ℕ} {n : Strings} {m left next b end : ℕ} → Rest ws n m left b end → left ≡ next + 1 → Split ws n m next b end
unfolding words_all Valids many
split {ws} {n} {m} {left} {next} {b} {end} r p = go r.es r.items r.count
  where
    go : (es : Exprs) → StandsAll ws n m es r.mid → many es ≡ left → Split ws n m next b end
    go none s c = absurd (omega arith)
    go (more e es) s c = record {
      first = e;
      stop = m + length (words e);
      stands = record { wrote = wrote_left (words e) (words_all es) s.wrote; valid = s.valid.0 };
      rest = record { es = es; mid = r.mid; items = record { wrote = wrote_right (words e) s.wrote; valid = s.valid.1 }; count = omega arith; to = r.to };
    }

module _ {ws : List ℕ} {at m left b : ℕ} (L : Left ws at m left b) (next : ℕ) (p : left ≡ next + 1) where
  -- where some are left, the next one stands at m
  pub left_some : SomeExpr ws at → SomeExpr ws m
  left_some A = let t = split (L _ _ _ A.stands) p in record { strings = A.strings; expr = t.first; end = t.stop; stands = t.stands }

  -- past it one less is left
  pub left_next : {r : ℕ} → ((n : Strings) (e : Expr) (end : ℕ) → Stands ws n m e end → r ≡ end) → Left ws at r next b
  left_next {r} E n e end s =
      let t = split (L n e end s) p in
      let q : r ≡ t.stop = E n t.first t.stop t.stands in
      let z = t.rest in
      rw q z

-- the place moves
pub left_moves : {ws : List ℕ} {m r : ℕ} → SomeExpr ws m → ((n : Strings) (e : Expr) (end : ℕ) → Stands ws n m e end → r ≡ end) → m < r
left_moves {ws} {m} {r} A E = let w = within A.stands in omega (arith, w.moves, E _ _ _ A.stands)

-- none is left
pub left_none : {ws : List ℕ} {at m left b : ℕ} → Left ws at m left b → left ≤ 0 → (n : Strings) (e : Expr) (end : ℕ) → Stands ws n at e end → m + b ≡ end
unfolding words_all many
left_none {ws} {at} {m} {left} {b} L p n e end s = let r = L n e end s in go r.es r.mid r.items r.count r.to
  where
    go : (es : Exprs) (mid : ℕ) → StandsAll ws n m es mid → many es ≡ left → mid + b ≡ end → m + b ≡ end
    go none mid t c q = omega (arith, t.wrote.span)
    go (more x xs) mid t c q = absurd (omega arith)
