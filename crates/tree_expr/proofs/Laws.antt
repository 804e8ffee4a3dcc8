-- What a reading that gives a value says of the words. Assumes nothing.
use Prim.Native.Nat.{ℕ, zero, suc, ◌+◌, ◌<◌, ◌≤◌}
use mathlib.Core.Path.{◌≡◌, refl, ap, ◌∙◌}
use mathlib.Core.List.{List, [], ◌∷◌}
use mathlib.Core.Bool.{Bool, true, false}
use native.Mathlib.Omega.{arith}
use lib.ListN.{length, get_or}
use lib.Dec.{ltb, leb, eqb}
use borrow.Author.Tests.{ltb-true, leb-true, eqb-true}
use Rattle.tree_expr.specs.Expr.{Strings, Literal, Expr, Exprs, Lit, Var, Elem, Unary, Binary, Call, Field, Paren}
use Rattle.tree_expr.specs.Got.{Got, got, wrong, deep, bind}
use Rattle.base_words.specs.Word.{pick, kind_of, pay_of}
use Rattle.tree_expr.specs.Reader.{raw_at, leaf_at, name_at, head_at, literal_at, exprs_at, list_at, body_at}

-- what is picked isn't the second: the test holds, and it is the first
pub pick_true : {A : Type 0} (b : Bool) {x y z : A} → pick b x y ≡ z → (y ≡ z → ⊥) → (b ≡ true) × (x ≡ z)
pick_true true e f = (refl, e)
pick_true false e f = absurd (f e)

-- a wrong word gives nothing
pub wrong_got : {A : Type 0} {p m : ℕ} {a : A} → wrong p ≡ got a m → ⊥
wrong_got {A} {p} {m} {a} e = let z : ◌≡◌ {A = ℕ} 0 1 = cc in omega arith

-- nor does one too deep
pub deep_got : {A : Type 0} {p m : ℕ} {a : A} → deep p ≡ got a m → ⊥
deep_got {A} {p} {m} {a} e = let z : ◌≡◌ {A = ℕ} 0 1 = cc in omega arith

-- the one way through a sequence
pub bind_got : {A B : Type 0} (p : Got A) {k : A → ℕ → Got B} {b : B} {e : ℕ} → bind p k ≡ got b e → (a : A) × (m : ℕ) × (p ≡ got a m) × (k a m ≡ got b e)
unfolding bind
bind_got (got a m) h = (a, m, refl, h)
bind_got (wrong p) h = absurd (wrong_got h)
bind_got (deep p) h = absurd (deep_got h)

-- the word at a place
pub record IsRaw (ws : List ℕ) (at a m : ℕ) : Type 0 where
  pub inside : at < length ws
  pub is : a ≡ get_or ws at 0
  pub to : m ≡ at + 1

-- a raw word
pub raw_got : {ws : List ℕ} {at a m : ℕ} → raw_at ws at ≡ got a m → IsRaw ws at a m
unfolding raw_at
raw_got {ws} {at} {a} {m} e =
    let h = pick_true (ltb at (length ws)) e wrong_got in
    let e1 = h.1 in
    record { inside = ltb-true at (length ws) h.0; is = cc; to = cc }

-- a word of kind k with a payload below n: its payload
pub record IsLeaf (ws : List ℕ) (k n at x m : ℕ) : Type 0 where
  pub inside : at < length ws
  pub kind : kind_of (get_or ws at 0) ≡ k
  pub below : x < n
  pub is : x ≡ pay_of (get_or ws at 0)
  pub to : m ≡ at + 1

-- a word of a kind, with its payload below a bound
pub leaf_got : {ws : List ℕ} {k n at x m : ℕ} → leaf_at ws k n at ≡ got x m → IsLeaf ws k n at x m
unfolding leaf_at
leaf_got {ws} {k} {n} {at} {x} {m} e =
    let w : ℕ = get_or ws at 0 in
    let h1 = pick_true (ltb at (length ws)) e wrong_got in
    let h2 = pick_true (eqb (kind_of w) k) h1.1 wrong_got in
    let h3 = pick_true (ltb (pay_of w) n) h2.1 wrong_got in
    let e1 = h3.1 in
    let is : x ≡ pay_of w = cc in
    record { inside = ltb-true at (length ws) h1.0; kind = eqb-true (kind_of w) k h2.0; below = rw is (ltb-true (pay_of w) n h3.0); is = is; to = cc }

-- the number of a name
pub record IsName (ws ns : List ℕ) (at x m : ℕ) : Type 0 where
  pub inside : at < length ws
  pub kind : kind_of (get_or ws at 0) ≡ 2
  pub is : x ≡ pay_of (get_or ws at 0)
  pub named : eqb (get_or ns x 0) 1 ≡ true
  pub to : m ≡ at + 1

-- the number of a name
pub name_got : {ws ns : List ℕ} {at x m : ℕ} → name_at ws ns at ≡ got x m → IsName ws ns at x m
unfolding name_at
name_got {ws} {ns} {at} {x} {m} e =
    let w : ℕ = get_or ws at 0 in
    let h1 = pick_true (ltb at (length ws)) e wrong_got in
    let h2 = pick_true (eqb (kind_of w) 2) h1.1 wrong_got in
    let h3 = pick_true (eqb (get_or ns (pay_of w) 0) 1) h2.1 wrong_got in
    let e1 = h3.1 in
    let q : x ≡ pay_of w = cc in
    record { inside = ltb-true at (length ws) h1.0; kind = eqb-true (kind_of w) 2 h2.0; is = q; named = rw q h3.0; to = cc }

-- a head of a kind from a to b
pub record IsHead (ws : List ℕ) (a b at k m : ℕ) : Type 0 where
  pub inside : at < length ws
  pub from : a ≤ k
  pub upto : k ≤ b
  pub is : k ≡ kind_of (get_or ws at 0)
  pub pay : pay_of (get_or ws at 0) ≡ 0
  pub to : m ≡ at + 1

-- a head of the kinds from a to b
pub head_got : {ws : List ℕ} {a b at k m : ℕ} → head_at ws a b at ≡ got k m → IsHead ws a b at k m
unfolding head_at
head_got {ws} {a} {b} {at} {k} {m} e =
    let w : ℕ = get_or ws at 0 in
    let h1 = pick_true (ltb at (length ws)) e wrong_got in
    let h2 = pick_true (leb a (kind_of w)) h1.1 wrong_got in
    let h3 = pick_true (leb (kind_of w) b) h2.1 wrong_got in
    let h4 = pick_true (eqb (pay_of w) 0) h3.1 wrong_got in
    let e1 = h4.1 in
    let is : k ≡ kind_of w = cc in
    record { inside = ltb-true at (length ws) h1.0; from = rw is (leb-true a (kind_of w) h2.0); upto = rw is (leb-true (kind_of w) b h3.0); is = is; pay = eqb-true (pay_of w) 0 h4.0; to = cc }

-- the last reading, made into something
pub map_got : {A B : Type 0} (f : A → B) (p : Got A) {b : B} {e : ℕ} → bind p (λ a m. got (f a) m) ≡ got b e → (a : A) × (p ≡ got a e) × (b ≡ f a)
map_got f p {b} {e} h =
    let v = bind_got p h in
    let q = v.3 in
    (v.0, v.2 ∙ ap (got v.0) (cc), cc)

-- a list: its head, then so many
pub record IsList (ws : List ℕ) (n : Strings) (sub : ℕ → Got Expr) (at : ℕ) (es : Exprs) (end : ℕ) : Type 0 where
  pub count : ℕ
  pub mid : ℕ
  pub head : leaf_at ws 1 16777216 at ≡ got count mid
  pub items : exprs_at ws n sub count mid ≡ got es end

-- the list's head, and its members
pub list_got : {ws : List ℕ} {n : Strings} {sub : ℕ → Got Expr} {at : ℕ} {es : Exprs} {end : ℕ} → list_at ws n sub at ≡ got es end → IsList ws n sub at es end
unfolding list_at
list_got h = let v = bind_got _ h in record { count = v.0; mid = v.1; head = v.2; items = v.3 }

-- what follows a head, by its kind
pub record OfLit (ws : List ℕ) (n : Strings) (sub : ℕ → Got Expr) (m : ℕ) (e : Expr) (end : ℕ) : Type 0 where
  pub lit : Literal
  pub reads : literal_at ws n.count m ≡ got lit end
  pub is : e ≡ Lit lit

-- 16: a literal
pub got_16 : {ws : List ℕ} {n : Strings} {sub : ℕ → Got Expr} {k m : ℕ} {e : Expr} {end : ℕ} → k ≡ 16 → body_at ws n sub k m ≡ got e end → OfLit ws n sub m e end
unfolding body_at
got_16 q h =
    let v = map_got _ _ (rw q at h) in
    record { lit = v.0; reads = v.1; is = v.2 }

-- 17: a name
pub record OfVar (ws : List ℕ) (n : Strings) (sub : ℕ → Got Expr) (m : ℕ) (e : Expr) (end : ℕ) : Type 0 where
  pub name : ℕ
  pub reads : name_at ws n.names m ≡ got name end
  pub is : e ≡ Var name

-- 17: a variable
pub got_17 : {ws : List ℕ} {n : Strings} {sub : ℕ → Got Expr} {k m : ℕ} {e : Expr} {end : ℕ} → k ≡ 17 → body_at ws n sub k m ≡ got e end → OfVar ws n sub m e end
unfolding body_at
got_17 q h =
    let v = map_got _ _ (rw q at h) in
    record { name = v.0; reads = v.1; is = v.2 }

-- a name and a list: an element or a call
pub record OfNamed (ws : List ℕ) (n : Strings) (sub : ℕ → Got Expr) (make : ℕ → Exprs → Expr) (m : ℕ) (e : Expr) (end : ℕ) : Type 0 where
  pub name : ℕ
  pub mid : ℕ
  pub items : Exprs
  pub reads : name_at ws n.names m ≡ got name mid
  pub list : list_at ws n sub mid ≡ got items end
  pub is : e ≡ make name items

named_got : {ws : List ℕ} {n : Strings} {sub : ℕ → Got Expr} {m : ℕ} {e : Expr} {end : ℕ} (make : ℕ → Exprs → Expr) → bind (name_at ws n.names m) (λ x p. bind (list_at ws n sub p) (λ es q. got (make x es) q)) ≡ got e end → OfNamed ws n sub make m e end
named_got make h =
    let v = bind_got _ h in
    let w = map_got _ _ v.3 in
    record { name = v.0; mid = v.1; items = w.0; reads = v.2; list = w.1; is = w.2 }

-- 18: an element
pub got_18 : {ws : List ℕ} {n : Strings} {sub : ℕ → Got Expr} {k m : ℕ} {e : Expr} {end : ℕ} → k ≡ 18 → body_at ws n sub k m ≡ got e end → OfNamed ws n sub Elem m e end
unfolding body_at
got_18 q h = named_got Elem (rw q at h)

-- 19: an operator and an expression
pub record OfUnary (ws : List ℕ) (n : Strings) (sub : ℕ → Got Expr) (m : ℕ) (e : Expr) (end : ℕ) : Type 0 where
  pub op : ℕ
  pub mid : ℕ
  pub arg : Expr
  pub reads : leaf_at ws 9 2 m ≡ got op mid
  pub inner : sub mid ≡ got arg end
  pub is : e ≡ Unary op arg

-- 19: a unary operator
pub got_19 : {ws : List ℕ} {n : Strings} {sub : ℕ → Got Expr} {k m : ℕ} {e : Expr} {end : ℕ} → k ≡ 19 → body_at ws n sub k m ≡ got e end → OfUnary ws n sub m e end
unfolding body_at
got_19 q h =
    let v = bind_got _ (rw q at h) in
    let w = map_got _ _ v.3 in
    record { op = v.0; mid = v.1; arg = w.0; reads = v.2; inner = w.1; is = w.2 }

-- 20: an operator and two expressions
pub record OfBinary (ws : List ℕ) (n : Strings) (sub : ℕ → Got Expr) (m : ℕ) (e : Expr) (end : ℕ) : Type 0 where
  pub op : ℕ
  pub mid : ℕ
  pub lhs : Expr
  pub mid₂ : ℕ
  pub rhs : Expr
  pub reads : leaf_at ws 9 18 m ≡ got op mid
  pub left : sub mid ≡ got lhs mid₂
  pub right : sub mid₂ ≡ got rhs end
  pub is : e ≡ Binary op lhs rhs

-- 20: a binary operator
pub got_20 : {ws : List ℕ} {n : Strings} {sub : ℕ → Got Expr} {k m : ℕ} {e : Expr} {end : ℕ} → k ≡ 20 → body_at ws n sub k m ≡ got e end → OfBinary ws n sub m e end
unfolding body_at
got_20 q h =
    let v = bind_got _ (rw q at h) in
    let w = bind_got _ v.3 in
    let x = map_got _ _ w.3 in
    record { op = v.0; mid = v.1; lhs = w.0; mid₂ = w.1; rhs = x.0; reads = v.2; left = w.2; right = x.1; is = x.2 }

-- 21: a call
pub got_21 : {ws : List ℕ} {n : Strings} {sub : ℕ → Got Expr} {k m : ℕ} {e : Expr} {end : ℕ} → k ≡ 21 → body_at ws n sub k m ≡ got e end → OfNamed ws n sub Call m e end
unfolding body_at
got_21 q h = named_got Call (rw q at h)

-- 22: an expression and a name
pub record OfField (ws : List ℕ) (n : Strings) (sub : ℕ → Got Expr) (m : ℕ) (e : Expr) (end : ℕ) : Type 0 where
  pub arg : Expr
  pub mid : ℕ
  pub name : ℕ
  pub inner : sub m ≡ got arg mid
  pub reads : name_at ws n.names mid ≡ got name end
  pub is : e ≡ Field arg name

-- 22: a field
pub got_22 : {ws : List ℕ} {n : Strings} {sub : ℕ → Got Expr} {k m : ℕ} {e : Expr} {end : ℕ} → k ≡ 22 → body_at ws n sub k m ≡ got e end → OfField ws n sub m e end
unfolding body_at
got_22 q h =
    let v = bind_got _ (rw q at h) in
    let w = map_got _ _ v.3 in
    record { arg = v.0; mid = v.1; name = w.0; inner = v.2; reads = w.1; is = w.2 }

-- 23: an expression
pub record OfParen (ws : List ℕ) (n : Strings) (sub : ℕ → Got Expr) (m : ℕ) (e : Expr) (end : ℕ) : Type 0 where
  pub arg : Expr
  pub inner : sub m ≡ got arg end
  pub is : e ≡ Paren arg

-- 23: parentheses
pub got_23 : {ws : List ℕ} {n : Strings} {sub : ℕ → Got Expr} {k m : ℕ} {e : Expr} {end : ℕ} → k ≡ 23 → body_at ws n sub k m ≡ got e end → OfParen ws n sub m e end
unfolding body_at
got_23 q h =
    let v = map_got _ _ (rw q at h) in
    record { arg = v.0; inner = v.1; is = v.2 }

-- a number past the end of the flags is no name's
pub no_name : (ns : List ℕ) (x : ℕ) → length ns ≤ x → eqb (get_or ns x 0) 1 ≡ false
no_name [] x h = refl
no_name (y ∷ ns) zero h = absurd (omega arith)
no_name (y ∷ ns) (suc x) h = no_name ns x (omega arith)
