-- What stands inside a node, by the kind of its head: what a pass over an accepted tree goes by. Assumes nothing.
use Prim.Native.Nat.{ℕ, zero, suc, ◌+◌, ◌<◌, ◌≤◌}
use mathlib.Core.Path.{◌≡◌, ap, ◌∙◌}
use mathlib.Core.List.{List, ◌∷◌}
use native.Mathlib.Omega.{arith}
use mathlib.Core.Logic.{◌⊎◌, inl, inr}
use lib.ListN.{length, get_or}
use Rattle.tree_expr.specs.Expr.{Strings, Literal, Expr, Exprs, Lit, Var, Elem, Unary, Binary, Call, Field, Paren, many, words, depth, ValidL, words_l, kind_e, kind_l, Integer, Long, Single, Float, Text}
use Rattle.base_words.specs.Word.{word_of, kind_of, pay_of}
use Rattle.tree_expr.specs.Got.{got}
use Rattle.tree_expr.specs.Reader.{head_at, list_at, body_at, expr_at}
use Rattle.tree_expr.specs.Stands.{Wrote, Stands, StandsAll}
use Rattle.tree_expr.proofs.Laws.{bind_got, deep_got, OfNamed, leaf_got, name_got, IsHead, head_got, list_got, got_16, got_18, got_19, got_20, got_21, got_22, got_23}
use Rattle.tree_expr.proofs.Parts.{wrote_first, kind_is}
use lib.Dec.{lit<}
use Rattle.tree_expr.proofs.Sound.{lit_sound, sound, exprs_sound}
use Rattle.tree_expr.proofs.Complete.{reads, stands}

-- the head of what stands there, and what follows it
pub record Node (ws : List ℕ) (n : Strings) (at : ℕ) (e : Expr) (end : ℕ) : Type 0 where
  pub levels : ℕ
  pub head : IsHead ws 16 23 at (kind_of (get_or ws at 0)) (at + 1)
  pub body : body_at ws n (expr_at ws n levels) (kind_of (get_or ws at 0)) (at + 1) ≡ got e end

node_at : (ws : List ℕ) (n : Strings) (d at : ℕ) (e : Expr) (end : ℕ) → expr_at ws n d at ≡ got e end → Node ws n at e end
unfolding expr_at
node_at ws n zero at e end h = absurd (deep_got (bind_got (head_at ws 16 23 at) h).3)
node_at ws n (suc d) at e end h =
    let v = bind_got (head_at ws 16 23 at) h in
    let H = head_got v.2 in
    let b : body_at ws n (expr_at ws n d) v.0 v.1 ≡ got e end = v.3 in
    record { levels = d; head = rw (H.is, H.to) at H; body = rw (H.is, H.to) at b }

-- an expression that stands there has a head, and its rest is read after it
pub node : {ws : List ℕ} {n : Strings} {at : ℕ} {e : Expr} {end : ℕ} → Stands ws n at e end → Node ws n at e end
node {ws} {n} {at} {e} {end} s = node_at ws n (depth e) at e end (reads s)

-- where it ends
pub record Within (ws : List ℕ) (at end : ℕ) : Type 0 where
  pub moves : at < end
  pub inside : end ≤ length ws

-- it ends after its place, within the words
pub within : {ws : List ℕ} {n : Strings} {at : ℕ} {e : Expr} {end : ℕ} → Stands ws n at e end → Within ws at end
unfolding words
within {ws} {n} {at} {e} {end} s = record { moves = go e s.wrote.span; inside = s.wrote.inside }
  where
    go : (e : Expr) → at + length (words e) ≡ end → at < end
    go (Lit l) h = omega arith
    go (Var x) h = omega arith
    go (Elem x es) h = omega arith
    go (Unary o e) h = omega arith
    go (Binary o l r) h = omega arith
    go (Call x es) h = omega arith
    go (Field e x) h = omega arith
    go (Paren e) h = omega arith

-- a binary operator: its two sides, one after the other
pub record InBinary (ws : List ℕ) (n : Strings) (at : ℕ) (e : Expr) (end : ℕ) : Type 0 where
  pub op : ℕ
  pub lhs : Expr
  pub mid : ℕ
  pub rhs : Expr
  pub op_is : op ≡ pay_of (get_or ws (at + 1) 0)
  pub left : Stands ws n (at + 1 + 1) lhs mid
  pub right : Stands ws n mid rhs end
  pub is : e ≡ Binary op lhs rhs

-- 20: an operator, and then two expressions
pub in_binary : {ws : List ℕ} {n : Strings} {at : ℕ} {e : Expr} {end : ℕ} → kind_of (get_or ws at 0) ≡ 20 → Stands ws n at e end → InBinary ws n at e end
in_binary {ws} {n} {at} {e} {end} k s =
    let N = node s in
    let v = got_20 k N.body in
    let L = leaf_got v.reads in
    let l = v.left in
    record { op = v.op; lhs = v.lhs; mid = v.mid₂; rhs = v.rhs; op_is = L.is; left = stands N.levels (rw L.to at l); right = stands N.levels v.right; is = v.is }

-- parentheses: the expression after the head
pub record InParen (ws : List ℕ) (n : Strings) (at : ℕ) (e : Expr) (end : ℕ) : Type 0 where
  pub arg : Expr
  pub inner : Stands ws n (at + 1) arg end
  pub is : e ≡ Paren arg

-- 23: one expression
pub in_paren : {ws : List ℕ} {n : Strings} {at : ℕ} {e : Expr} {end : ℕ} → kind_of (get_or ws at 0) ≡ 23 → Stands ws n at e end → InParen ws n at e end
in_paren {ws} {n} {at} {e} {end} k s =
    let N = node s in
    let v = got_23 k N.body in
    record { arg = v.arg; inner = stands N.levels v.inner; is = v.is }

-- the kind of the word there is the tree's
kind_first : (ws : List ℕ) (at k end : ℕ) (xs : List ℕ) → Wrote ws at (word_of k 0 ∷ xs) end → kind_of (get_or ws at 0) ≡ k
kind_first ws at k end xs h = ap kind_of (wrote_first h).is ∙ kind_is k 0 (lit< tt)

-- the head's kind is the expression's
pub kind_of_lem : {ws : List ℕ} {n : Strings} {at : ℕ} {e : Expr} {end : ℕ} → Stands ws n at e end → kind_of (get_or ws at 0) ≡ kind_e e
unfolding words kind_e
kind_of_lem {ws} {n} {at} {e} {end} s = go e s.wrote
  where
    go : (e : Expr) → Wrote ws at (words e) end → kind_of (get_or ws at 0) ≡ kind_e e
    go (Lit l) h = kind_first ws at 16 end _ h
    go (Var x) h = kind_first ws at 17 end _ h
    go (Elem x es) h = kind_first ws at 18 end _ h
    go (Unary o e) h = kind_first ws at 19 end _ h
    go (Binary o l r) h = kind_first ws at 20 end _ h
    go (Call x es) h = kind_first ws at 21 end _ h
    go (Field e x) h = kind_first ws at 22 end _ h
    go (Paren e) h = kind_first ws at 23 end _ h

-- a literal: its own words after the head
pub record InLit (ws : List ℕ) (n : Strings) (at : ℕ) (e : Expr) (end : ℕ) : Type 0 where
  pub lit : Literal
  pub wrote : Wrote ws (at + 1) (words_l lit) end
  pub valid : ValidL n.count lit
  pub kind : kind_of (get_or ws (at + 1) 0) ≡ kind_l lit
  pub is : e ≡ Lit lit

kind_lit : (ws : List ℕ) (at : ℕ) (l : Literal) (end : ℕ) → Wrote ws at (words_l l) end → kind_of (get_or ws at 0) ≡ kind_l l
unfolding words_l kind_l
kind_lit ws at (Integer a) end h = kind_first ws at 24 end _ h
kind_lit ws at (Long a) end h = kind_first ws at 25 end _ h
kind_lit ws at (Single a b) end h = kind_first ws at 26 end _ h
kind_lit ws at (Float a b) end h = kind_first ws at 27 end _ h
kind_lit ws at (Text s) end h = kind_first ws at 28 end _ h

-- 16: a literal with its own head
pub in_lit : {ws : List ℕ} {n : Strings} {at : ℕ} {e : Expr} {end : ℕ} → kind_of (get_or ws at 0) ≡ 16 → Stands ws n at e end → InLit ws n at e end
in_lit {ws} {n} {at} {e} {end} k s =
    let v = got_16 k (node s).body in
    let L = lit_sound ws n.count (at + 1) v.lit end v.reads in
    record { lit = v.lit; wrote = L.0; valid = L.1; kind = kind_lit ws (at + 1) v.lit end L.0; is = v.is }

-- a unary operator: the expression after its word
pub record InUnary (ws : List ℕ) (n : Strings) (at : ℕ) (e : Expr) (end : ℕ) : Type 0 where
  pub arg : Expr
  pub inner : Stands ws n (at + 2) arg end
  pub is : e ≡ Unary (pay_of (get_or ws (at + 1) 0)) arg

-- 19: an operator, and then one expression
pub in_unary : {ws : List ℕ} {n : Strings} {at : ℕ} {e : Expr} {end : ℕ} → kind_of (get_or ws at 0) ≡ 19 → Stands ws n at e end → InUnary ws n at e end
in_unary {ws} {n} {at} {e} {end} k s =
    let N = node s in
    let v = got_19 k N.body in
    let L = leaf_got v.reads in
    let p : v.mid ≡ at + 2 = omega (arith, L.to) in
    let i = stands N.levels v.inner in
    record { arg = v.arg; inner = rw p at i; is = v.is ∙ ap (λ (o : ℕ). Unary o v.arg) L.is }

-- a field: the expression, and its name's word
pub record InField (ws : List ℕ) (n : Strings) (at : ℕ) (e : Expr) (end : ℕ) : Type 0 where
  pub arg : Expr
  pub mid : ℕ
  pub name : ℕ
  pub inner : Stands ws n (at + 1) arg mid
  pub to : end ≡ mid + 1
  pub is : e ≡ Field arg name

-- 22: one expression, and then a name
pub in_field : {ws : List ℕ} {n : Strings} {at : ℕ} {e : Expr} {end : ℕ} → kind_of (get_or ws at 0) ≡ 22 → Stands ws n at e end → InField ws n at e end
in_field {ws} {n} {at} {e} {end} k s =
    let N = node s in
    let v = got_22 k N.body in
    record { arg = v.arg; mid = v.mid; name = v.name; inner = stands N.levels v.inner; to = (name_got v.reads).to; is = v.is }

-- a list of expressions, after its head
pub record InList (ws : List ℕ) (n : Strings) (at : ℕ) (es : Exprs) (end : ℕ) : Type 0 where
  pub count : many es ≡ pay_of (get_or ws at 0)
  pub items : StandsAll ws n (at + 1) es end

in_list : (ws : List ℕ) (n : Strings) (d at : ℕ) (es : Exprs) (end : ℕ) → list_at ws n (expr_at ws n d) at ≡ got es end → InList ws n at es end
in_list ws n d at es end h =
    let v = list_got h in
    let L = leaf_got v.head in
    let i = v.items in
    let R = exprs_sound ws n d (expr_at ws n d) (sound ws n d) v.count (at + 1) es end (omega (arith, L.inside)) (rw L.to at i) in
    record { count = R.counted ∙ L.is; items = record { wrote = R.wrote; valid = R.valid } }

-- an element or a call: its list after the name
pub record InElem (ws : List ℕ) (n : Strings) (at : ℕ) (e : Expr) (end : ℕ) : Type 0 where
  pub name : ℕ
  pub args : Exprs
  pub list : InList ws n (at + 1 + 1) args end
  pub is : (e ≡ Elem name args) ⊎ (e ≡ Call name args)

elem_of : (ws : List ℕ) (n : Strings) (d at : ℕ) (e : Expr) (end : ℕ) {make : ℕ → Exprs → Expr} (v : OfNamed ws n (expr_at ws n d) make (at + 1) e end) → (e ≡ Elem v.name v.items) ⊎ (e ≡ Call v.name v.items) → InElem ws n at e end
elem_of ws n d at e end v is =
    let l = v.list in
    record { name = v.name; args = v.items; list = in_list ws n d (at + 1 + 1) v.items end (rw (name_got v.reads).to at l); is = is }

-- 18 or 21: a name, and then a list
pub in_elem : {ws : List ℕ} {n : Strings} {at : ℕ} {e : Expr} {end : ℕ} → (kind_of (get_or ws at 0) ≡ 18) ⊎ (kind_of (get_or ws at 0) ≡ 21) → Stands ws n at e end → InElem ws n at e end
in_elem {ws} {n} {at} {e} {end} (inl k) s = let v = got_18 k (node s).body in elem_of ws n (node s).levels at e end v (inl v.is)
in_elem {ws} {n} {at} {e} {end} (inr k) s = let v = got_21 k (node s).body in elem_of ws n (node s).levels at e end v (inr v.is)
