-- What the calls of a walk by the table of fields require, and what they make together, whatever it is that a walk finds out. Assumes nothing.
use Prim.Native.Nat.{ℕ, ◌+◌, ◌-◌, ◌≤◌, ◌<◌, max}
use native.Mathlib.Nat.{add-zero}
use native.Mathlib.Omega.{arith}
use mathlib.Core.Path.{◌≡◌, refl, sym, ap, subst, ◌∙◌}
use mathlib.Core.List.{List, [], ◌∷◌, ◌++◌, append-nil, append_assoc}
use lib.ListN.{length, drop, get_or}
use Rattle.base_words.specs.Word.{kind_of}
use Rattle.tree_expr.specs.Expr.{Expr}
use Rattle.tree_expr.specs.Stands as W
use Rattle.tree_expr.proofs.Parts.{wrote_first, wrote_left, wrote_right, kind_is}
use Rattle.tree_stmt.specs.Sorts.{Sort, expr, stmt, Sorts, nil, ◌&◌, body, Kind, sorts, number_of, kind_at}
use Rattle.tree_stmt.specs.KindLaws.{kind_number, number_small}
use Rattle.tree_stmt.specs.Tree.{strings, Shape, one, row, rows, Tree, value, Stmt, done, cons, none, more, count, depth_t, words_t, Right}
use Rattle.tree_stmt.proofs.Nodes.{stmt_line}
use Rattle.tree_stmt.specs.Stands.{Stands, SomeTree}
use Rattle.tree_stmt.specs.Codes.{codes, parts, all_rows, decode, sort_at, row_of}
use Rattle.tree_stmt.proofs.Steps.{decode_stop, decode_go, decode_over, decode_row, row_kind}
use Rattle.tree_walk.specs.Pieces.{Piece, expr_piece, pieces}
use Rattle.tree_walk.specs.Plans.{Planned, Shallow, ShallowRows, SomeRows, Walks, WalksRows}

-- ---- some tree, and one of known strings and depth

-- some tree is one of its own strings and depth
pub of_some : {i : Shape} {ws : List ℕ} {at : ℕ} (s : SomeTree i ws at) → Shallow i s.names s.strings (depth_t s.tree) ws at
of_some s = record { tree = s.tree; end = s.end; stands = s.stands; shallow = omega arith }

-- and one of known strings and depth is some tree
pub to_some : {i : Shape} {ns : List ℕ} {n d : ℕ} {ws : List ℕ} {at : ℕ} → Shallow i ns n d ws at → SomeTree i ws at
to_some {ns = ns} {n} s = record { names = ns; strings = n; tree = s.tree; end = s.end; stands = s.stands }

-- the same of rows
pub of_some_rows : {ss : Sorts} {k : ℕ} {ws : List ℕ} {at : ℕ} (s : SomeRows ss k ws at) → ShallowRows ss k s.some.names s.some.strings (depth_t s.some.tree) ws at
of_some_rows s = record { tree = s.some.tree; end = s.some.end; stands = s.some.stands; counted = s.counted; shallow = omega arith }

-- and back
pub to_some_rows : {ss : Sorts} {k : ℕ} {ns : List ℕ} {n d : ℕ} {ws : List ℕ} {at : ℕ} → ShallowRows ss k ns n d ws at → SomeRows ss k ws at
to_some_rows {ns = ns} {n} s = record { some = record { names = ns; strings = n; tree = s.tree; end = s.end; stands = s.stands }; counted = s.counted }

-- ---- a sort or a row by its number

-- a tree that stands there, of the same shape under another name
pub shallow_as : {i j : Shape} {ns : List ℕ} {n d : ℕ} {ws : List ℕ} {at : ℕ} → i ≡ j → Shallow i ns n d ws at → Shallow j ns n d ws at
shallow_as {ns = ns} {n} {d} {ws} {at} q s = subst (λ (k : Shape). Shallow k ns n d ws at) q s

-- some tree, the same
pub some_as : {i j : Shape} {ws : List ℕ} {at : ℕ} → i ≡ j → SomeTree i ws at → SomeTree j ws at
some_as {ws = ws} {at} q s = subst (λ (k : Shape). SomeTree k ws at) q s

-- a walk's promise, the same
pub walks_as : {i j : Shape} {ws : List ℕ} {at to : ℕ} {P : List ℕ → ℕ → List (Piece Expr) → Type 0} → i ≡ j → Walks j ws at to P → Walks i ws at to P
walks_as {ws = ws} {at} {to} {P} q w = subst (λ (k : Shape). Walks k ws at to P) (sym q) w

-- a list of statements is the sort 68
pub body_sort_lem : sort_at 68 ≡ body
unfolding sort_at row_of all_rows parts
body_sort_lem = refl

-- ---- an expression

-- a field that is an expression: it stands there, and is its one piece
pub record InValue (ws ns : List ℕ) (n at : ℕ) (v : Tree Expr (one expr)) (end : ℕ) : Type 0 where
  pub expression : Expr
  pub there : W.Stands ws (strings ns n) at expression end
  pub is : pieces v ≡ expr_piece expression ∷ []

-- what stands there is one expression, and one piece
pub in_value : {ws ns : List ℕ} {n at end : ℕ} {v : Tree Expr (one expr)} → Stands ws ns n at v end → InValue ws ns n at v end
unfolding words_t Right pieces
in_value {v = value e} s = record { expression = e; there = record { wrote = s.wrote; valid = s.valid }; is = refl }

-- a walk over it: its end, and P of the one piece
pub value_done : {ws : List ℕ} {at to : ℕ} {P : List ℕ → ℕ → List (Piece Expr) → Type 0} → ((ns : List ℕ) (n : ℕ) (e : Expr) (end : ℕ) → W.Stands ws (strings ns n) at e end → (to ≡ end) × P ns n (expr_piece e ∷ [])) → Walks (one expr) ws at to P
value_done {P = P} f = record {
  gives = λ ns n v end s.
      let x = in_value s in
      let g = f ns n x.expression end x.there in
      (g.0, subst (λ (ps : List (Piece Expr)). P ns n ps) (sym x.is) g.1);
}

-- ---- a field that is some words and then rows

module _ {s : Sort} {ns : List ℕ} {n d : ℕ} {ws : List ℕ} {at c r k : ℕ} (t : Shallow (one s) ns n d ws at) (p : Planned s ws at c r k) where
  -- these words are within the words
  pub open_fits : at + c ≤ length ws
  open_fits =
      let o = p.opens ns n t.tree t.end t.stands in
      let h = o.there in
      omega (arith, h.wrote.span, h.wrote.inside)

  -- the rows stand after them
  pub open_rows : ShallowRows (row_of r) k ns n d ws (at + c)
  open_rows =
      let o = p.opens ns n t.tree t.end t.stands in
      record { tree = o.inner; end = t.end; stands = o.there; counted = o.counted; shallow = omega (arith, o.deep, t.shallow) }

-- a walk over the rows is one over the field
pub open_done : {s : Sort} {ws : List ℕ} {at to c r k : ℕ} {P : List ℕ → ℕ → List (Piece Expr) → Type 0} → Planned s ws at c r k → WalksRows (row_of r) k ws (at + c) to P → Walks (one s) ws at to P
open_done {P = P} p w = record {
  gives = λ ns n v end s.
      let o = p.opens ns n v end s in
      let g = w.gives ns n o.inner end o.there o.counted in
      (g.0, subst (λ (ps : List (Piece Expr)). P ns n ps) (sym o.is) g.1);
}

-- ---- a tree part by part

-- of v, which stands from `at` on, a tree of the shape j is left, which stands at a; P holds of what was seen
pub record Rest (ws ns : List ℕ) (n : ℕ) {i : Shape} (v : Tree Expr i) (j : Shape) (at end a : ℕ) (P : List (Piece Expr) → Type 0) : Type 0 where
  pub left : Tree Expr j
  pub there : Stands ws ns n a left end
  pub from : at ≤ a
  pub below : depth_t left ≤ depth_t v
  pub seen : List (Piece Expr)
  pub is : pieces v ≡ seen ++ pieces left
  pub holds : P seen

unfoldable rest_start : {ws ns : List ℕ} {n : ℕ} {i : Shape} {v : Tree Expr i} {at end : ℕ} {P : List (Piece Expr) → Type 0} → P [] → Stands ws ns n at v end → Rest ws ns n v i at end at P
rest_start {v = v} p s = record { left = v; there = s; from = omega arith; below = omega arith; seen = []; is = refl; holds = p }

-- a tree in two parts
record Split (ws ns : List ℕ) (n : ℕ) {j : Shape} (u : Tree Expr j) (h k : Shape) (a end : ℕ) : Type 0 where
  head : Tree Expr h
  mid : ℕ
  tail : Tree Expr k
  there : Stands ws ns n a head mid
  next : Stands ws ns n mid tail end
  is : pieces u ≡ pieces head ++ pieces tail
  deep : depth_t u ≡ max (depth_t head) (depth_t tail)

-- the next part walked
unfoldable rest_step : {ws ns : List ℕ} {n : ℕ} {i j h k : Shape} {v : Tree Expr i} {at end a a' : ℕ} {P Q P' : List (Piece Expr) → Type 0} (p : Rest ws ns n v j at end a P) (S : Split ws ns n p.left h k a end) → (a' ≡ S.mid) × Q (pieces S.head) → ((xs ys : List (Piece Expr)) → P xs → Q ys → P' (xs ++ ys)) → Rest ws ns n v k at end a' P'
rest_step {a = a} {a'} p S q f =
    let x = pieces S.head in
    let s = S.there in
    record {
      left = S.tail;
      there = rw q.0 S.next;
      from = omega (arith, p.from, q.0, s.wrote.span);
      below = omega (arith, p.below, S.deep);
      seen = p.seen ++ x;
      is = p.is ∙ ap (λ (l : List (Piece Expr)). p.seen ++ l) S.is ∙ sym (append_assoc p.seen x (pieces S.tail));
      holds = f p.seen x p.holds q.1;
    }

-- nothing left
rest_end : {ws ns : List ℕ} {n : ℕ} {i j : Shape} {v : Tree Expr i} {at end a : ℕ} {P : List (Piece Expr) → Type 0} (p : Rest ws ns n v j at end a P) → words_t p.left ≡ [] → pieces p.left ≡ [] → (a ≡ end) × P (pieces v)
rest_end {v = v} {P = P} p z y =
    let s = p.there in
    let w : pieces v ≡ p.seen = p.is ∙ ap (λ (l : List (Piece Expr)). p.seen ++ l) y ∙ append-nil p.seen in
    (omega (arith, s.wrote.span, ap length z), subst P (sym w) p.holds)

split_row : {ws ns : List ℕ} {n : ℕ} {s : Sort} {ss : Sorts} {a end : ℕ} {u : Tree Expr (row (s & ss))} → Stands ws ns n a u end → Split ws ns n u (one s) (row ss) a end
unfolding pieces depth_t words_t Right
split_row {u = cons v t} h = record { head = v; mid = _; tail = t; there = record { wrote = wrote_left (words_t v) (words_t t) h.wrote; valid = h.valid.0 }; next = record { wrote = wrote_right (words_t v) h.wrote; valid = h.valid.1 }; is = refl; deep = refl }

unfoldable split_rows : {ws ns : List ℕ} {n : ℕ} {ss : Sorts} {a end : ℕ} {u : Tree Expr (rows ss)} → 0 < count u → Stands ws ns n a u end → Split ws ns n u (row ss) (rows ss) a end
unfolding pieces depth_t words_t Right count
split_rows {u = none} z h = absurd (omega arith)
split_rows {u = more v t} z h = record { head = v; mid = _; tail = t; there = record { wrote = wrote_left (words_t v) (words_t t) h.wrote; valid = h.valid.0 }; next = record { wrote = wrote_right (words_t v) h.wrote; valid = h.valid.1 }; is = refl; deep = refl }

split_count : {ws ns : List ℕ} {n : ℕ} {ss : Sorts} {a end : ℕ} {u : Tree Expr (rows ss)} (z : 0 < count u) (h : Stands ws ns n a u end) → count (split_rows z h).tail + 1 ≡ count u
unfolding split_rows count
split_count {u = none} z h = absurd (omega arith)
split_count {u = more v t} z h = refl

row_over : (v : Tree Expr (row nil)) → (words_t v ≡ []) × (pieces v ≡ [])
unfolding words_t pieces
row_over done = (refl, refl)

rows_over : {ss : Sorts} (v : Tree Expr (rows ss)) → count v ≡ 0 → (words_t v ≡ []) × (pieces v ≡ [])
unfolding words_t pieces count
rows_over none h = (refl, refl)
rows_over (more v t) h = absurd (omega arith)

-- where the next part stands
pub record Here (i : Shape) (ns : List ℕ) (n d : ℕ) (ws : List ℕ) (at a : ℕ) : Type 0 where
  pub ready : Shallow i ns n d ws a
  pub from : at ≤ a

-- ---- several rows

-- of v, so many rows are left after i
pub record RowsPart (ws ns : List ℕ) (n : ℕ) {ss : Sorts} (v : Tree Expr (rows ss)) (at end a i : ℕ) (P : List (Piece Expr) → Type 0) : Type 0 where
  pub part : Rest ws ns n v (rows ss) at end a P
  pub few : count part.left + i ≡ count v

-- i rows walked, up to a
pub record WalkedRows (ss : Sorts) (k : ℕ) (ws : List ℕ) (at a i : ℕ) (P : List ℕ → ℕ → List (Piece Expr) → Type 0) : Type 0 where
  pub gives : (ns : List ℕ) (n : ℕ) (v : Tree Expr (rows ss)) (end : ℕ) → Stands ws ns n at v end → count v ≡ k → RowsPart ws ns n v at end a i (P ns n)

-- no row is walked
pub rows_start : (ss : Sorts) (k : ℕ) (ws : List ℕ) (at : ℕ) {P : List ℕ → ℕ → List (Piece Expr) → Type 0} → ((ns : List ℕ) (n : ℕ) → P ns n []) → WalkedRows ss k ws at at 0 P
unfolding rest_start
rows_start ss k ws at {P} f = record { gives = λ ns n v end s q. record { part = rest_start {P = P ns n} (f ns n) s; few = add-zero (count v) } }

-- the next one stands at a
pub next_row : {ss : Sorts} {k : ℕ} {ns : List ℕ} {n d : ℕ} {ws : List ℕ} {at a i : ℕ} {P : List ℕ → ℕ → List (Piece Expr) → Type 0} → ShallowRows ss k ns n d ws at → WalkedRows ss k ws at a i P → i < k → Here (row ss) ns n d ws at a
next_row {ns = ns} {n} t w h =
    let R = w.gives ns n t.tree t.end t.stands t.counted in
    let p = R.part in
    let S = split_rows (omega (arith, R.few, t.counted)) p.there in
    record { ready = record { tree = S.head; end = S.mid; stands = S.there; shallow = omega (arith, S.deep, p.below, t.shallow) }; from = p.from }

-- one more walked
pub rows_step : {ss : Sorts} {k : ℕ} {ws : List ℕ} {at a i a' : ℕ} {P Q P' : List ℕ → ℕ → List (Piece Expr) → Type 0} → WalkedRows ss k ws at a i P → i < k → Walks (row ss) ws a a' Q → ((ns : List ℕ) (n : ℕ) (xs ys : List (Piece Expr)) → P ns n xs → Q ns n ys → P' ns n (xs ++ ys)) → WalkedRows ss k ws at a' (i + 1) P'
unfolding rest_step
rows_step {P = P} {Q} {P'} w h d f = record {
  gives = λ ns n v end s q.
      let R = w.gives ns n v end s q in
      let p = R.part in
      let z : 0 < count p.left = omega (arith, R.few, q) in
      let S = split_rows z p.there in
      record { part = rest_step {P = P ns n} {Q = Q ns n} {P' = P' ns n} p S (d.gives ns n S.head S.mid S.there) (f ns n); few = omega (arith, R.few, split_count z p.there) };
}

-- all are walked
pub rows_done : {ss : Sorts} {k : ℕ} {ws : List ℕ} {at a i : ℕ} {P : List ℕ → ℕ → List (Piece Expr) → Type 0} → WalkedRows ss k ws at a i P → k ≤ i → WalksRows ss k ws at a P
rows_done {P = P} w h = record {
  gives = λ ns n v end s q.
      let R = w.gives ns n v end s q in
      let z = rows_over R.part.left (omega (arith, R.few, q)) in
      rest_end {P = P ns n} R.part z.0 z.1;
}

-- ---- a row of fields

-- i fields walked, up to a
pub record WalkedRow (r : ℕ) (ws : List ℕ) (at a i : ℕ) (P : List ℕ → ℕ → List (Piece Expr) → Type 0) : Type 0 where
  pub gives : (ns : List ℕ) (n : ℕ) (v : Tree Expr (row (row_of r))) (end : ℕ) → Stands ws ns n at v end → Rest ws ns n v (row (decode (drop i (codes r)))) at end a (P ns n)

rest_as : {ws ns : List ℕ} {n : ℕ} {i j k : Shape} {v : Tree Expr i} {at end a : ℕ} {P : List (Piece Expr) → Type 0} → j ≡ k → Rest ws ns n v j at end a P → Rest ws ns n v k at end a P
rest_as {ws} {ns} {n} {v = v} {at} {end} {a} {P} q p = subst (λ (j : Shape). Rest ws ns n v j at end a P) q p

-- no field is walked
pub row_start : (r : ℕ) (ws : List ℕ) (at : ℕ) {P : List ℕ → ℕ → List (Piece Expr) → Type 0} → ((ns : List ℕ) (n : ℕ) → P ns n []) → WalkedRow r ws at at 0 P
row_start r ws at {P} f = record { gives = λ ns n v end s. rest_as {P = P ns n} (ap row (sym (decode_row r))) (rest_start {P = P ns n} (f ns n) s) }

-- the row from the i-th field on, which has the number k
pub on : (r i k : ℕ) → k ≡ get_or (codes r) i 0 → (k ≡ 0 → ⊥) → decode (drop i (codes r)) ≡ sort_at k & decode (drop (i + 1) (codes r))
on r i k e z = decode_go (codes r) i (λ y. z (e ∙ y)) ∙ ap (λ (x : ℕ). sort_at x & decode (drop (i + 1) (codes r))) (sym e)

-- the next one, of the number k, stands at a
pub next_field : {r : ℕ} {ns : List ℕ} {n d : ℕ} {ws : List ℕ} {at a i k : ℕ} {P : List ℕ → ℕ → List (Piece Expr) → Type 0} → Shallow (row (row_of r)) ns n d ws at → WalkedRow r ws at a i P → k ≡ get_or (codes r) i 0 → (k ≡ 0 → ⊥) → Here (one (sort_at k)) ns n d ws at a
next_field {r} {ns} {n} {i = i} {k} {P} t w e z =
    let p = rest_as {P = P ns n} (ap row (on r i k e z)) (w.gives ns n t.tree t.end t.stands) in
    let S = split_row p.there in
    record { ready = record { tree = S.head; end = S.mid; stands = S.there; shallow = omega (arith, S.deep, p.below, t.shallow) }; from = p.from }

-- one more walked
pub row_step : {r : ℕ} {ws : List ℕ} {at a i k a' : ℕ} {P Q P' : List ℕ → ℕ → List (Piece Expr) → Type 0} → WalkedRow r ws at a i P → k ≡ get_or (codes r) i 0 → (k ≡ 0 → ⊥) → Walks (one (sort_at k)) ws a a' Q → ((ns : List ℕ) (n : ℕ) (xs ys : List (Piece Expr)) → P ns n xs → Q ns n ys → P' ns n (xs ++ ys)) → WalkedRow r ws at a' (i + 1) P'
row_step {r} {i = i} {k} {P = P} {Q} {P'} w e z d f = record {
  gives = λ ns n v end s.
      let p = rest_as {P = P ns n} (ap row (on r i k e z)) (w.gives ns n v end s) in
      let S = split_row p.there in
      rest_step {P = P ns n} {Q = Q ns n} {P' = P' ns n} p S (d.gives ns n S.head S.mid S.there) (f ns n);
}

row_nil : {r : ℕ} {ws : List ℕ} {at a i : ℕ} {P : List ℕ → ℕ → List (Piece Expr) → Type 0} → WalkedRow r ws at a i P → decode (drop i (codes r)) ≡ nil → Walks (row (row_of r)) ws at a P
row_nil {P = P} w q = record {
  gives = λ ns n v end s.
      let p = rest_as {P = P ns n} (ap row q) (w.gives ns n v end s) in
      let z = row_over p.left in
      rest_end {P = P ns n} p z.0 z.1;
}

-- at the first 0 all are walked
pub row_stop : {r : ℕ} {ws : List ℕ} {at a i k : ℕ} {P : List ℕ → ℕ → List (Piece Expr) → Type 0} → WalkedRow r ws at a i P → k ≡ get_or (codes r) i 0 → k ≡ 0 → Walks (row (row_of r)) ws at a P
row_stop {r} {i = i} w e z = row_nil w (decode_stop (codes r) i (sym e ∙ z))

-- so they are after the sixth
pub row_full : {r : ℕ} {ws : List ℕ} {at a i : ℕ} {P : List ℕ → ℕ → List (Piece Expr) → Type 0} → WalkedRow r ws at a i P → 6 ≤ i → Walks (row (row_of r)) ws at a P
row_full {r} {i = i} w h = row_nil w (decode_over r i h)

-- ---- a statement

-- its head's kind is 64 plus its kind's number
pub head_kind : {ws ns : List ℕ} {n at end : ℕ} {k : Kind} {line : ℕ} {r : Tree Expr (row (sorts k))} → Stands ws ns n at (Stmt k line r) end → kind_of (get_or ws at 0) ≡ 64 + number_of k
unfolding words_t Right
head_kind {k = k} {line} s = ap kind_of (wrote_first s.wrote).is ∙ kind_is (64 + number_of k) line s.valid.0

-- its head is within the words, and its kind from 64 to 117
pub head_range : {ws ns : List ℕ} {n at end : ℕ} {v : Tree Expr (one stmt)} → Stands ws ns n at v end → (64 ≤ kind_of (get_or ws at 0)) × (kind_of (get_or ws at 0) < 118) × (at < length ws)
unfolding words_t
head_range {v = Stmt k line r} s = (omega (arith, head_kind s), omega (arith, head_kind s, number_small k), (wrote_first s.wrote).inside)

-- the kind by its number
pub of_number : (k : Kind) (j : ℕ) → number_of k ≡ j → k ≡ kind_at j
of_number k j q = sym (kind_number k) ∙ ap kind_at q

-- the row of its head's kind is its kind's
pub stmt_row : {ws ns : List ℕ} {n at end : ℕ} {k : Kind} {line : ℕ} {r : Tree Expr (row (sorts k))} → Stands ws ns n at (Stmt k line r) end → row_of (kind_of (get_or ws at 0) - 64 + 39) ≡ sorts k
stmt_row {ws} {at = at} {k = k} s =
    let e : kind_of (get_or ws at 0) - 64 ≡ number_of k = omega (arith, head_kind s) in
    ap (λ (x : ℕ). row_of (x + 39)) e ∙ row_kind (number_of k) (number_small k) ∙ ap sorts (kind_number k)

-- its fields stand after the head
pub fields : {ws ns : List ℕ} {n at end : ℕ} {k : Kind} {line : ℕ} {r : Tree Expr (row (sorts k))} → Stands ws ns n at (Stmt k line r) end → Stands ws ns n (at + 1) r end
fields s = (stmt_line s).2

-- its row stands after the head, no deeper
pub fields_there : {ns : List ℕ} {n d : ℕ} {ws : List ℕ} {at : ℕ} → Shallow (one stmt) ns n d ws at → Shallow (row (row_of (kind_of (get_or ws at 0) - 64 + 39))) ns n d ws (at + 1)
unfolding depth_t
fields_there {ns} {n} {d} {ws} {at} t = go t.tree t.stands t.shallow
  where
    go : (v : Tree Expr (one stmt)) → Stands ws ns n at v t.end → depth_t v ≤ d → Shallow (row (row_of (kind_of (get_or ws at 0) - 64 + 39))) ns n d ws (at + 1)
    go (Stmt k line f) s h = shallow_as (ap row (sym (stmt_row s))) (record { tree = f; end = t.end; stands = fields s; shallow = omega arith })
