-- The definition of reading gives every right tree that stands at a place and is not too deep. So what stands at a place is one tree only. Assumes nothing.
use Prim.Native.Nat.{ℕ, zero, suc, ◌+◌, ◌-◌, ◌<◌, ◌≤◌, max}
use mathlib.Core.Path.{◌≡◌, refl, sym, ap, subst, ◌∙◌}
use mathlib.Core.List.{List, ◌∷◌, ◌++◌, append-nil}
use mathlib.Core.Bool.{Bool, true, false, not, ◌&&◌, ◌||◌, false≢true}
use mathlib.Mathlib.Data.Bool.Basic.{and_elim_left, and_elim_right, or_inl, or_inr}
use native.Mathlib.Omega.{arith}
use native.Mathlib.Numerals.{add-one, sub-one}
use lib.ListN.{length, get_or}
use lib.Seq.{drop-length}
use lib.Dec.{eqb, lit<}
use borrow.Author.Tests.{lt-ltb, le-leb, eq-eqb}
use Rattle.tree_expr.specs.Expr.{Expr, Lit, Var, Elem, Unary, Binary, Call, Field, Paren, kind_e}
use Rattle.base_words.specs.Word.{word_of, kind_of, pay_of}
use Rattle.base_words.specs.Each.{tuple}
use Rattle.tree_expr.specs.Got.{Got, got, bind}
use Rattle.tree_expr.specs.Reader.{expr_at}
use Rattle.tree_expr.specs.Stands.{Wrote}
use Rattle.tree_expr.proofs.Parts.{First, wrote_first, wrote_left, wrote_right, kind_is, pay_is, ends}
use Rattle.tree_expr.proofs.Complete.{complete, put_leaf}
use Rattle.tree_expr.proofs.Nodes.{kind_of_lem}
use Rattle.tree_stmt.specs.Sorts.{Sort, leaf, expr, stmt, many, group, either, never, Sorts, nil, ◌&◌, Kind, sorts, kinds, kind_at, number_of}
use Rattle.tree_stmt.specs.KindLaws.{kind_number, same_kinds, number_small}
use Rattle.tree_stmt.specs.Tree.{strings, Shape, one, row, rows, Tree, word, value, Stmt, list, part, this, that, done, cons, none, more, count, kind_l, ok_l, between, words_t, depth_t, Right}
use Rattle.tree_stmt.specs.Reader.{word_at, is_at, stmt_head, rows_at, field_at, row_at, rest_at, stmt_at, program_at}
use Rattle.tree_stmt.proofs.Sound.{is_got}

-- ---- no alternative begins like another

-- a value of the sort may begin with a word of the kind
unfoldable mutual
  -- of a field
  pub may : Sort → ℕ → Bool
  may (leaf l) k = eqb k (kind_l l)
  may expr k = between 16 24 k
  may stmt k = between 64 118 k
  may (many ss) k = eqb k 1
  may (group ss) k = may_r ss k
  may (either j ss s) k = eqb k j || may s k
  may never k = false

  -- of a row: its first field's; any word where it has none
  pub may_r : Sorts → ℕ → Bool
  may_r nil k = true
  may_r (s & ss) k = may s k

unfoldable mutual
  unfolding may

  -- in a field of the sort no choice begins like a later one
  pub clear : Sort → Bool
  clear (leaf l) = true
  clear expr = true
  clear stmt = true
  clear (many ss) = clear_r ss
  clear (group ss) = clear_r ss
  clear (either k ss s) = not (may s k) && (clear_r ss && clear s)
  clear never = true

  -- in each field of a row
  pub clear_r : Sorts → Bool
  clear_r nil = true
  clear_r (s & ss) = clear s && clear_r ss

abbrev Clear : Shape → Bool
Clear (one s) = clear s
Clear (row ss) = clear_r ss
Clear (rows ss) = clear_r ss

not_true : (a : Bool) → not a ≡ true → a ≡ true → ⊥
not_true true e f = false≢true e
not_true false e f = false≢true f

is_false : (a : Bool) → (a ≡ true → ⊥) → a ≡ false
is_false true f = absurd (f refl)
is_false false f = refl

-- every statement kind is clear
pub clear_kind : (k : Kind) → clear_r (sorts k) ≡ true
unfolding tuple kinds sorts clear clear_r may may_r
clear_kind = same_kinds (λ k. Bool) (λ k. clear_r (sorts k)) (λ k. true) refl

between_is : (a b x : ℕ) → a ≤ x → x < b → between a b x ≡ true
between_is a b x h k = simp (le-leb a x h, lt-ltb x b k)

kind_e_in : (e : Expr) → between 16 24 (kind_e e) ≡ true
unfolding kind_e
kind_e_in (Lit l) = refl
kind_e_in (Var x) = refl
kind_e_in (Elem x es) = refl
kind_e_in (Unary o e) = refl
kind_e_in (Binary o l r) = refl
kind_e_in (Call x es) = refl
kind_e_in (Field e x) = refl
kind_e_in (Paren e) = refl

module _ (ws ns : List ℕ) (n : ℕ) where
  -- what may stand first in a shape
  abbrev Begins : Shape → ℕ → Type 0
  Begins (one s) k = may s k ≡ true
  Begins (row ss) k = may_r ss k ≡ true
  Begins (rows ss) k = Unit {0}

  head_kind : {at k x end : ℕ} {xs : List ℕ} → x < 16777216 → Wrote ws at (word_of k x ∷ xs) end → kind_of (get_or ws at 0) ≡ k
  head_kind {at} {k} {x} {end} {xs} h w = ap kind_of (wrote_first w).is ∙ kind_is k x h

  begins : {i : Shape} (v : Tree Expr i) (at end : ℕ) → at < length ws → Right ns n v → Wrote ws at (words_t v) end → Begins i (kind_of (get_or ws at 0))
  unfolding words_t Right may may_r
  begins (word x) at end h r w = eq-eqb _ _ (head_kind r.1 w)
  begins (value e) at end h r w = rw (kind_of_lem (record { wrote = w; valid = r })) (kind_e_in e)
  begins (Stmt k line t) at end h r w = let z = number_small k in rw (head_kind r.0 w) (between_is 64 118 (64 + number_of k) (omega arith) (omega arith))
  begins (list rs) at end h r w = eq-eqb _ _ (head_kind r.0 w)
  begins (part t) at end h r w = begins t at end h r w
  begins (this t) at end h r w = or_inl _ _ (eq-eqb _ _ (head_kind (lit< tt) w))
  begins (that {k} v) at end h r w = or_inr (eqb (kind_of (get_or ws at 0)) k) _ (begins v at end h r w)
  begins done at end h r w = refl
  begins (cons v t) at end h r w = begins v at _ h r.0 (wrote_left (words_t v) (words_t t) w)
  begins none at end h r w = tt
  begins (more t ts) at end h r w = tt

  -- a value that can't begin with a word of kind k doesn't: its first word isn't the head of that kind
  pub not_first : (k : ℕ) {s : Sort} (v : Tree Expr (one s)) (at end : ℕ) → not (may s k) ≡ true → Right ns n v → Wrote ws at (words_t v) end → is_at ws (word_of k 0) at ≡ false
  not_first k {s} v at end c r w = is_false (is_at ws (word_of k 0) at) (λ e.
      let z = is_got ws (word_of k 0) at e in
      let q : kind_of (get_or ws at 0) ≡ k = ap kind_of z.1 ∙ kind_is k 0 (lit< tt) in
      not_true (may s k) c (subst (λ (x : ℕ). may s x ≡ true) q (begins v at end z.0 r w)))

  put_word : (k : ℕ) (ok : ℕ → Bool) (at x end : ℕ) (xs : List ℕ) → ok x ≡ true → x < 16777216 → First ws at (word_of k x) xs end → word_at ws k ok at ≡ got x (at + 1)
  unfolding word_at
  put_word k ok at x end xs o f h = simp (lt-ltb at (length ws) h.inside, h.is, kind_is k x f, pay_is k x f, eq-eqb k k refl, o)

  put_is : (w at end : ℕ) (xs : List ℕ) → First ws at w xs end → is_at ws w at ≡ true
  unfolding is_at
  put_is w at end xs h = simp (lt-ltb at (length ws) h.inside, h.is, eq-eqb w w refl)

  put_stmt : (k x at end : ℕ) (xs : List ℕ) → 64 ≤ k → k < 118 → x < 16777216 → First ws at (word_of k x) xs end → stmt_head ws at ≡ got (word_of k x) (at + 1)
  unfolding stmt_head
  put_stmt k x at end xs a b f h = simp (lt-ltb at (length ws) h.inside, h.is, kind_is k x f, le-leb 64 k a, lt-ltb k 118 b)

  stmt_some : (d at : ℕ) → 0 < d → stmt_at ws ns n d at ≡ bind (stmt_head ws at) (rest_at ws ns n (expr_at ws (strings ns n) (d - 1)) (stmt_at ws ns n (d - 1)))
  unfolding stmt_at
  stmt_some zero at z = absurd (omega arith)
  stmt_some (suc d) at z = rw sub-one refl

  rest_is : (g : ℕ → Got Expr) (sub_s : ℕ → Got (Tree Expr (one stmt))) (k : Kind) (line m : ℕ) → line < 16777216 → rest_at ws ns n g sub_s (word_of (64 + number_of k) line) m ≡ bind (row_at ws ns n g sub_s (sorts k) m) (λ r m'. got (Stmt k line r) m')
  unfolding rest_at
  rest_is g sub_s k line m h =
      let w : ℕ = word_of (64 + number_of k) line in
      let p : pay_of w ≡ line = pay_is (64 + number_of k) line h in
      let e : kind_of w - 64 ≡ number_of k = omega (arith, kind_is (64 + number_of k) line h) in
      let q : kind_at (kind_of w - 64) ≡ k = ap kind_at e ∙ kind_number k in
      ap (λ (x : ℕ). bind (row_at ws ns n g sub_s (sorts (kind_at (kind_of w - 64))) m) (λ r m'. got (Stmt (kind_at (kind_of w - 64)) x r) m')) p
      ∙ ap (λ (x : Kind). bind (row_at ws ns n g sub_s (sorts x) m) (λ r m'. got (Stmt x line r) m')) q

  -- the definition of reading gives the tree at a place, up to its end
  abbrev pub ReadAt : ℕ → (i : Shape) → ℕ → Tree Expr i → ℕ → Type 0
  ReadAt d (one s) at v end = field_at ws ns n (expr_at ws (strings ns n) d) (stmt_at ws ns n d) s at ≡ got v end
  ReadAt d (row ss) at v end = row_at ws ns n (expr_at ws (strings ns n) d) (stmt_at ws ns n d) ss at ≡ got v end
  ReadAt d (rows ss) at v end = rows_at ws ns n (λ x. row_at ws ns n (expr_at ws (strings ns n) d) (stmt_at ws ns n d) ss x) (count v) at ≡ got v end

  -- a right tree of a clear shape that stands there and is no deeper than the levels left is read
  pub completes : {i : Shape} (v : Tree Expr i) (d at end : ℕ) → Clear i ≡ true → depth_t v ≤ d → Right ns n v → Wrote ws at (words_t v) end → ReadAt d i at v end
  unfolding field_at row_at rows_at words_t Right depth_t count clear clear_r bind
  completes (word {l} x) d at end c z r w =
      let f = wrote_first w in
      rw (put_word (kind_l l) (ok_l ns n l) at x end _ r.0 r.1 f) (ap (got (word x)) (ends f))
  completes (value e) d at end c z r w = rw (complete ws (strings ns n) e d at end z r w) refl
  completes (Stmt k line t) d at end c z r w =
      let f = wrote_first w in
      let b = number_small k in
      let i : ReadAt (d - 1) (row (sorts k)) (at + 1) t end = completes t (d - 1) (at + 1) end (clear_kind k) (omega arith) r.1 f.rest in
      stmt_some d at (omega arith) ∙ rw (put_stmt (64 + number_of k) line at end _ (omega arith) (omega arith) r.0 f) (rest_is (expr_at ws (strings ns n) (d - 1)) (stmt_at ws ns n (d - 1)) k line (at + 1) r.0 ∙ rw i refl)
  completes (list rs) d at end c z r w =
      let f = wrote_first w in
      rw (put_leaf ws 1 16777216 at (count rs) end _ (record { below = r.0; fits = r.0 }) f, completes rs d (at + 1) end c z r.1 f.rest) refl
  completes (part t) d at end c z r w = rw (completes t d at end c z r w) refl
  completes (this {k} {ss} {s} t) d at end c z r w =
      let f = wrote_first w in
      rw (put_is (word_of k 0) at end _ f, completes t d (at + 1) end (and_elim_left (clear_r ss) (clear s) (and_elim_right (not (may s k)) _ c)) z r f.rest) refl
  completes (that {k} {ss} {s} v) d at end c z r w =
      rw (not_first k v at end (and_elim_left (not (may s k)) _ c) r w, completes v d at end (and_elim_right (clear_r ss) (clear s) (and_elim_right (not (may s k)) _ c)) z r w) refl
  completes done d at end c z r w = ap (got done) (omega (arith, w.span))
  completes (cons {s} {ss} v t) d at end c z r w =
      rw (completes v d at _ (and_elim_left (clear s) (clear_r ss) c) (omega arith) r.0 (wrote_left (words_t v) (words_t t) w), completes t d _ end (and_elim_right (clear s) (clear_r ss) c) (omega arith) r.1 (wrote_right (words_t v) w)) refl
  completes none d at end c z r w = ap (got none) (omega (arith, w.span))
  completes (more t ts) d at end c z r w =
      rw (add-one (count ts), completes t d at _ c (omega arith) r.0 (wrote_left (words_t t) (words_t ts) w), completes ts d _ end c (omega arith) r.1 (wrote_right (words_t t) w)) refl

-- a place has one tree of a sort only, and it ends at one place
pub one_tree : (ws ns : List ℕ) (n : ℕ) {s : Sort} (v v' : Tree Expr (one s)) (at end to : ℕ) → clear s ≡ true → Right ns n v → Right ns n v' → Wrote ws at (words_t v) end → Wrote ws at (words_t v') to → (v ≡ v') × (end ≡ to)
one_tree ws ns n v v' at end to c r r' w w' =
    let d : ℕ = max (depth_t v) (depth_t v') in
    let a = completes ws ns n v d at end c (omega arith) r w in
    let b = completes ws ns n v' d at to c (omega arith) r' w' in
    (cc, cc)

-- the words of a right program that is not too deep are read as that program, and to their end
pub program_complete : (ns : List ℕ) (n : ℕ) (p : Tree Expr (one (many (stmt & nil)))) → depth_t p ≤ 100 → Right ns n p → program_at (words_t p) ns n ≡ got p (length (words_t p))
unfolding program_at clear clear_r
program_complete ns n p z r = completes (words_t p) ns n p 100 0 (length (words_t p)) refl z r (record { span = omega arith; inside = omega arith; is = sym (append-nil (words_t p)) ∙ ap (λ (l : List ℕ). words_t p ++ l) (sym (drop-length (words_t p))) })
