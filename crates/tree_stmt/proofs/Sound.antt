-- What is read is the tree whose words stand there, it is right, and it is not too deep. Assumes nothing.
use Prim.Native.Nat.{ℕ, zero, suc, ◌+◌, ◌-◌, ◌<◌, ◌≤◌}
use mathlib.Core.Path.{◌≡◌, refl, sym, ◌∙◌}
use mathlib.Core.List.{List}
use mathlib.Core.Bool.{Bool, true, false}
use mathlib.Core.Logic.{◌⊎◌, inl, inr, ⊎_elim}
use native.Mathlib.Omega.{arith}
use native.Mathlib.Numerals.{add-one}
use native.Mathlib.Nat.{le_trans}
use lib.ListN.{length, get_or}
use lib.Dec.{ltb, leb, eqb}
use borrow.Author.Tests.{ltb-true, leb-true, eqb-true}
use Rattle.tree_expr.specs.Expr.{Expr}
use Rattle.base_words.specs.Word.{word_of, pick, kind_of, pay_of}
use Rattle.tree_expr.specs.Got.{Got, got, bind}
use Rattle.tree_expr.specs.Reader.{leaf_at, expr_at}
use Rattle.tree_expr.specs.Stands.{Wrote}
use Rattle.tree_expr.proofs.Laws.{pick_true, wrong_got, deep_got, bind_got, map_got, leaf_got}
use Rattle.tree_expr.proofs.Parts.{wrote_none, wrote_cons, wrote_cat, word_is}
use Rattle.tree_expr.proofs.Sound.{sound, cons_leaf}
use Rattle.tree_expr.specs.Answer.{step_of}
use Rattle.tree_expr.specs.declared.Cursor.{Cursor}
use Rattle.tree_expr.proofs.Steps.{read}
use Rattle.tree_stmt.specs.Sorts.{Sort, leaf, expr, stmt, many, group, either, never, Sorts, nil, ◌&◌, Kind, sorts, kinds, kind_at, number_of}
use Rattle.tree_stmt.specs.Tree.{strings, Shape, one, row, rows, Tree, word, value, Stmt, list, part, this, that, done, none, count, kind_l, ok_l, words_t, depth_t, Right}
use Rattle.tree_stmt.specs.Reader.{word_at, never_at, is_at, stmt_head, rows_at, field_at, row_at, rest_at, stmt_at, program_at}
use Rattle.std.specs.Prelude.{Ok}

-- a word of kind k whose payload is right
pub record IsWord (ws : List ℕ) (k : ℕ) (ok : ℕ → Bool) (at x m : ℕ) : Type 0 where
  pub inside : at < length ws
  pub kind : kind_of (get_or ws at 0) ≡ k
  pub is : x ≡ pay_of (get_or ws at 0)
  pub right : ok x ≡ true
  pub to : m ≡ at + 1

word_got : {ws : List ℕ} {k : ℕ} {ok : ℕ → Bool} {at x m : ℕ} → word_at ws k ok at ≡ got x m → IsWord ws k ok at x m
unfolding word_at
word_got {ws} {k} {ok} {at} {x} {m} e =
    let u : ℕ = get_or ws at 0 in
    let h1 = pick_true (ltb at (length ws)) e wrong_got in
    let h2 = pick_true (eqb (kind_of u) k) h1.1 wrong_got in
    let h3 = pick_true (ok (pay_of u)) h2.1 wrong_got in
    let e1 = h3.1 in
    let q : x ≡ pay_of u = cc in
    record { inside = ltb-true at (length ws) h1.0; kind = eqb-true (kind_of u) k h2.0; is = q; right = rw q h3.0; to = cc }

pick_cases : {A : Type 0} (t : Bool) {x y z : A} → pick t x y ≡ z → ((t ≡ true) × (x ≡ z)) ⊎ ((t ≡ false) × (y ≡ z))
pick_cases true e = inl (refl, e)
pick_cases false e = inr (refl, e)

-- the test of a word at a place: it is within the words, and it is this one
pub is_got : (ws : List ℕ) (w at : ℕ) → is_at ws w at ≡ true → (at < length ws) × (get_or ws at 0 ≡ w)
unfolding is_at
is_got ws w at e =
    let h = pick_true (ltb at (length ws)) e mathlib.Core.Bool.false≢true in
    (ltb-true at (length ws) h.0, eqb-true (get_or ws at 0) w h.1)

never_got : {A : Type 0} (ws : List ℕ) (at : ℕ) {a : A} {m : ℕ} → never_at ws at ≡ got a m → ⊥
unfolding never_at
never_got ws at e = ⊎_elim (λ h. wrong_got h.1) (λ h. wrong_got h.1) (pick_cases (ltb at (length ws)) e)

-- a tree as it stands there
pub record Fine (ws ns : List ℕ) (n d at : ℕ) {i : Shape} (v : Tree Expr i) (end : ℕ) : Type 0 where
  pub wrote : Wrote ws at (words_t v) end
  pub valid : Right ns n v
  pub deep : depth_t v ≤ d

module _ (ws ns : List ℕ) (n d : ℕ) (sub_s : ℕ → Got (Tree Expr (one stmt))) (S : (at : ℕ) (s : Tree Expr (one stmt)) (end : ℕ) → sub_s at ≡ got s end → Fine ws ns n d at s end) where
  -- so many rows
  rows_sound : {ss : Sorts} (f : ℕ → Got (Tree Expr (row ss))) → ((at : ℕ) (r : Tree Expr (row ss)) (end : ℕ) → at ≤ length ws → f at ≡ got r end → Fine ws ns n d at r end) → (c at : ℕ) (rs : Tree Expr (rows ss)) (end : ℕ) → at ≤ length ws → rows_at ws ns n f c at ≡ got rs end → Fine ws ns n d at rs end × (count rs ≡ c)
  unfolding rows_at words_t Right depth_t count
  rows_sound f F zero at rs end i h =
      let e : rs ≡ none = cc in
      let q : at ≡ end = cc in
      rw (e, ← q) (record { wrote = wrote_none ws at i; valid = tt; deep = omega arith }, refl)
  rows_sound f F (suc c) at rs end i h =
      let v = bind_got (f at) h in
      let w = map_got _ (rows_at ws ns n f c v.1) v.3 in
      let E = F at v.0 v.1 i v.2 in
      let R = rows_sound f F c v.1 w.0 end E.wrote.inside w.1 in
      rw w.2 (record { wrote = wrote_cat E.wrote R.0.wrote; valid = (E.valid, R.0.valid); deep = omega (arith, E.deep, R.0.deep) }, rw R.1 (add-one c))

  mutual
    unfolding field_at row_at words_t Right depth_t

    -- a field that was read stands there
    pub field_sound : (s : Sort) (at : ℕ) (v : Tree Expr (one s)) (end : ℕ) → at ≤ length ws → field_at ws ns n (expr_at ws (strings ns n) d) sub_s s at ≡ got v end → Fine ws ns n d at v end
    field_sound (leaf l) at v end i h =
        let a = map_got word (word_at ws (kind_l l) (ok_l ns n l) at) h in
        let L = word_got a.1 in
        let x : ℕ = a.0 in
        rw a.2 (record { wrote = wrote_cons L.inside (word_is _ _ _ L.kind (sym L.is)) L.to (wrote_none ws end (omega (arith, L.inside, L.to))); valid = (L.right, omega (arith, L.is)); deep = omega arith })
    field_sound expr at v end i h =
        let a = map_got value (expr_at ws (strings ns n) d at) h in
        let R = sound ws (strings ns n) d at a.0 end a.1 in
        rw a.2 (record { wrote = R.wrote; valid = R.valid; deep = R.deep })
    field_sound stmt at v end i h = S at v end h
    field_sound (many ss) at v end i h =
        let a = bind_got (leaf_at ws 1 16777216 at) h in
        let L = leaf_got a.2 in
        let b = map_got list (rows_at ws ns n (λ x. row_at ws ns n (expr_at ws (strings ns n) d) sub_s ss x) a.0 a.1) a.3 in
        let R = rows_sound (λ x. row_at ws ns n (expr_at ws (strings ns n) d) sub_s ss x) (λ p r e j q. row_sound ss p r e j q) a.0 a.1 b.0 end (omega (arith, L.inside, L.to)) b.1 in
        rw b.2 (record { wrote = rw R.1 (cons_leaf L R.0.wrote); valid = (rw R.1 L.below, R.0.valid); deep = R.0.deep })
    field_sound (group ss) at v end i h =
        let a = map_got part (row_at ws ns n (expr_at ws (strings ns n) d) sub_s ss at) h in
        let R = row_sound ss at a.0 end i a.1 in
        rw a.2 (record { wrote = R.wrote; valid = R.valid; deep = R.deep })
    field_sound (either k ss s) at v end i h =
        ⊎_elim (λ (b : (is_at ws (word_of k 0) at ≡ true) × (bind (row_at ws ns n (expr_at ws (strings ns n) d) sub_s ss (at + 1)) (λ r m. got (this r) m) ≡ got v end)).
        let z = is_got ws (word_of k 0) at b.0 in
        let a = map_got this (row_at ws ns n (expr_at ws (strings ns n) d) sub_s ss (at + 1)) b.1 in
        let R = row_sound ss (at + 1) a.0 end (omega (arith, z.0)) a.1 in
        rw a.2 (record { wrote = wrote_cons z.0 z.1 refl R.wrote; valid = R.valid; deep = R.deep }))
        (λ (b : (is_at ws (word_of k 0) at ≡ false) × (bind (field_at ws ns n (expr_at ws (strings ns n) d) sub_s s at) (λ u m. got (that u) m) ≡ got v end)).
        let a = map_got that (field_at ws ns n (expr_at ws (strings ns n) d) sub_s s at) b.1 in
        let R = field_sound s at a.0 end i a.1 in
        rw a.2 (record { wrote = R.wrote; valid = R.valid; deep = R.deep }))
        (pick_cases (is_at ws (word_of k 0) at) h)
    field_sound never at v end i h = absurd (never_got ws at h)

    -- and a row
    pub row_sound : (ss : Sorts) (at : ℕ) (r : Tree Expr (row ss)) (end : ℕ) → at ≤ length ws → row_at ws ns n (expr_at ws (strings ns n) d) sub_s ss at ≡ got r end → Fine ws ns n d at r end
    row_sound nil at r end i h =
        let e : r ≡ done = cc in
        let q : at ≡ end = cc in
        rw (e, ← q) (record { wrote = wrote_none ws at i; valid = tt; deep = omega arith })
    row_sound (s & ss) at r end i h =
        let a = bind_got (field_at ws ns n (expr_at ws (strings ns n) d) sub_s s at) h in
        let b = map_got _ (row_at ws ns n (expr_at ws (strings ns n) d) sub_s ss a.1) a.3 in
        let F = field_sound s at a.0 a.1 i a.2 in
        let R = row_sound ss a.1 b.0 end F.wrote.inside b.1 in
        rw b.2 (record { wrote = wrote_cat F.wrote R.wrote; valid = (F.valid, R.valid); deep = omega (arith, F.deep, R.deep) })

-- a statement's kind is the head's
all_b : (ℕ → Bool) → ℕ → Bool
all_b p zero = true
all_b p (suc n) = pick (p n) (all_b p n) false

all_at : (p : ℕ → Bool) (n : ℕ) → all_b p n ≡ true → (i : ℕ) → i < n → p i ≡ true
unfolding all_b
all_at p zero h i z = absurd (omega arith)
all_at p (suc n) h i z =
    let a = pick_true (p n) h mathlib.Core.Bool.false≢true in
    elim (native.Mathlib.Decide.ℕ_discrete i n) [ yes e ↦ rw e a.0 | no f ↦ all_at p n a.1 i (omega arith) ]

number_test : ℕ → Bool
number_test r = eqb (number_of (kind_at r)) r

-- the number of the kind at r is r
pub number_of_lem : (r : ℕ) → r < 54 → number_of (kind_at r) ≡ r
unfolding number_test all_b kind_at kinds number_of
number_of_lem r h = eqb-true (number_of (kind_at r)) r (all_at number_test 54 refl r h)

-- a statement's head
pub record IsHead (ws : List ℕ) (at w m : ℕ) : Type 0 where
  pub inside : at < length ws
  pub is : w ≡ get_or ws at 0
  pub from : 64 ≤ kind_of w
  pub upto : kind_of w < 118
  pub to : m ≡ at + 1

-- a statement's head that was read is a word of a kind from 64 to 117
pub head_got : (ws : List ℕ) (at w m : ℕ) → stmt_head ws at ≡ got w m → IsHead ws at w m
unfolding stmt_head
head_got ws at w m e =
    let u : ℕ = get_or ws at 0 in
    let h1 = pick_true (ltb at (length ws)) e wrong_got in
    let h2 = pick_true (leb 64 (kind_of u)) h1.1 wrong_got in
    let h3 = pick_true (ltb (kind_of u) 118) h2.1 wrong_got in
    let e1 = h3.1 in
    let q : w ≡ u = cc in
    record { inside = ltb-true at (length ws) h1.0; is = q; from = rw q (leb-true 64 (kind_of u) h2.0); upto = rw q (ltb-true (kind_of u) 118 h3.0); to = cc }

rest_sound : (ws ns : List ℕ) (n d : ℕ) (sub_s : ℕ → Got (Tree Expr (one stmt))) → ((at : ℕ) (s : Tree Expr (one stmt)) (end : ℕ) → sub_s at ≡ got s end → Fine ws ns n d at s end) → (at w m : ℕ) (s : Tree Expr (one stmt)) (end : ℕ) → IsHead ws at w m → rest_at ws ns n (expr_at ws (strings ns n) d) sub_s w m ≡ got s end → Fine ws ns n (suc d) at s end
unfolding rest_at words_t Right depth_t
rest_sound ws ns n d sub_s S at w m s end H h =
    let k : Kind = kind_at (kind_of w - 64) in
    let a = map_got (Stmt k (pay_of w)) (row_at ws ns n (expr_at ws (strings ns n) d) sub_s (sorts k) m) h in
    let R = row_sound ws ns n d sub_s S (sorts k) m a.0 end (omega (arith, H.inside, H.to)) a.1 in
    let r : number_of k ≡ kind_of w - 64 = number_of_lem (kind_of w - 64) (omega (arith, H.from, H.upto)) in
    let q : w ≡ word_of (64 + number_of k) (pay_of w) = word_is w (64 + number_of k) (pay_of w) (omega (arith, r, H.from)) refl in
    rw a.2 (record { wrote = wrote_cons H.inside (sym H.is ∙ q) H.to R.wrote; valid = (omega arith, R.valid); deep = omega (arith, R.deep) })

-- a statement that was read stands there
pub stmt_sound : (ws ns : List ℕ) (n d at : ℕ) (s : Tree Expr (one stmt)) (end : ℕ) → stmt_at ws ns n d at ≡ got s end → Fine ws ns n d at s end
unfolding stmt_at
stmt_sound ws ns n zero at s end h = absurd (deep_got (bind_got (stmt_head ws at) h).3)
stmt_sound ws ns n (suc d) at s end h =
    let v = bind_got (stmt_head ws at) h in
    rest_sound ws ns n d (stmt_at ws ns n d) (stmt_sound ws ns n d) at v.0 v.1 s end (head_got ws at v.0 v.1 v.2) v.3

-- what is accepted is the words of the program that it gives
pub program_sound : (ws ns : List ℕ) (n : ℕ) (p : Tree Expr (one (many (stmt & nil)))) (end : ℕ) → program_at ws ns n ≡ got p end → Fine ws ns n 100 0 p end
unfolding program_at
program_sound ws ns n p end h = field_sound ws ns n 100 (stmt_at ws ns n 100) (stmt_sound ws ns n 100) (many (stmt & nil)) 0 p end (omega arith) h

-- ---- reading never goes back, whether the words reach that far or not

module _ (ws ns : List ℕ) (n d : ℕ) (sub_s : ℕ → Got (Tree Expr (one stmt))) (S : (at : ℕ) (s : Tree Expr (one stmt)) (end : ℕ) → sub_s at ≡ got s end → at ≤ end) where
  rows_on : {ss : Sorts} (f : ℕ → Got (Tree Expr (row ss))) → ((at : ℕ) (r : Tree Expr (row ss)) (end : ℕ) → f at ≡ got r end → at ≤ end) → (c at : ℕ) (rs : Tree Expr (rows ss)) (end : ℕ) → rows_at ws ns n f c at ≡ got rs end → at ≤ end
  unfolding rows_at
  rows_on f F zero at rs end h = let q : at ≡ end = cc in omega arith
  rows_on f F (suc c) at rs end h =
      let v = bind_got (f at) h in
      let w = map_got _ (rows_at ws ns n f c v.1) v.3 in
      le_trans (F at v.0 v.1 v.2) (rows_on f F c v.1 w.0 end w.1)

  mutual
    unfolding field_at row_at

    field_on : (s : Sort) (at : ℕ) (v : Tree Expr (one s)) (end : ℕ) → field_at ws ns n (expr_at ws (strings ns n) d) sub_s s at ≡ got v end → at ≤ end
    field_on (leaf l) at v end h =
        let a = map_got word (word_at ws (kind_l l) (ok_l ns n l) at) h in
        omega (arith, (word_got a.1).to)
    field_on expr at v end h =
        let a = map_got value (expr_at ws (strings ns n) d at) h in
        omega (arith, (sound ws (strings ns n) d at a.0 end a.1).wrote.span)
    field_on stmt at v end h = S at v end h
    field_on (many ss) at v end h =
        let a = bind_got (leaf_at ws 1 16777216 at) h in
        let b = map_got list (rows_at ws ns n (λ x. row_at ws ns n (expr_at ws (strings ns n) d) sub_s ss x) a.0 a.1) a.3 in
        let R = rows_on (λ x. row_at ws ns n (expr_at ws (strings ns n) d) sub_s ss x) (λ p r e q. row_on ss p r e q) a.0 a.1 b.0 end b.1 in
        omega (arith, (leaf_got a.2).to, R)
    field_on (group ss) at v end h =
        let a = map_got part (row_at ws ns n (expr_at ws (strings ns n) d) sub_s ss at) h in
        row_on ss at a.0 end a.1
    field_on (either k ss s) at v end h =
        ⊎_elim (λ (b : (is_at ws (word_of k 0) at ≡ true) × (bind (row_at ws ns n (expr_at ws (strings ns n) d) sub_s ss (at + 1)) (λ r m. got (this r) m) ≡ got v end)).
        let a = map_got this (row_at ws ns n (expr_at ws (strings ns n) d) sub_s ss (at + 1)) b.1 in
        let R : at + 1 ≤ end = row_on ss (at + 1) a.0 end a.1 in
        let Q : at ≤ end = omega arith in
        Q)
        (λ (b : (is_at ws (word_of k 0) at ≡ false) × (bind (field_at ws ns n (expr_at ws (strings ns n) d) sub_s s at) (λ u m. got (that u) m) ≡ got v end)).
        let a = map_got that (field_at ws ns n (expr_at ws (strings ns n) d) sub_s s at) b.1 in
        field_on s at a.0 end a.1)
        (pick_cases (is_at ws (word_of k 0) at) h)
    field_on never at v end h = absurd (never_got ws at h)

    row_on : (ss : Sorts) (at : ℕ) (r : Tree Expr (row ss)) (end : ℕ) → row_at ws ns n (expr_at ws (strings ns n) d) sub_s ss at ≡ got r end → at ≤ end
    row_on nil at r end h = let q : at ≡ end = cc in omega arith
    row_on (s & ss) at r end h =
        let a = bind_got (field_at ws ns n (expr_at ws (strings ns n) d) sub_s s at) h in
        let b = map_got _ (row_at ws ns n (expr_at ws (strings ns n) d) sub_s ss a.1) a.3 in
        le_trans (field_on s at a.0 a.1 a.2) (row_on ss a.1 b.0 end b.1)

-- a field ends at its place or after it
pub field_after : (ws ns : List ℕ) (n d : ℕ) (s : Sort) (at : ℕ) {c : Cursor} → step_of (field_at ws ns n (expr_at ws (strings ns n) d) (stmt_at ws ns n d) s at) ≡ Ok c → at ≤ c.at
field_after ws ns n d s at {c} e =
    let v = read (field_at ws ns n (expr_at ws (strings ns n) d) (stmt_at ws ns n d) s at) refl e in
    field_on ws ns n d (stmt_at ws ns n d) (λ p t q h. omega (arith, (stmt_sound ws ns n d p t q h).wrote.span)) s at v.0 c.at v.1
