-- A field of each sort, as some words and then rows of fields: what `plan_for` goes by. Assumes nothing.
use Prim.Native.Nat.{ℕ, zero, suc, ◌+◌, ◌-◌, ◌*◌, ◌≤◌, ◌<◌, max}
use native.Mathlib.Nat.{add-zero}
use native.Mathlib.Omega.{arith}
use mathlib.Core.Path.{◌≡◌, refl, sym, ap, subst, ◌∙◌}
use mathlib.Core.Bool.{Bool, true, false, ◌&&◌, false≢true}
use mathlib.Mathlib.Data.Bool.Basic.{and_elim_left, and_elim_right}
use mathlib.Core.List.{List, [], ◌∷◌, ◌++◌, append-nil}
use lib.Dec.{lit<}
use lib.ListN.{length, take, drop, get_or}
use borrow.Author.Tests.{lt-ltb, eq-eqb}
use Rattle.base_words.specs.Word.{word_of, kind_of, pay_of}
use Rattle.tree_expr.specs.Expr.{Expr}
use Rattle.tree_expr.specs.Stands.{Wrote}
use Rattle.tree_expr.proofs.Parts.{wrote_first, kind_is, pay_is}
use Rattle.tree_stmt.specs.Sorts.{Leaf, Sort, leaf, many, group, never, Sorts, nil, opt, kinds, sorts}
use Rattle.tree_stmt.specs.Tree.{one, row, Tree, word, list, part, this, that, done, none, more, count, words_t, Right, depth_t}
use Rattle.tree_stmt.specs.Stands.{Stands, SomeTree}
use Rattle.tree_stmt.specs.Reader.{is_at}
use Rattle.tree_stmt.specs.Codes.{parts, all_rows, row_of, singles, sort_at, chain, codes, part_codes, stmt_codes}
use Rattle.tree_stmt.proofs.Complete.{may, may_r, clear, clear_r, not_first}
use Rattle.tree_stmt.proofs.Steps.{size_s, size_r, size_group, size_opt, small_row, row_chain, length_chain, sort_opt}
use Rattle.tree_walk.specs.Pieces.{Piece, pieces, written}
use Rattle.tree_walk.specs.Plans.{Opened, Planned, Listed}

-- a type's heads one after another
pub is_type : {k : ℕ} → k ≡ 12 → sort_at k ≡ chain 40 (take 6 (drop 24 all_rows))
unfolding sort_at singles chain all_rows parts
is_type e = ap sort_at e

-- the first word, as it stands there
first_word : {ws : List ℕ} {at w end : ℕ} {xs : List ℕ} → Wrote ws at (w ∷ xs) end → take 1 (drop at ws) ≡ w ∷ []
first_word w = ap (λ (l : List ℕ). take 1 l) w.is

-- a plan for one sort is one for its number
pub as_sort : (k : ℕ) {s : Sort} {ws : List ℕ} {at c r m : ℕ} → sort_at k ≡ s → Planned s ws at c r m → Planned (sort_at k) ws at c r m
as_sort k {ws = ws} {at} {c} {r} {m} q p = subst (λ (s : Sort). Planned s ws at c r m) (sym q) p

-- and a field of the number is one of the sort
pub of_sort : (k : ℕ) {s : Sort} {ws : List ℕ} {at : ℕ} → sort_at k ≡ s → SomeTree (one (sort_at k)) ws at → SomeTree (one s) ws at
of_sort k {ws = ws} {at} q t = subst (λ (s : Sort). SomeTree (one s) ws at) q t

max_zero : (x : ℕ) → max x 0 ≡ x
max_zero x = omega arith

-- a word taken: any row will do
taken : (r : ℕ) (s : Sort) → size_r (row_of r) < 1 * 1000 + size_s s
taken r s = omega (arith, small_row r)

module _ (ws : List ℕ) (at : ℕ) where
  -- ---- a plain word

  -- it is one word
  pub plan_leaf : (l : Leaf) → Planned (leaf l) ws at 1 0 0
  unfolding pieces written depth_t words_t Right count
  plan_leaf l = record { opens = λ ns n v end s. go ns n v end s; falls = taken 0 (leaf l) }
    where
      go : (ns : List ℕ) (n : ℕ) (v : Tree Expr (one (leaf l))) (end : ℕ) → Stands ws ns n at v end → Opened ws ns n at end v 1 0 0
      go ns n (word x) end s =
          let f = wrote_first s.wrote in
          record { inner = none; counted = refl; there = record { wrote = f.rest; valid = tt }; is = refl; after = λ g. sym (append-nil (take 1 (drop at ws)) ∙ first_word s.wrote); deep = refl }

  plan_never : Planned never ws at 1 0 0
  plan_never = record { opens = λ ns n v end s. elim v [ ]; falls = taken 0 never }

  -- the numbers below 9 are such
  pub plan_plain : (k : ℕ) → k < 9 → Planned (sort_at k) ws at 1 0 0
  unfolding sort_at singles
  plan_plain zero h = plan_never
  plan_plain (suc zero) h = plan_leaf _
  plan_plain (suc (suc zero)) h = plan_leaf _
  plan_plain (suc (suc (suc zero))) h = plan_leaf _
  plan_plain (suc (suc (suc (suc zero)))) h = plan_leaf _
  plan_plain (suc (suc (suc (suc (suc zero))))) h = plan_leaf _
  plan_plain (suc (suc (suc (suc (suc (suc zero)))))) h = plan_leaf _
  plan_plain (suc (suc (suc (suc (suc (suc (suc zero))))))) h = plan_leaf _
  plan_plain (suc (suc (suc (suc (suc (suc (suc (suc zero)))))))) h = plan_leaf _
  plan_plain (suc (suc (suc (suc (suc (suc (suc (suc (suc k))))))))) h = absurd (omega arith)

  -- ---- a list, and a struct

  -- a list: its head, then as many rows as it says
  pub plan_many : (r : ℕ) → Planned (many (row_of r)) ws at 1 r (pay_of (get_or ws at 0))
  unfolding pieces written depth_t words_t Right count
  plan_many r = record { opens = λ ns n v end s. go ns n v end s; falls = taken r (many (row_of r)) }
    where
      go : (ns : List ℕ) (n : ℕ) (v : Tree Expr (one (many (row_of r)))) (end : ℕ) → Stands ws ns n at v end → Opened ws ns n at end v 1 r (pay_of (get_or ws at 0))
      go ns n (list rs) end s =
          let f = wrote_first s.wrote in
          record { inner = rs; counted = sym (ap pay_of f.is ∙ pay_is 1 (count rs) s.valid.0); there = record { wrote = f.rest; valid = s.valid.1 }; is = refl; after = λ g. ap (λ (l : List ℕ). l ++ written g rs) (sym (first_word s.wrote)); deep = refl }

  -- one row, alone
  single : {ns : List ℕ} {n : ℕ} {ss : Sorts} {a end : ℕ} {t : Tree Expr (row ss)} → Stands ws ns n a t end → Stands ws ns n a (more t none) end
  unfolding words_t Right
  single {t = t} s = record { wrote = rw (append-nil (words_t t)) s.wrote; valid = (s.valid, tt) }

  -- a struct: its row
  pub plan_group : (r : ℕ) → Planned (group (row_of r)) ws at 0 r 1
  unfolding pieces written depth_t words_t Right count
  plan_group r = record { opens = λ ns n v end s. go ns n v end s; falls = omega (arith, size_group (row_of r)) }
    where
      go : (ns : List ℕ) (n : ℕ) (v : Tree Expr (one (group (row_of r)))) (end : ℕ) → Stands ws ns n at v end → Opened ws ns n at end v 0 r 1
      go ns n (part t) end s =
          let h : Stands ws ns n at (more t none) end = single (record { wrote = s.wrote; valid = s.valid }) in
          record { inner = more t none; counted = refl; there = rw (add-zero at) h; is = sym (append-nil (pieces t)); after = λ g. sym (append-nil (written g t)); deep = sym (max_zero (depth_t t)) }

  -- ---- an option

  zero_here : at < length ws → get_or ws at 0 ≡ 0 → is_at ws 0 at ≡ true
  unfolding is_at
  zero_here h e = simp (lt-ltb at (length ws) h, eq-eqb (get_or ws at 0) 0 e)

  zero_gone : is_at ws 0 at ≡ false → at < length ws → get_or ws at 0 ≡ 0 → ⊥
  zero_gone f h e = false≢true (sym f ∙ zero_here h e)

  -- the word 0: one word
  pub plan_absent : (r : ℕ) → clear (opt (row_of r)) ≡ true → at < length ws → get_or ws at 0 ≡ 0 → Planned (opt (row_of r)) ws at 1 0 0
  unfolding pieces written depth_t words_t Right count clear
  plan_absent r c h e = record { opens = λ ns n v end s. go ns n v end s; falls = taken 0 (opt (row_of r)) }
    where
      go : (ns : List ℕ) (n : ℕ) (v : Tree Expr (one (opt (row_of r)))) (end : ℕ) → Stands ws ns n at v end → Opened ws ns n at end v 1 0 0
      go ns n (this done) end s =
          let f = wrote_first s.wrote in
          record { inner = none; counted = refl; there = record { wrote = f.rest; valid = tt }; is = refl; after = λ g. sym (append-nil (take 1 (drop at ws)) ∙ first_word s.wrote); deep = refl }
      go ns n (that v) end s = absurd (zero_gone (not_first ws ns n 0 v at end (and_elim_left _ _ c) s.valid s.wrote) h e)

  -- any other word: its row
  pub plan_present : (r : ℕ) → is_at ws 0 at ≡ false → Planned (opt (row_of r)) ws at 0 r 1
  unfolding pieces written depth_t words_t Right count
  plan_present r f = record { opens = λ ns n v end s. go ns n v end s; falls = omega (arith, size_opt (row_of r)) }
    where
      go : (ns : List ℕ) (n : ℕ) (v : Tree Expr (one (opt (row_of r)))) (end : ℕ) → Stands ws ns n at v end → Opened ws ns n at end v 0 r 1
      go ns n (this done) end s = let g = wrote_first s.wrote in absurd (zero_gone f g.inside g.is)
      go ns n (that (part t)) end s =
          let h : Stands ws ns n at (more t none) end = single (record { wrote = s.wrote; valid = s.valid }) in
          record { inner = more t none; counted = refl; there = rw (add-zero at) h; is = sym (append-nil (pieces t)); after = λ g. sym (append-nil (written g t)); deep = sym (max_zero (depth_t t)) }

  -- ---- one of several heads

  record Chosen (k : ℕ) (rs : List Sorts) (ns : List ℕ) (n : ℕ) (v : Tree Expr (one (chain k rs))) (end : ℕ) : Type 0 where
    which : ℕ
    below : which < length rs
    head : get_or ws at 0 ≡ word_of (k + which) 0
    inner : Tree Expr (row (get_or rs which nil))
    there : Stands ws ns n (at + 1) inner end
    is : pieces v ≡ pieces inner
    after : (g : Piece Expr → List ℕ) → written g v ≡ take 1 (drop at ws) ++ written g inner
    deep : depth_t v ≡ depth_t inner

  chosen : (k : ℕ) (rs : List Sorts) (ns : List ℕ) (n : ℕ) (v : Tree Expr (one (chain k rs))) (end : ℕ) → Stands ws ns n at v end → Chosen k rs ns n v end
  unfolding chain pieces written depth_t words_t Right
  chosen k [] ns n v end s = elim v [ ]
  chosen k (ss ∷ rs) ns n (this t) end s =
      let f = wrote_first s.wrote in
      record { which = 0; below = omega arith; head = f.is ∙ ap (λ (x : ℕ). word_of x 0) (sym (add-zero k)); inner = t; there = record { wrote = f.rest; valid = s.valid }; is = refl; after = λ g. ap (λ (l : List ℕ). l ++ written g t) (sym (first_word s.wrote)); deep = refl }
  chosen k (ss ∷ rs) ns n (that v) end s =
      let d = chosen (suc k) rs ns n v end (record { wrote = s.wrote; valid = s.valid }) in
      let e : suc k + d.which ≡ k + suc d.which = omega arith in
      record { which = suc d.which; below = omega (arith, d.below); head = d.head ∙ ap (λ (x : ℕ). word_of x 0) e; inner = d.inner; there = d.there; is = d.is; after = d.after; deep = d.deep }

  -- the row by its number
  by_number : {ns : List ℕ} {n end : ℕ} {s : Sort} (v : Tree Expr (one s)) (r : ℕ) {ss : Sorts} → row_of r ≡ ss → (t : Tree Expr (row ss)) → Stands ws ns n (at + 1) t end → pieces v ≡ pieces t → ((g : Piece Expr → List ℕ) → written g v ≡ take 1 (drop at ws) ++ written g t) → depth_t v ≡ depth_t t → Opened ws ns n at end v 1 r 1
  unfolding pieces written depth_t words_t count
  by_number {ns} {n} {end} v r q = subst (λ (ss : Sorts). (t : Tree Expr (row ss)) → Stands ws ns n (at + 1) t end → pieces v ≡ pieces t → ((g : Piece Expr → List ℕ) → written g v ≡ take 1 (drop at ws) ++ written g t) → depth_t v ≡ depth_t t → Opened ws ns n at end v 1 r 1) q
      (λ t h e w f. record { inner = more t none; counted = refl; there = single h; is = e ∙ sym (append-nil (pieces t)); after = λ g. w g ∙ ap (λ (l : List ℕ). take 1 (drop at ws) ++ l) (sym (append-nil (written g t))); deep = f ∙ sym (max_zero (depth_t t)) })

  -- its head, then the row of its number
  pub plan_choice : (first count r : ℕ) → r + count ≤ 93 → Planned (chain first (take count (drop r all_rows))) ws at 1 (r + (kind_of (get_or ws at 0) - first)) 1
  plan_choice first k r b = record { opens = λ ns n v end s. go ns n v end s; falls = taken (r + (kind_of (get_or ws at 0) - first)) (chain first (take k (drop r all_rows))) }
    where
      go : (ns : List ℕ) (n : ℕ) (v : Tree Expr (one (chain first (take k (drop r all_rows))))) (end : ℕ) → Stands ws ns n at v end → Opened ws ns n at end v 1 (r + (kind_of (get_or ws at 0) - first)) 1
      go ns n v end s =
          let d = chosen first (take k (drop r all_rows)) ns n v end s in
          let j : ℕ = d.which in
          let e : kind_of (get_or ws at 0) - first ≡ j = omega (arith, ap kind_of d.head, kind_is (first + j) 0 (lit< tt)) in
          let z : j < k = omega (arith, d.below, length_chain r k b) in
          by_number v (r + (kind_of (get_or ws at 0) - first)) (ap (λ (x : ℕ). row_of (r + x)) e ∙ row_chain r k j z) d.inner d.there d.is d.after d.deep

  -- where such a field stands there is a word
  pub choice_inside : (first count r : ℕ) → SomeTree (one (chain first (take count (drop r all_rows)))) ws at → (at < length ws) × (first ≤ kind_of (get_or ws at 0))
  choice_inside first k r s =
      let d = chosen first (take k (drop r all_rows)) s.names s.strings s.tree s.end s.stands in
      let t = d.there in
      (omega (arith, t.wrote.span, t.wrote.inside), omega (arith, ap kind_of d.head, kind_is (first + d.which) 0 (lit< tt)))

  -- a list begins within the words
  pub many_inside : (r : ℕ) → SomeTree (one (many (row_of r))) ws at → at < length ws
  unfolding words_t
  many_inside r s = go s.tree s.stands
    where
      go : (v : Tree Expr (one (many (row_of r)))) → Stands ws s.names s.strings at v s.end → at < length ws
      go (list rs) h = (wrote_first h.wrote).inside

-- ---- every sort of the table is clear

clears : List ℕ → Bool
clears [] = true
clears (c ∷ cs) = clear (sort_at c) && clears cs

all_clear : List (List ℕ) → Bool
all_clear [] = true
all_clear (cs ∷ l) = clears cs && all_clear l

clear_at : (cs : List ℕ) (i : ℕ) → clears cs ≡ true → clear (sort_at (get_or cs i 0)) ≡ true
unfolding clears clear sort_at singles
clear_at [] i e = refl
clear_at (c ∷ cs) zero e = and_elim_left _ _ e
clear_at (c ∷ cs) (suc i) e = clear_at cs i (and_elim_right (clear (sort_at c)) _ e)

clear_in : (l : List (List ℕ)) (r : ℕ) → all_clear l ≡ true → clears (get_or l r []) ≡ true
unfolding all_clear clears
clear_in [] r e = refl
clear_in (cs ∷ l) zero e = and_elim_left _ _ e
clear_in (cs ∷ l) (suc r) e = clear_in l r (and_elim_right (clears cs) _ e)

-- no choice begins like a later one
pub clear_listed : {k : ℕ} → Listed k → clear (sort_at k) ≡ true
unfolding codes part_codes stmt_codes all_clear clears clear clear_r may may_r sort_at singles row_of all_rows parts sorts kinds
clear_listed L = ap (λ (x : ℕ). clear (sort_at x)) L.is ∙ clear_at (codes L.row) L.place (clear_in (part_codes ++ stmt_codes) L.row refl)

-- of the two rows of an option, the one that is there is clear of the word 0
pub clear_opt : (r : ℕ) → Listed (r + 16) → r < 48 → clear (opt (row_of r)) ≡ true
clear_opt r L h =
    let e : r + 16 - 16 ≡ r = omega arith in
    ap clear (sym (sort_opt (r + 16) (omega arith) (omega arith) ∙ ap (λ (x : ℕ). opt (row_of x)) e)) ∙ clear_listed L

-- one less
pub down : (k : ℕ) {n : ℕ} → n < suc k → (n ≡ k → ⊥) → n < k
down k h f = omega arith
