-- Rows of so many words each, in which neither an expression nor a statement stands: a list of them is nothing but words. Assumes nothing.
use Prim.Native.Nat.{ℕ, ◌+◌, ◌*◌, ◌<◌, ◌≤◌, max}
use native.Mathlib.Nat.{add-mul, one-mul, zero-mul}
use native.Mathlib.Omega.{arith}
use mathlib.Core.Path.{◌≡◌, refl, sym, ap, ap₂, subst, ◌∙◌}
use mathlib.Core.List.{List, ◌∷◌, ◌++◌, append-nil}
use lib.ListN.{length, take, drop, get_or, length-append}
use lib.Seq.{take-append_seam}
use Rattle.base_words.specs.Word.{word_of, pay_of}
use Rattle.tree_expr.specs.Expr.{Expr}
use Rattle.tree_expr.specs.Stands.{Wrote}
use Rattle.tree_expr.proofs.Parts.{wrote_first, wrote_none, wrote_at, pay_is}
use Rattle.tree_stmt.specs.Sorts.{Sorts, many}
use Rattle.tree_stmt.specs.Tree.{one, row, rows, Tree, word, list, this, that, done, cons, none, more, count, words_t, Right, depth_t}
use Rattle.tree_stmt.specs.Stands.{Stands}
use Rattle.tree_stmt.specs.Codes.{parts, all_rows, row_of}
use Rattle.tree_stmt.proofs.Steps.{small_row}
use Rattle.tree_walk.specs.Pieces.{pieces, written}
use Rattle.tree_walk.specs.Plans.{Opened, Planned, Plain, Flat}
use mathlib.Core.Logic.{⊎_elim}
use Rattle.tree_expr.proofs.Steps.{either}

-- ---- the rows that are flat, by their numbers

-- a name
pub flat_names : {r : ℕ} → r ≡ 2 → Flat r 1
unfolding row_of all_rows parts words_t pieces written depth_t
flat_names q = subst (λ (x : ℕ). Flat x 1) (sym q) (record { small = omega arith; plain = go })
  where
    go : (v : Tree Expr (row (row_of 2))) → Plain 1 v
    go (cons (word x) done) = record { wide = refl; is = refl; same = λ g. refl; deep = refl }

-- a target of ON GOTO: a head, then a line's number or a label
pub flat_targets : {r : ℕ} → r ≡ 7 → Flat r 2
unfolding row_of all_rows parts words_t pieces written depth_t
flat_targets q = subst (λ (x : ℕ). Flat x 2) (sym q) (record { small = omega arith; plain = go })
  where
    go : (v : Tree Expr (row (row_of 7))) → Plain 2 v
    go (cons (this (cons (word x) done)) done) = record { wide = refl; is = refl; same = λ g. refl; deep = refl }
    go (cons (that (this (cons (word x) done))) done) = record { wide = refl; is = refl; same = λ g. refl; deep = refl }
    go (cons (that (that v)) done) = elim v [ ]

-- an item of DATA
pub flat_items : {r : ℕ} → r ≡ 15 → Flat r 2
unfolding row_of all_rows parts words_t pieces written depth_t
flat_items q = subst (λ (x : ℕ). Flat x 2) (sym q) (record { small = omega arith; plain = go })
  where
    go : (v : Tree Expr (row (row_of 15))) → Plain 2 v
    go (cons (word x) (cons (word y) done)) = record { wide = refl; is = refl; same = λ g. refl; deep = refl }

-- a range of letters
pub flat_ranges : {r : ℕ} → r ≡ 16 → Flat r 2
unfolding row_of all_rows parts words_t pieces written depth_t
flat_ranges q = subst (λ (x : ℕ). Flat x 2) (sym q) (record { small = omega arith; plain = go })
  where
    go : (v : Tree Expr (row (row_of 16))) → Plain 2 v
    go (cons (word x) (cons (word y) done)) = record { wide = refl; is = refl; same = λ g. refl; deep = refl }

-- 15 and 16
pub flat_pairs : {r : ℕ} → 15 ≤ r → r < 17 → Flat r 2
flat_pairs {r} a b = ⊎_elim flat_items flat_ranges (either 15 r a b)

-- ---- several such rows

plain_rows : {ss : Sorts} (w : ℕ) → ((v : Tree Expr (row ss)) → Plain w v) → (rs : Tree Expr (rows ss)) → Plain (count rs * w) rs
unfolding words_t pieces written depth_t count
plain_rows w f none = record { wide = sym (zero-mul w); is = refl; same = λ g. refl; deep = refl }
plain_rows w f (more r rs) =
    let a = f r in
    let b = plain_rows w f rs in
    let e : (count rs + 1) * w ≡ w + count rs * w = add-mul (count rs) 1 w ∙ ap (λ (x : ℕ). count rs * w + x) (one-mul w) ∙ omega arith in
    record {
      wide = length-append (words_t r) (words_t rs) ∙ ap₂ ◌+◌ a.wide b.wide ∙ sym e;
      is = ap₂ ◌++◌ a.is b.is;
      same = λ g. ap₂ ◌++◌ (a.same g) (b.same g);
      deep = ap₂ max a.deep b.deep;
    }

-- so many words, as they stand there
words_there : {ws xs : List ℕ} {at end c : ℕ} → Wrote ws at xs end → length xs ≡ c → take c (drop at ws) ≡ xs
words_there {ws} {xs} {at} {end} {c} w q = ap (λ (l : List ℕ). take c l) w.is ∙ ap (λ (i : ℕ). take i (xs ++ drop end ws)) (sym q) ∙ take-append_seam xs (drop end ws)

-- a list of them is its words
pub plan_flat : (ws : List ℕ) (at r w : ℕ) → Flat r w → Planned (many (row_of r)) ws at (1 + pay_of (get_or ws at 0) * w) 0 0
unfolding words_t pieces written depth_t count Right
plan_flat ws at r w F = record { opens = λ ns n v end s. go ns n v end s; falls = omega (arith, small_row 0) }
  where
    go : (ns : List ℕ) (n : ℕ) (v : Tree Expr (one (many (row_of r)))) (end : ℕ) → Stands ws ns n at v end → Opened ws ns n at end v (1 + pay_of (get_or ws at 0) * w) 0 0
    go ns n (list rs) end s =
        let f = wrote_first s.wrote in
        let p = plain_rows w F.plain rs in
        let k : count rs * w ≡ pay_of (get_or ws at 0) * w = ap (λ (x : ℕ). x * w) (sym (ap pay_of f.is ∙ pay_is 1 (count rs) s.valid.0)) in
        let c : length (words_t (list rs)) ≡ 1 + pay_of (get_or ws at 0) * w = omega (arith, p.wide, k) in
        let e : end ≡ at + (1 + pay_of (get_or ws at 0) * w) = omega (arith, s.wrote.span, c) in
        record {
          inner = none;
          counted = refl;
          there = record { wrote = wrote_at e (wrote_none ws end s.wrote.inside); valid = tt };
          is = p.is;
          after = λ g. ap (λ (l : List ℕ). word_of 1 (count rs) ∷ l) (p.same g) ∙ sym (append-nil (take (1 + pay_of (get_or ws at 0) * w) (drop at ws)) ∙ words_there s.wrote c);
          deep = p.deep;
        }
