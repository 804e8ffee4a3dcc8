-- A statement resolved: the words of its fields, the scope inside it, and the arguments of a CALL. Assumes nothing.
use Prim.Native.Nat.{ℕ, ◌+◌}
use native.Mathlib.Omega.{arith}
use mathlib.Core.Path.{◌≡◌, refl, sym, ap, ap₂, subst, ◌∙◌}
use mathlib.Core.Bool.{Bool}
use mathlib.Core.List.{List, ◌∷◌, ◌++◌, append-nil}
use lib.ListN.{get_or}
use borrow.Author.Tests.{ne_eqb}
use Rattle.base_words.specs.Word.{word_of, kind_of, pick}
use Rattle.tree_expr.specs.Expr.{Expr, words, words_all}
use Rattle.tree_expr.specs.Stands.{Wrote}
use Rattle.tree_expr.proofs.Parts.{wrote_first}
use Rattle.tree_stmt.specs.Sorts.{expr, stmt, nil, ◌&◌, Kind, sorts, number_of, kind_at, kinds, call, sub, function}
use Rattle.tree_stmt.specs.Tree.{strings, one, row, rows, Tree, word, value, Stmt, list, done, cons, none as nothing, more as add, count, words_t, Right}
use Rattle.tree_stmt.specs.Stands.{Stands}
use Rattle.tree_views.specs.View.{view, inner}
use Rattle.tree_walk.proofs.Members.{members, many_members, members_there}
use Rattle.tree_walk.proofs.Walk.{head_kind, of_number}
use Rattle.tree_walk.proofs.Scopes.{by_scope, inner_other}
use Rattle.resolve_definition.specs.Tables.{Tables, Places, nowhere, places, after}
use Rattle.resolve_definition.specs.Resolve.{passed, resolve_expr, resolve_args, first, inside, argued, resolve_tree}
use Rattle.resolve_definition.specs.Keeps.{count_tree}
use Rattle.resolve_exprs.proofs.Nodes.{Called}

-- ---- a list of expressions in a row of a statement, as the list that it is

resolve_members : (T : Tables) (σ : ℕ) (m : Places) (rs : Tree Expr (rows (expr & nil))) → words_t (resolve_tree T σ m rs) ≡ words_all (resolve_args T σ m (members rs))
unfolding members resolve_tree resolve_args words_t words_all
resolve_members T σ m nothing = refl
resolve_members T σ m (add (cons (value e) done) rs) = ap₂ ◌++◌ (append-nil (words (passed (m 0) e (resolve_expr T σ e)))) (resolve_members T σ (after m) rs)

-- no CALL: no field is an argument
pub stmt_words : {ws ns : List ℕ} {n at end : ℕ} {k : Kind} {line : ℕ} {r : Tree Expr (row (sorts k))} → Stands ws ns n at (Stmt k line r) end → (kind_of (get_or ws at 0) ≡ 86 → ⊥) → (T : Tables) (σ : ℕ) → words_t (resolve_tree T σ nowhere (Stmt k line r)) ≡ get_or ws at 0 ∷ words_t (resolve_tree T (inside σ k (first r)) nowhere r)
unfolding words_t resolve_tree argued
stmt_words {ws} {at = at} {k = k} {line} {r} s f T σ =
    let e : (number_of k ≡ 22) → ⊥ = λ q. f (head_kind s ∙ ap (λ (x : ℕ). 64 + x) q) in
    ap₂ ◌∷◌ (sym (wrote_first s.wrote).is) (ap (λ (b : Bool). words_t (resolve_tree T (inside σ k (first r)) (pick b (places T (first r)) nowhere) r)) (ne_eqb (number_of k) 22 e))

-- ---- the scope inside it

module _ (scope : ℕ) where
  sub_inside : (r : Tree Expr (row (sorts sub))) → inner scope (view sub r) ≡ inside scope sub (first r)
  unfolding sorts view inner inside first number_of
  sub_inside (cons (word x) (cons ps (cons b (cons s done)))) = refl

  function_inside : (r : Tree Expr (row (sorts function))) → inner scope (view function r) ≡ inside scope function (first r)
  unfolding sorts view inner inside first number_of
  function_inside (cons (word x) (cons ps (cons t (cons b (cons s (cons d done)))))) = refl

  -- as a view tells it, and by the kind and the first field
  pub view_inside : (k : Kind) (r : Tree Expr (row (sorts k))) → inner scope (view k r) ≡ inside scope k (first r)
  unfolding inside
  view_inside k = by_scope (λ (k : Kind). (r : Tree Expr (row (sorts k))) → inner scope (view k r) ≡ inside scope k (first r)) sub_inside function_inside (λ k p q r. rw (ne_eqb (number_of k) 20 p, ne_eqb (number_of k) 21 q) (sym (inner_other scope k r p q))) k

-- all others keep it
pub inside_other : (σ : ℕ) (k : Kind) (x : ℕ) → (number_of k ≡ 20 → ⊥) → (number_of k ≡ 21 → ⊥) → inside σ k x ≡ σ
unfolding inside
inside_other σ k x p q = rw (ne_eqb (number_of k) 20 p, ne_eqb (number_of k) 21 q) refl

-- ---- a CALL

-- its name and its arguments, where the words have them, and its words when resolved
pub record InCall (ws ns : List ℕ) (n at : ℕ) (v : Tree Expr (one stmt)) (end : ℕ) : Type 0 where
  pub parts : Called ws (strings ns n) at end
  pub is : (T : Tables) (σ : ℕ) → words_t (resolve_tree T σ nowhere v) ≡ get_or ws at 0 ∷ get_or ws (at + 1) 0 ∷ get_or ws (at + 2) 0 ∷ words_all (resolve_args T σ (places T parts.name) parts.args)

a_call : {ws ns : List ℕ} {n at end line : ℕ} (r : Tree Expr (row (sorts call))) → Stands ws ns n at (Stmt call line r) end → InCall ws ns n at (Stmt call line r) end
unfolding sorts words_t Right resolve_tree inside argued number_of first
a_call {ws} {ns} {n} {at} {end} {line} (cons (word x) (cons (list rs) done)) s =
    let f = wrote_first s.wrote in
    let g = wrote_first f.rest in
    let l : Wrote ws (at + 1 + 1) (word_of 1 (count rs) ∷ words_t rs) end = rw (append-nil (word_of 1 (count rs) ∷ words_t rs)) at g.rest in
    let h = wrote_first l in
    let p : at + 1 + 1 ≡ at + 2 = omega arith in
    let q : at + 1 + 1 + 1 ≡ at + 3 = omega arith in
    let t : Wrote ws (at + 3) (words_t rs) end = rw q at h.rest in
    let third : get_or ws (at + 2) 0 ≡ word_of 1 (count rs) = ap (λ (i : ℕ). get_or ws i 0) (sym p) ∙ h.is in
    record {
      parts = record {
        name = x;
        args = members rs;
        called = g.is;
        listed = third ∙ ap (word_of 1) (sym (many_members rs));
        small = s.valid.1.0.1;
        few = rw (many_members rs) s.valid.1.1.0.0;
        there = members_there (record { wrote = t; valid = s.valid.1.1.0.1 });
      };
      is = λ T σ. ap₂ (λ (k : ℕ) (y : List ℕ). word_of 86 line ∷ word_of 2 x ∷ word_of 1 k ∷ y) (count_tree T σ (places T x) rs) (append-nil (words_t (resolve_tree T σ (places T x) rs)) ∙ resolve_members T σ (places T x) rs) ∙ rw (f.is, g.is, third) refl;
    }

-- its name and its arguments stand after the head, and resolved it is its first three words and its arguments
pub in_call : {ws ns : List ℕ} {n at end : ℕ} {v : Tree Expr (one stmt)} → kind_of (get_or ws at 0) ≡ 86 → Stands ws ns n at v end → InCall ws ns n at v end
unfolding kind_at kinds
in_call {ws} {ns} {n} {at} {end} {v = Stmt k line r} q s = subst (λ (k : Kind). (r : Tree Expr (row (sorts k))) → Stands ws ns n at (Stmt k line r) end → InCall ws ns n at (Stmt k line r) end) (sym (of_number k 22 (omega (arith, head_kind s, q)))) (λ r s. a_call r s) r s
