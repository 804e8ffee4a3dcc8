-- `subscript_count` under a change of what stands for an expression: only the use of the name in it counts.
use Rattle.std.specs.Prelude.{ℕ, suc, ◌≡◌, eqb, length}
use Rattle.std.proofs.Math.Path.{refl, ap, ap₂}
use Rattle.std.proofs.Common.{◌∙◌}
use mathlib.Core.List.{List, [], ◌∷◌, map}
use Rattle.std.proofs.Math.Option.{Option, none as nothing, some}
use Rattle.base_words.specs.Word.{pick}
use Rattle.tree_stmt.specs.Sorts.{Kind, sorts}
use Rattle.tree_stmt.specs.Tree.{Shape, row, Tree, word, value, Stmt, list, part, this, that, done, cons, none, more, over}
use Rattle.tree_views.specs.View.{LValue}
use Rattle.tree_views.specs.Uses.{Uses, uses}
use Rattle.tree_views.specs.Over.{over_indices, over_target, over_uses, uses_over}
use Rattle.collect_subscript_count.specs.Subscripts.{or_else, first_of, indexed, in_lvalue, in_stmt, subscript_count}

module _ {E F : Type 0} (g : E → F) where
  length_map : (es : List E) → length (map g es) ≡ length es
  length_map [] = refl
  length_map (e ∷ es) = ap suc (length_map es)

  indexed_over : (is : Option (List E)) → indexed (over_indices g is) ≡ indexed is
  unfolding indexed over_indices
  indexed_over nothing = refl
  indexed_over (some es) = ap some (length_map es)

  target_over : (name : ℕ) (v : LValue E) → in_lvalue name (over_target g v) ≡ in_lvalue name v
  unfolding in_lvalue over_target
  target_over name v = ap (λ (o : Option ℕ). pick (eqb v.name name) o nothing) (indexed_over v.indices)

  targets_over : (name : ℕ) (vs : List (LValue E)) → first_of (in_lvalue name) (map (over_target g) vs) ≡ first_of (in_lvalue name) vs
  unfolding first_of
  targets_over name [] = refl
  targets_over name (v ∷ vs) = ap₂ or_else (target_over name v) (targets_over name vs)

module _ {E F : Type 0} (g : E → F) (of_E : ℕ → E → Option ℕ) (of_F : ℕ → F → Option ℕ) (name : ℕ) (same : (e : E) → of_F name (g e) ≡ of_E name e) where
  exprs_over : (es : List E) → first_of (of_F name) (map g es) ≡ first_of (of_E name) es
  unfolding first_of
  exprs_over [] = refl
  exprs_over (e ∷ es) = ap₂ or_else (same e) (exprs_over es)

  stmt_over : (k : Kind) (r : Tree E (row (sorts k))) → in_stmt of_F name (uses k (over g r)) ≡ in_stmt of_E name (uses k r)
  unfolding in_stmt over_uses
  stmt_over k r = ap (λ (u : Uses F). in_stmt of_F name u) (uses_over g k r) ∙ ap₂ or_else (targets_over g name (uses k r).targets) (exprs_over (uses k r).exprs)

  -- where g keeps the name's use in each expression, the count of the tree under g is the tree's
  pub subscript_count_over : {i : Shape} (t : Tree E i) → subscript_count of_F name (over g t) ≡ subscript_count of_E name t
  unfolding subscript_count over
  subscript_count_over (word x) = refl
  subscript_count_over (value e) = refl
  subscript_count_over (Stmt k line r) = ap₂ or_else (stmt_over k r) (subscript_count_over r)
  subscript_count_over (list rs) = subscript_count_over rs
  subscript_count_over (part r) = subscript_count_over r
  subscript_count_over (this r) = subscript_count_over r
  subscript_count_over (that v) = subscript_count_over v
  subscript_count_over done = refl
  subscript_count_over (cons v r) = ap₂ or_else (subscript_count_over v) (subscript_count_over r)
  subscript_count_over none = refl
  subscript_count_over (more r rs) = ap₂ or_else (subscript_count_over r) (subscript_count_over rs)
