-- The pair of parentheses that an argument keeps, by what the code saw: whether a pair stands there, and what the rows say. Assumes nothing.
use Prim.Native.Nat.{ℕ}
use mathlib.Core.Path.{◌≡◌, refl, sym, ◌∙◌}
use mathlib.Core.Bool.{Bool, true, false}
use mathlib.Core.List.{List, []}
use lib.ListN.{get_or, set}
use Rattle.base_words.specs.Word.{word_of, kind_of}
use Rattle.tree_expr.specs.Expr.{Expr, Lit, Var, Elem, Unary, Binary, Call, Field, Paren, kind_e}
use Rattle.tree_expr.proofs.Nodes.{kind_of_lem}
use Rattle.rows_table.specs.Rows.{Row, Holds}
use Rattle.resolve_definition.specs.Tables.{places, nowhere}
use Rattle.resolve_definition.specs.FromRows.{tables_of}
use Rattle.resolve_exprs.specs.Node.{pair_of}
use Rattle.resolve_exprs.specs.Post.{Paired}
use Rattle.resolve_exprs.proofs.Nodes.{in_pair}

no_pair : (k : Bool) (e : Expr) → (kind_e e ≡ 23 → ⊥) → pair_of k e ≡ []
unfolding pair_of kind_e
no_pair k (Lit l) q = refl
no_pair k (Var x) q = refl
no_pair k (Elem x es) q = refl
no_pair k (Unary o e) q = refl
no_pair k (Binary o e d) q = refl
no_pair k (Call x es) q = refl
no_pair k (Field e x) q = refl
no_pair k (Paren e) q = absurd (q refl)

module _ (f i : ℕ) (ws buf out : List ℕ) (count at to : ℕ) where
  -- a pair around an argument by reference stays
  pub kept : kind_of (get_or ws at 0) ≡ 23 → ((rs : List Row) → Holds rs count buf → true ≡ places (tables_of rs) f i) → Paired (λ T. places T f i) ws buf out (set out to (word_of 23 0)) count at to 1
  unfolding pair_of
  kept q h = record { gives = λ rs H n e end s. rw ((in_pair q s).is, sym (h rs H)) (refl, refl) }

  -- around any other it goes
  pub dropped : kind_of (get_or ws at 0) ≡ 23 → ((rs : List Row) → Holds rs count buf → false ≡ places (tables_of rs) f i) → Paired (λ T. places T f i) ws buf out out count at to 0
  unfolding pair_of
  dropped q h = record { gives = λ rs H n e end s. rw ((in_pair q s).is, sym (h rs H)) (refl, refl) }

  -- where there is none, none is kept
  pub none : (kind_of (get_or ws at 0) ≡ 23 → ⊥) → Paired (λ T. places T f i) ws buf out out count at to 0
  none q = record { gives = λ rs H n e end s. rw (no_pair (places (tables_of rs) f i) e (λ z. q (kind_of_lem s ∙ z))) (refl, refl) }

not_passed : (e : Expr) → pair_of false e ≡ []
unfolding pair_of
not_passed (Lit l) = refl
not_passed (Var x) = refl
not_passed (Elem x es) = refl
not_passed (Unary o e) = refl
not_passed (Binary o e d) = refl
not_passed (Call x es) = refl
not_passed (Field e x) = refl
not_passed (Paren e) = refl

-- what is no argument keeps none
pub unpaired : (i : ℕ) (ws buf out : List ℕ) (count at to : ℕ) → Paired (λ T. nowhere i) ws buf out out count at to 0
unfolding nowhere
unpaired i ws buf out count at to = record { gives = λ rs H n e end s. rw (not_passed e) (refl, refl) }
