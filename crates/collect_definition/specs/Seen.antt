-- What collecting may see of an expression, and no more: what it folds to under the CONST rows, and the first use of a name in it.
use Rattle.std.specs.Prelude.{ℕ, List}
use Rattle.std.proofs.Math.Option.{Option}
use Rattle.tree_expr.specs.Expr.{Expr}
use Rattle.rows_table.specs.Rows.{Row}
use Rattle.fold_const_eval.specs.ConstEval.{const_eval}
use Rattle.collect_subscript_count.specs.Subscripts.{in_expr}
use Rattle.fold_values.specs.Value.{Fold}

-- its fold under given rows, and the subscripts of a name's first use
pub record Seen : Type 0 where
  pub folds_to : List Row → Fold
  pub use_under : ℕ → Option ℕ

-- what it sees of this one
unfoldable pub see : Expr → Seen
see e = record { folds_to = λ rows. const_eval rows e; use_under = λ name. in_expr name e }
