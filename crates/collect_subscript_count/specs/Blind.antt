-- `subscript_count` sees neither parentheses nor whether a name with its list is a call or an element. Laws by induction on the expression.
use Rattle.std.specs.Prelude.{ℕ, ◌+◌, ◌≡◌, refl, eqb}
use Rattle.std.proofs.Common.{ap, ap₂}
use Rattle.tree_expr.specs.Expr.{Expr, Exprs, Lit, Var, Elem, Unary, Binary, Call, Field, Paren, none, more, many}
use Rattle.tree_views.specs.Strip.{strip_e, strip_l}
use Rattle.collect_subscript_count.specs.Subscripts.{or_else, subscripted, in_expr, in_exprs}

-- a list keeps its length
pub many_strip : (es : Exprs) → many (strip_l es) ≡ many es
unfolding many strip_l
many_strip none = refl
many_strip (more e es) = ap (λ n. n + 1) (many_strip es)

mutual
  unfolding in_expr in_exprs strip_e strip_l

  -- the first use of a name in an expression stays
  pub in_expr_strip : (n : ℕ) (e : Expr) → in_expr n (strip_e e) ≡ in_expr n e
  in_expr_strip n (Lit l) = refl
  in_expr_strip n (Var x) = refl
  in_expr_strip n (Elem f es) = ap₂ (λ c o. or_else (subscripted (eqb f n) c) o) (many_strip es) (in_exprs_strip n es)
  in_expr_strip n (Unary o e) = in_expr_strip n e
  in_expr_strip n (Binary o l r) = ap₂ or_else (in_expr_strip n l) (in_expr_strip n r)
  in_expr_strip n (Call f es) = ap₂ (λ c o. or_else (subscripted (eqb f n) c) o) (many_strip es) (in_exprs_strip n es)
  in_expr_strip n (Field e x) = in_expr_strip n e
  in_expr_strip n (Paren e) = in_expr_strip n e

  in_exprs_strip : (n : ℕ) (es : Exprs) → in_exprs n (strip_l es) ≡ in_exprs n es
  in_exprs_strip n none = refl
  in_exprs_strip n (more e es) = ap₂ or_else (in_expr_strip n e) (in_exprs_strip n es)
