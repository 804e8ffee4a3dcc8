-- No parentheses, and every call written as an element: what neither folding nor `subscript_count` can tell apart.
use Rattle.tree_expr.specs.Expr.{Expr, Exprs, Lit, Var, Elem, Unary, Binary, Call, Field, Paren, none, more}
use Rattle.tree_stmt.specs.Tree.{Shape, Tree, over}

unfoldable mutual
  -- an expression without them
  pub strip_e : Expr → Expr
  strip_e (Lit l) = Lit l
  strip_e (Var n) = Var n
  strip_e (Elem f es) = Elem f (strip_l es)
  strip_e (Unary o e) = Unary o (strip_e e)
  strip_e (Binary o e d) = Binary o (strip_e e) (strip_e d)
  strip_e (Call f es) = Elem f (strip_l es)
  strip_e (Field e n) = Field (strip_e e) n
  strip_e (Paren e) = strip_e e

  -- several, each without them
  pub strip_l : Exprs → Exprs
  strip_l none = none
  strip_l (more e es) = more (strip_e e) (strip_l es)

-- a tree with all its expressions so
unfoldable pub strip : {i : Shape} → Tree Expr i → Tree Expr i
strip t = over strip_e t
