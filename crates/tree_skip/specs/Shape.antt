-- How an expression is written: words before its children, the children, words after them. Definitions only.
use Rattle.std.specs.Prelude.{ℕ, ◌+◌, ◌≡◌, List, eqb}
use Rattle.base_words.specs.Word.{pick}
use Rattle.tree_expr.specs.Expr.{Strings, Expr, Exprs, Lit, Var, Elem, Unary, Binary, Call, Field, Paren, none, more, many, kind_l}
use Rattle.tree_expr.specs.Stands.{Stands}
use Rattle.tree_skip.specs.declared.Shape.{Shape}

-- some expression stands there
pub record SomeExpr (ws : List ℕ) (at : ℕ) : Type 0 where
  pub strings : Strings
  pub expr : Expr
  pub end : ℕ
  pub stands : Stands ws strings at expr end

-- the words of a literal of a kind, its head included: two words follow the head of a float, one that of any other
unfoldable pub literal_words : ℕ → ℕ
literal_words k = pick (eqb k 26) 3 (pick (eqb k 27) 3 2)

-- how many words stand before the children
unfoldable pub front : Expr → ℕ
unfolding literal_words kind_l
front (Lit l) = 1 + literal_words (kind_l l)
front (Var x) = 2
front (Elem x es) = 3
front (Unary o e) = 2
front (Binary o l r) = 2
front (Call x es) = 3
front (Field e x) = 1
front (Paren e) = 1

-- the children in order
unfoldable pub children : Expr → Exprs
children (Lit l) = none
children (Var x) = none
children (Elem x es) = es
children (Unary o e) = more e none
children (Binary o l r) = more l (more r none)
children (Call x es) = es
children (Field e x) = more e none
children (Paren e) = more e none

-- a field's name comes last
unfoldable pub back : Expr → ℕ
back (Lit l) = 0
back (Var x) = 0
back (Elem x es) = 0
back (Unary o e) = 0
back (Binary o l r) = 0
back (Call x es) = 0
back (Field e x) = 1
back (Paren e) = 0

-- the shape of an expression
pub record Shaped (e : Expr) (s : Shape) : Type 0 where
  pub front_is : s.front ≡ front e
  pub children_is : s.children ≡ many (children e)
  pub back_is : s.back ≡ back e
