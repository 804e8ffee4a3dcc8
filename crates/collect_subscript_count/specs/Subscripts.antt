-- `subscript_count` (sema.rs): how many subscripts a body gives a name the first time it subscripts it.
use Rattle.std.specs.Prelude.{ℕ, zero, suc, Bool, true, false, List, [], ◌∷◌, eqb, length}
use Rattle.std.proofs.Math.Option.{Option, none as nothing, some}
use Rattle.base_words.specs.Word.{pick}
use Rattle.tree_expr.specs.Expr.{Expr, Exprs, Lit, Var, Elem, Unary, Binary, Call, Field, Paren, none, more, many}
use Rattle.tree_stmt.specs.Tree.{Shape, Tree, word, value, Stmt, list, part, this, that, done, cons, none as no_rows, more as add_row}
use Rattle.tree_views.specs.View.{LValue}
use Rattle.tree_views.specs.Uses.{Uses, uses}

-- `Option::or_else`
unfoldable pub or_else : Option ℕ → Option ℕ → Option ℕ
or_else nothing b = b
or_else (some n) b = some n

-- `find_map`
unfoldable pub first_of : {A : Type 0} → (A → Option ℕ) → List A → Option ℕ
first_of f [] = nothing
first_of f (x ∷ xs) = or_else (f x) (first_of f xs)

-- a name with a list in an expression: a use of the name that is looked for, unless the list is empty
unfoldable pub subscripted : Bool → ℕ → Option ℕ
subscripted true zero = nothing
subscripted true (suc n) = some (suc n)
subscripted false n = nothing

-- `in_expr`: an element and a call alike, and before what stands in their lists; left before right
unfoldable mutual
  -- the first use in an expression
  pub in_expr : ℕ → Expr → Option ℕ
  in_expr name (Lit l) = nothing
  in_expr name (Var n) = nothing
  in_expr name (Elem n es) = or_else (subscripted (eqb n name) (many es)) (in_exprs name es)
  in_expr name (Unary o e) = in_expr name e
  in_expr name (Binary o l r) = or_else (in_expr name l) (in_expr name r)
  in_expr name (Call n es) = or_else (subscripted (eqb n name) (many es)) (in_exprs name es)
  in_expr name (Field e f) = in_expr name e
  in_expr name (Paren e) = in_expr name e

  -- the first use in several
  pub in_exprs : ℕ → Exprs → Option ℕ
  in_exprs name none = nothing
  in_exprs name (more e es) = or_else (in_expr name e) (in_exprs name es)

-- how many indices a target has, where it has a list of them
unfoldable pub indexed : {E : Type 0} → Option (List E) → Option ℕ
indexed nothing = nothing
indexed (some is) = some (length is)

-- `in_lvalue`: here an empty list counts
unfoldable pub in_lvalue : {E : Type 0} → ℕ → LValue E → Option ℕ
in_lvalue name v = pick (eqb v.name name) (indexed v.indices) nothing

-- E stands for an expression, and `use_under name e` is the first use of the name in it
module _ {E : Type 0} (use_under : ℕ → E → Option ℕ) where
  -- one statement, without its bodies: its targets, then its expressions
  unfoldable pub in_stmt : ℕ → Uses E → Option ℕ
  in_stmt name u = or_else (first_of (in_lvalue name) u.targets) (first_of (use_under name) u.exprs)

  -- `walk_stmts`: a statement before its bodies. A body, or any part of the tree, by its statements
  unfoldable pub subscript_count : {i : Shape} → ℕ → Tree E i → Option ℕ
  subscript_count name (word x) = nothing
  subscript_count name (value e) = nothing
  subscript_count name (Stmt k line r) = or_else (in_stmt name (uses k r)) (subscript_count name r)
  subscript_count name (list rs) = subscript_count name rs
  subscript_count name (part r) = subscript_count name r
  subscript_count name (this r) = subscript_count name r
  subscript_count name (that v) = subscript_count name v
  subscript_count name done = nothing
  subscript_count name (cons v r) = or_else (subscript_count name v) (subscript_count name r)
  subscript_count name no_rows = nothing
  subscript_count name (add_row r rs) = or_else (subscript_count name r) (subscript_count name rs)
