-- Resolving, as the Rust's `resolve_args`, `resolve_expr` and `resolve_array_accesses` do it, on trees. These are definitions.
use Rattle.std.specs.Prelude.{ℕ, ◌+◌, Bool, true, false, ◌||◌, eqb}
use Rattle.base_words.specs.Word.{pick}
use Rattle.tree_expr.specs.Expr.{Expr, Lit, Var, Elem, Unary, Binary, Call, Field, Paren, Exprs, none, more}
use Rattle.tree_stmt.specs.Sorts.{Kind, number_of}
use Rattle.tree_stmt.specs.Tree.{Shape, Tree, word, value, Stmt, list, part, this, that, done, cons, none as nothing, more as add, Program}
use Rattle.resolve_definition.specs.Tables.{Tables, Places, nowhere, places, after, element}

-- The argument e, resolved to r: by reference, one that stands in parentheses keeps one pair.
unfoldable pub passed : Bool → Expr → Expr → Expr
passed by_ref (Paren e) r = pick by_ref (Paren r) r
passed by_ref (Lit l) r = r
passed by_ref (Var n) r = r
passed by_ref (Elem f es) r = r
passed by_ref (Unary o e) r = r
passed by_ref (Binary o e d) r = r
passed by_ref (Call f es) r = r
passed by_ref (Field e n) r = r

-- A call of f whose arguments are resolved: an element, or still a call.
unfoldable pub called : Bool → ℕ → Exprs → Expr
called true f es = Elem f es
called false f es = Call f es

unfoldable mutual
  -- One expression, innermost first, in the scope σ.
  pub resolve_expr : Tables → ℕ → Expr → Expr
  resolve_expr T σ (Lit l) = Lit l
  resolve_expr T σ (Var n) = Var n
  resolve_expr T σ (Unary o e) = Unary o (resolve_expr T σ e)
  resolve_expr T σ (Binary o e d) = Binary o (resolve_expr T σ e) (resolve_expr T σ d)
  resolve_expr T σ (Field e n) = Field (resolve_expr T σ e) n
  resolve_expr T σ (Elem f es) = Elem f (resolve_args T σ nowhere es)
  resolve_expr T σ (Call f es) = called (element T σ f) f (resolve_args T σ (places T f) es)
  resolve_expr T σ (Paren e) = resolve_expr T σ e

  -- The arguments of a call, of which m says `by_ref`.
  pub resolve_args : Tables → ℕ → Places → Exprs → Exprs
  resolve_args T σ m none = none
  resolve_args T σ m (more e es) = more (passed (m 0) e (resolve_expr T σ e)) (resolve_args T σ (after m) es)

-- The word of a row's first field: the name of a CALL, SUB or FUNCTION. Of other kinds `inside` and `argued` don't look at it.
unfoldable pub first : {i : Shape} → Tree Expr i → ℕ
first (word x) = x
first (value e) = 0
first (Stmt k line r) = 0
first (list rs) = 0
first (part r) = 0
first (this r) = 0
first (that v) = 0
first done = 0
first (cons v r) = first v
first nothing = 0
first (add r rs) = 0

-- The scope inside a statement of the kind k whose name is x: SUB and FUNCTION (DEF FN too) open their own, all others keep it.
unfoldable pub inside : ℕ → Kind → ℕ → ℕ
inside σ k x = pick (eqb (number_of k) 20 || eqb (number_of k) 21) (x + 1) σ  -- 20 SUB, 21 FUNCTION

-- The expressions listed in it: those of a CALL are arguments.
unfoldable pub argued : Tables → Kind → ℕ → Places
argued T k x = pick (eqb (number_of k) 22) (places T x) nowhere  -- 22 CALL

-- Every expression of a statement of any kind, its bodies' too: m says `by_ref` of those that a list's rows hold.
unfoldable pub resolve_tree : Tables → ℕ → Places → {i : Shape} → Tree Expr i → Tree Expr i
resolve_tree T σ m (word x) = word x
resolve_tree T σ m (value e) = value (passed (m 0) e (resolve_expr T σ e))
resolve_tree T σ m (Stmt k line r) = Stmt k line (resolve_tree T (inside σ k (first r)) (argued T k (first r)) r)
resolve_tree T σ m (list rs) = list (resolve_tree T σ m rs)
resolve_tree T σ m (part r) = part (resolve_tree T σ m r)
resolve_tree T σ m (this r) = this (resolve_tree T σ m r)
resolve_tree T σ m (that v) = that (resolve_tree T σ m v)
resolve_tree T σ m done = done
resolve_tree T σ m (cons v r) = cons (resolve_tree T σ m v) (resolve_tree T σ m r)
resolve_tree T σ m nothing = nothing
resolve_tree T σ m (add r rs) = add (resolve_tree T σ m r) (resolve_tree T σ (after m) rs)

-- A list of statements in the scope σ; a program's is 0.
unfoldable pub resolve_array_accesses : Tables → ℕ → Program → Program
resolve_array_accesses T σ p = resolve_tree T σ nowhere p
