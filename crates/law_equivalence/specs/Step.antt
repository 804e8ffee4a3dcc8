-- The two kinds of step of demand 3, anywhere in a program of any size and depth, under tables T. These are definitions.
--
-- What they share with resolving is what both are about: which members of a list are whole arguments for a by-reference parameter that is neither
-- array nor record of a known procedure (`places`), which names are visible arrays and no procedures (`element`), in which scope a statement's
-- inside stands (`inside`), and that the list of a CALL statement holds arguments (`argued`). No step mentions a resolved tree.
use Rattle.std.specs.Prelude.{ℕ, ◌≡◌, Bool, true, false, List}
use Rattle.tree_expr.specs.Expr.{Expr, Elem, Unary, Binary, Call, Field, Paren, Exprs, more}
use Rattle.tree_stmt.specs.Sorts.{Sort, expr, stmt, many, group, either, Sorts, nil, ◌&◌, Kind, sorts}
use Rattle.tree_stmt.specs.Tree.{Shape, one, row, rows, Tree, value, Stmt, list, part, this, that, cons, more as add, Program}
use Rattle.rows_table.specs.Rows.{Row}
use Rattle.resolve_definition.specs.Tables.{Tables, Places, nowhere, places, after, element}
use Rattle.resolve_definition.specs.FromRows.{tables_of}
use Rattle.resolve_definition.specs.Resolve.{first, inside, argued}
use Rattle.law_equivalence.specs.Chain.{Chain}

mutual
  -- In the scope σ. `true`: the expression is a whole argument, with all its parentheses, for a parameter as above; no pair is put or taken directly
  -- around it. `false`: it is any other expression.
  pub data StepE (T : Tables) (σ : ℕ) : Bool → Expr → Expr → Type 0 where
    -- a pair of parentheses is put around an expression, or taken
    put : {e : Expr} → StepE T σ false e (Paren e)
    take : {e : Expr} → StepE T σ false (Paren e) e
    -- a name with its list is written as an element, or as a call
    to_element : {k : Bool} {f : ℕ} {es : Exprs} → element T σ f ≡ true → StepE T σ k (Call f es) (Elem f es)
    to_call : {k : Bool} {f : ℕ} {es : Exprs} → element T σ f ≡ true → StepE T σ k (Elem f es) (Call f es)
    -- one of these further in: the members of a call's list are arguments, those of an element's are not; what stands in a pair is no whole argument
    in_call : {k : Bool} {f : ℕ} {es ds : Exprs} → StepL T σ (places T f) es ds → StepE T σ k (Call f es) (Call f ds)
    in_elem : {k : Bool} {f : ℕ} {es ds : Exprs} → StepL T σ nowhere es ds → StepE T σ k (Elem f es) (Elem f ds)
    in_paren : {k : Bool} {e d : Expr} → StepE T σ false e d → StepE T σ k (Paren e) (Paren d)
    in_unary : {k : Bool} {o : ℕ} {e d : Expr} → StepE T σ false e d → StepE T σ k (Unary o e) (Unary o d)
    in_left : {k : Bool} {o : ℕ} {e d c : Expr} → StepE T σ false e d → StepE T σ k (Binary o e c) (Binary o d c)
    in_right : {k : Bool} {o : ℕ} {e d c : Expr} → StepE T σ false e d → StepE T σ k (Binary o c e) (Binary o c d)
    in_field : {k : Bool} {n : ℕ} {e d : Expr} → StepE T σ false e d → StepE T σ k (Field e n) (Field d n)

  -- In one member of a list: m tells by its position whether it is such an argument.
  pub data StepL (T : Tables) (σ : ℕ) : Places → Exprs → Exprs → Type 0 where
    here : {m : Places} {e d : Expr} {es : Exprs} → StepE T σ (m 0) e d → StepL T σ m (more e es) (more d es)
    there : {m : Places} {e : Expr} {es ds : Exprs} → StepL T σ (after m) es ds → StepL T σ m (more e es) (more e ds)

-- In one expression of a tree of any shape, with m for the list that the statement has: a statement's fields (`Stmt`) stand in its scope, and only a
-- CALL's list holds arguments; the other cases only lead to the expression.
pub data Step (T : Tables) : ℕ → Places → (i : Shape) → Tree Expr i → Tree Expr i → Type 0 where
  in_value : {σ : ℕ} {m : Places} {e d : Expr} → StepE T σ (m 0) e d → Step T σ m (one expr) (value e) (value d)
  in_statement : {σ : ℕ} {m : Places} {k : Kind} {line : ℕ} {r t : Tree Expr (row (sorts k))} → Step T (inside σ k (first r)) (argued T k (first r)) (row (sorts k)) r t → Step T σ m (one stmt) (Stmt k line r) (Stmt k line t)
  in_list : {σ : ℕ} {m : Places} {ss : Sorts} {r t : Tree Expr (rows ss)} → Step T σ m (rows ss) r t → Step T σ m (one (many ss)) (list r) (list t)
  in_part : {σ : ℕ} {m : Places} {ss : Sorts} {r t : Tree Expr (row ss)} → Step T σ m (row ss) r t → Step T σ m (one (group ss)) (part r) (part t)
  in_this : {σ : ℕ} {m : Places} {k : ℕ} {ss : Sorts} {s : Sort} {r t : Tree Expr (row ss)} → Step T σ m (row ss) r t → Step T σ m (one (either k ss s)) (this r) (this t)
  in_that : {σ : ℕ} {m : Places} {k : ℕ} {ss : Sorts} {s : Sort} {v u : Tree Expr (one s)} → Step T σ m (one s) v u → Step T σ m (one (either k ss s)) (that v) (that u)
  in_head : {σ : ℕ} {m : Places} {s : Sort} {ss : Sorts} {v u : Tree Expr (one s)} {r : Tree Expr (row ss)} → Step T σ m (one s) v u → Step T σ m (row (s & ss)) (cons v r) (cons u r)
  in_tail : {σ : ℕ} {m : Places} {s : Sort} {ss : Sorts} {v : Tree Expr (one s)} {r t : Tree Expr (row ss)} → Step T σ m (row ss) r t → Step T σ m (row (s & ss)) (cons v r) (cons v t)
  in_row : {σ : ℕ} {m : Places} {ss : Sorts} {r t : Tree Expr (row ss)} {rs : Tree Expr (rows ss)} → Step T σ m (row ss) r t → Step T σ m (rows ss) (add r rs) (add t rs)
  past_row : {σ : ℕ} {m : Places} {ss : Sorts} {r : Tree Expr (row ss)} {rs ts : Tree Expr (rows ss)} → Step T σ (after m) (rows ss) rs ts → Step T σ m (rows ss) (add r rs) (add r ts)

-- one step on a program, and a list of steps, perhaps empty, from one program to another, under the tables that rows stand for
abbrev pub StepP : List Row → Program → Program → Type 0
StepP rs p q = Step (tables_of rs) 0 nowhere (one (many (stmt & nil))) p q

-- the list of steps
abbrev pub Steps : List Row → Program → Program → Type 0
Steps rs p q = Chain (StepP rs) p q
