-- Worked examples: where `subscript_count` finds the first use of a name, and where it finds none. Each was compared with sema.rs.
use Rattle.std.specs.Prelude.{ℕ, ◌≡◌, refl, List, [], ◌∷◌}
use Rattle.std.proofs.Math.Option.{Option, none as nothing, some}
use Rattle.tree_expr.specs.Expr.{Expr, Lit, Integer, Elem, Binary, Call, Paren, none as e0, more as e1, many}
use Rattle.tree_stmt.specs.Sorts.{LValue, sorts, print, input, select_case, call, field_assign}
use Rattle.tree_stmt.specs.Tree.{Shape, Tree, row, word, value, Stmt, list, part, this, that, done, cons, none, more}
use Rattle.tree_views.specs.Build.{Statement, program, rows_in, expr_rows, target, let_s, sub_s}
use Rattle.tree_views.specs.View.{items, rows_of, lvalue, optional, expressions, expression}
use Rattle.tree_views.specs.Uses.{uses, plain, own}
use Rattle.collect_subscript_count.specs.Subscripts.{or_else, first_of, subscripted, in_expr, in_exprs, indexed, in_lvalue, in_stmt, subscript_count}

one' : Expr
one' = Lit (Integer 1)

-- A(1), A(1, 1), A(1, 1, 1); A is string 0, X string 1
a1 : Expr
unfolding one'
a1 = Call 0 (e1 one' e0)

a2 : Expr
unfolding one'
a2 = Elem 0 (e1 one' (e1 one' e0))

a3 : Expr
unfolding one'
a3 = Call 0 (e1 one' (e1 one' (e1 one' e0)))

-- PRINT USING A(1, 1); A(1)
print_s : Statement
unfolding sorts a1 a2
print_s = Stmt print 1 (cons (this done) (cons (list (more (cons (this (cons (value a1) done)) done) none)) (cons (word 1) (cons (that (part (cons (value a2) done))) (cons (word 0) done)))))

-- INPUT #file, targets
input_s : Expr → List (Tree Expr (row LValue)) → Statement
unfolding sorts rows_in
input_s e ts = Stmt input 1 (cons (this done) (cons (word 0) (cons (list (rows_in ts)) (cons (that (part (cons (value e) done))) done))))

-- SELECT CASE 1, CASE 1: X = A(1), CASE A(1, 1)
select_s : Statement
unfolding sorts one' a1 a2 program let_s
select_s =
    Stmt select_case 1 (cons (value one') (cons (list (
    more (cons (that (part (cons (list (more (cons (this (cons (value one') done)) done) none)) done))) (cons (program (let_s 2 1 nothing a1 ∷ [])) done)) (
    more (cons (that (part (cons (list (more (cons (this (cons (value a2) done)) done) none)) done))) (cons (program []) done))
    none))) done))

-- A(A(1, 1)).F = 1
field_assign_s : Statement
unfolding sorts one' a2 target
field_assign_s = Stmt field_assign 1 (cons (part (target 0 (some (a2 ∷ [])))) (cons (value one') done))

-- CALL A(A(1, 1))
call_s : Statement
unfolding sorts a2 expr_rows
call_s = Stmt call 1 (cons (word 0) (cons (list (expr_rows (a2 ∷ []))) done))

-- `subscript_count` opened to the ground, for computing
unfoldable pub rank_in : {i : Shape} → ℕ → Tree Expr i → Option ℕ
unfolding subscript_count in_stmt first_of in_lvalue indexed in_expr in_exprs subscripted or_else many uses plain own items rows_of lvalue optional expressions expression sorts
rank_in name t = subscript_count in_expr name t

ranks : List (Option ℕ)
unfolding one' a1 a2 a3 print_s input_s select_s field_assign_s call_s program let_s sub_s target rank_in
ranks =
    -- X = (A(1)), a call and an element alike
    rank (let_s 1 1 nothing (Paren a1) ∷ []) ∷
    rank (let_s 1 1 nothing a2 ∷ []) ∷
    -- an empty list: a use as a target, no use in an expression
    rank (let_s 1 0 (some []) a1 ∷ []) ∷
    rank (let_s 1 1 nothing (Binary 0 (Call 0 e0) a2) ∷ []) ∷
    rank (let_s 1 1 nothing (Call 0 e0) ∷ []) ∷
    -- an outer use before those in its list; of another name's list the inner one
    rank (let_s 1 1 nothing (Call 0 (e1 a2 e0)) ∷ []) ∷
    rank (let_s 1 1 nothing (Call 1 (e1 a2 (e1 a1 e0))) ∷ []) ∷
    -- the target before the expressions, USING before the items, the file number before the indices, a target anywhere before both
    rank (let_s 1 0 (some (a1 ∷ a1 ∷ a1 ∷ [])) a2 ∷ []) ∷
    rank (print_s ∷ []) ∷
    rank (input_s a2 (target 1 (some (a1 ∷ [])) ∷ []) ∷ []) ∷
    rank (input_s a2 (target 1 (some (a1 ∷ [])) ∷ target 0 (some (a1 ∷ a1 ∷ a1 ∷ [])) ∷ []) ∷ []) ∷
    -- all clauses before the bodies
    rank (select_s ∷ []) ∷
    -- a field's target and a CALL's name count only through their lists
    rank (field_assign_s ∷ []) ∷
    rank (call_s ∷ []) ∷
    -- a nested procedure's body counts, and comes before the next statement
    rank (sub_s 1 1 [] (let_s 2 1 nothing a3 ∷ []) ∷ let_s 3 1 nothing a1 ∷ []) ∷ []
  where
    rank : List Statement → Option ℕ
    rank ss = rank_in 0 (program ss)

counted : ranks ≡ some 1 ∷ some 2 ∷ some 0 ∷ some 2 ∷ nothing ∷ some 1 ∷ some 2 ∷ some 3 ∷ some 2 ∷ some 2 ∷ some 3 ∷ some 2 ∷ some 2 ∷ some 2 ∷ some 3 ∷ []
unfolding ranks
counted = refl
