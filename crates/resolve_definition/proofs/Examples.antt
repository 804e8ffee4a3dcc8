-- The definitions run. What decides a pair and an element is shared by resolving and by the steps of demand 3, so it has examples of its own.
-- Assumes nothing.
use Prim.Native.Nat.{ℕ}
use mathlib.Core.Path.{◌≡◌, refl}
use mathlib.Core.Bool.{Bool, true, false}
use mathlib.Core.List.{List, [], ◌∷◌}
use Rattle.base_words.specs.Word.{word_of}
use Rattle.tree_expr.specs.Expr.{Expr, Lit, Var, Elem, Binary, Call, Paren, Integer, none, more}
use Rattle.tree_stmt.specs.Sorts.{sorts, number_of, let', call, sub}
use Rattle.tree_stmt.specs.Tree.{word, value, Stmt, list, this, done, cons, none as nothing, more as add, Program}
use Rattle.rows_table.specs.Rows.{Row, key, find}
use Rattle.rows_lookup.specs.Lookup.{shares, visible, lookup_array}
use Rattle.resolve_definition.specs.Tables.{Tables, nowhere, places, after, element}
use Rattle.resolve_definition.specs.FromRows.{tables_of}
use Rattle.resolve_definition.specs.Resolve.{passed, called, resolve_expr, resolve_args, first, inside, argued, resolve_tree, resolve_array_accesses}

-- Names: 0 A, 1 B, 2 F, 3 P, 4 Q, 5 R, 6 X. The module has the arrays A, B and F; P has an array X of its own and shares A as an array, B
-- as a variable. FUNCTION F(X, BYVAL X, X(), X AS R, X AS LONG), no TYPE being named R; SUB P without parameters; of Q only a parameter's row.
abbrev rows : List Row
rows =
    (word_of 133 0 ∷ 0 ∷ 1 ∷ 1 ∷ 0 ∷ 0 ∷ []) ∷
    (word_of 133 1 ∷ 0 ∷ 1 ∷ 1 ∷ 0 ∷ 0 ∷ []) ∷
    (word_of 133 2 ∷ 0 ∷ 1 ∷ 1 ∷ 0 ∷ 0 ∷ []) ∷
    (word_of 133 6 ∷ 4 ∷ 1 ∷ 1 ∷ 0 ∷ 0 ∷ []) ∷
    (word_of 135 2 ∷ 0 ∷ 1 ∷ 2 ∷ 0 ∷ 0 ∷ []) ∷
    (word_of 135 3 ∷ 0 ∷ 0 ∷ 3 ∷ 0 ∷ 0 ∷ []) ∷
    (word_of 136 2 ∷ 0 ∷ 6 ∷ 0 ∷ 0 ∷ 0 ∷ []) ∷
    (word_of 136 2 ∷ 1 ∷ 6 ∷ 1 ∷ 0 ∷ 0 ∷ []) ∷
    (word_of 136 2 ∷ 2 ∷ 6 ∷ 2 ∷ 0 ∷ 0 ∷ []) ∷
    (word_of 136 2 ∷ 3 ∷ 6 ∷ 0 ∷ 45 ∷ 5 ∷ []) ∷
    (word_of 136 2 ∷ 4 ∷ 6 ∷ 0 ∷ 41 ∷ 0 ∷ []) ∷
    (word_of 136 4 ∷ 0 ∷ 6 ∷ 0 ∷ 0 ∷ 0 ∷ []) ∷
    (word_of 138 0 ∷ 4 ∷ 2 ∷ 0 ∷ 0 ∷ 0 ∷ []) ∷
    (word_of 138 1 ∷ 4 ∷ 1 ∷ 0 ∷ 0 ∷ 0 ∷ []) ∷
    []

abbrev T : Tables
T = tables_of rows

abbrev by_refs : ℕ → List Bool
by_refs f = places T f 0 ∷ places T f 1 ∷ places T f 2 ∷ places T f 3 ∷ places T f 4 ∷ places T f 5 ∷ []

-- F: by reference; BYVAL; an array; a record of a TYPE that no row has; by reference with a type; past the parameters
places_F : by_refs 2 ≡ true ∷ false ∷ false ∷ false ∷ true ∷ false ∷ []
unfolding places tables_of find key
places_F = refl

-- P has no parameters; of Q nothing is known, since it has no row 135; A is no procedure
places_none : (places T 3 0 ∷ places T 4 0 ∷ places T 0 0 ∷ []) ≡ false ∷ false ∷ false ∷ []
unfolding places tables_of find key
places_none = refl

-- in the module: A and B are elements, F is a procedure, X is P's alone, Q is nothing
element_module : (element T 0 0 ∷ element T 0 1 ∷ element T 0 2 ∷ element T 0 6 ∷ element T 0 4 ∷ []) ≡ true ∷ true ∷ false ∷ false ∷ false ∷ []
unfolding element tables_of find key lookup_array visible
element_module = refl

-- in P: A is shared, B isn't as an array, F is a procedure, X is its own
element_P : (element T 4 0 ∷ element T 4 1 ∷ element T 4 2 ∷ element T 4 6 ∷ []) ≡ true ∷ false ∷ false ∷ true ∷ []
unfolding element tables_of find key lookup_array visible shares
element_P = refl

abbrev X : Expr
X = Var 6

-- F(((X)), (X), (X), (X), (X), (X)) keeps one pair in the first and the fifth
call_F : resolve_expr T 0 (Call 2 (more (Paren (Paren X)) (more (Paren X) (more (Paren X) (more (Paren X) (more (Paren X) (more (Paren X) none))))))) ≡ Call 2 (more (Paren X) (more X (more X (more X (more (Paren X) (more X none))))))
unfolding resolve_expr resolve_args passed called places element after tables_of find key lookup_array visible
call_F = refl

-- F((X) + (X)) keeps none: no pair stands around the whole argument
call_inner : resolve_expr T 0 (Call 2 (more (Binary 0 (Paren X) (Paren X)) none)) ≡ Call 2 (more (Binary 0 X X) none)
unfolding resolve_expr resolve_args passed called places element after tables_of find key lookup_array visible
call_inner = refl

-- (A((X))) becomes an element, in the module and in P; an element F((X)) stays one and its index loses its pair; so does A()
element_A : (resolve_expr T 0 (Paren (Call 0 (more (Paren X) none))) ∷ resolve_expr T 4 (Call 0 (more (Paren X) none)) ∷ resolve_expr T 0 (Elem 2 (more (Paren X) none)) ∷ resolve_expr T 0 (Call 0 none) ∷ []) ≡ Elem 0 (more X none) ∷ Elem 0 (more X none) ∷ Elem 2 (more X none) ∷ Elem 0 none ∷ []
unfolding resolve_expr resolve_args passed called places element after nowhere tables_of find key lookup_array visible shares
element_A = refl

-- CALL A((X)): X = X(1): SUB P: X = X((1)): CALL F((X), (X)): END SUB. A is no procedure, so its argument loses its pair, but CALL A stays;
-- the module's X is no array, P's is.
unfoldable before : Program
unfolding sorts
before =
    list (add (cons (Stmt call 1 (cons (word 0) (cons (list (add (cons (value (Paren X)) done) nothing)) done))) done)
    (add (cons (Stmt let' 2 (cons (word 6) (cons (this done) (cons (value (Call 6 (more (Lit (Integer 1)) none))) done)))) done)
    (add (cons (Stmt sub 3 (cons (word 3) (cons (list nothing) (cons (list
    (add (cons (Stmt let' 4 (cons (word 6) (cons (this done) (cons (value (Call 6 (more (Paren (Lit (Integer 1))) none))) done)))) done)
    (add (cons (Stmt call 5 (cons (word 2) (cons (list (add (cons (value (Paren X)) done) (add (cons (value (Paren X)) done) nothing))) done))) done)
    nothing))) (cons (word 0) done))))) done)
    nothing)))

unfoldable afterwards : Program
unfolding sorts
afterwards =
    list (add (cons (Stmt call 1 (cons (word 0) (cons (list (add (cons (value X) done) nothing)) done))) done)
    (add (cons (Stmt let' 2 (cons (word 6) (cons (this done) (cons (value (Call 6 (more (Lit (Integer 1)) none))) done)))) done)
    (add (cons (Stmt sub 3 (cons (word 3) (cons (list nothing) (cons (list
    (add (cons (Stmt let' 4 (cons (word 6) (cons (this done) (cons (value (Elem 6 (more (Lit (Integer 1)) none))) done)))) done)
    (add (cons (Stmt call 5 (cons (word 2) (cons (list (add (cons (value (Paren X)) done) (add (cons (value X) done) nothing))) done))) done)
    nothing))) (cons (word 0) done))))) done)
    nothing)))

program : resolve_array_accesses T 0 before ≡ afterwards
unfolding before afterwards resolve_array_accesses resolve_tree first inside argued number_of sorts resolve_expr resolve_args passed called places element after nowhere tables_of find key lookup_array visible shares
program = refl
