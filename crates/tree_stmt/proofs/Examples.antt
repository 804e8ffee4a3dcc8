-- The definition runs: the scope paper's example, and words that it refuses. Assumes nothing.
use Prim.Native.Nat.{ℕ}
use mathlib.Core.Path.{◌≡◌, refl}
use mathlib.Core.List.{List, [], ◌∷◌}
use Rattle.tree_expr.specs.Expr.{Expr, Lit, Elem, Paren, Integer, none as no_expr, more as and_expr}
use Rattle.tree_expr.specs.Got.{got, wrong, bind}
use Rattle.tree_expr.specs.Reader.{raw_at, test_at, leaf_at, name_at, head_at, float_at, literal_body, literal_at, exprs_at, list_at, body_at, expr_at}
use Rattle.tree_stmt.specs.Sorts.{stmt, many, nil, ◌&◌, sorts, kind_at, kinds, dim, let'}
use Rattle.tree_stmt.specs.Tree.{Tree, one, word, value, Stmt, list, part, this, that, done, cons, none, more}
use Rattle.tree_stmt.specs.Reader.{word_at, never_at, is_at, stmt_head, rows_at, field_at, row_at, rest_at, stmt_at, program_at}

-- DIM A(5) on line 1, X = (A(2)) on line 2; both strings are names
abbrev ws : List ℕ
ws = 0x01000002 ∷ 0x4f000001 ∷ 0x01000001 ∷ 0x02000000 ∷ 0x01000001 ∷ 0x10000000 ∷ 0x18000000 ∷ 5 ∷ 0x01000000 ∷ 0 ∷ 0x03000000 ∷ 0x42000002 ∷ 0x02000001 ∷ 0 ∷ 0x17000000 ∷ 0x12000000 ∷ 0x02000000 ∷ 0x01000001 ∷ 0x10000000 ∷ 0x18000000 ∷ 2 ∷ []

unfoldable tree : Tree Expr (one (many (stmt & nil)))
unfolding sorts
tree =
    list (more (cons (Stmt dim 1
    (cons (list (more (cons (word 0) (cons (that (part (cons (list (more (cons (value (Lit (Integer 5))) done) none)) done))) (cons (list none) (cons (this done) done)))) none)) (cons (word 0) done))) done)
    (more (cons (Stmt let' 2 (cons (word 1) (cons (this done) (cons (value (Paren (Elem 0 (and_expr (Lit (Integer 2)) no_expr)))) done)))) done)
    none))

example : program_at ws (1 ∷ 1 ∷ []) 2 ≡ got tree 21
unfolding program_at field_at row_at rows_at rest_at stmt_at stmt_head word_at never_at is_at raw_at test_at leaf_at name_at head_at float_at literal_body literal_at exprs_at list_at body_at expr_at bind sorts kind_at kinds tree
example = refl

-- the first string is no name: the DIM's name is wrong
no_name : program_at ws (0 ∷ 1 ∷ []) 2 ≡ wrong 3
unfolding program_at field_at row_at rows_at rest_at stmt_at stmt_head word_at never_at is_at raw_at test_at leaf_at name_at head_at float_at literal_body literal_at exprs_at list_at body_at expr_at bind sorts kind_at kinds
no_name = refl

-- RESUME with a GOTO target's head where its own should be, and an early end
not_a_target : program_at (0x01000001 ∷ 0x66000001 ∷ 0x30000000 ∷ 0x04000000 ∷ []) [] 0 ≡ wrong 2
unfolding program_at field_at row_at rows_at rest_at stmt_at stmt_head word_at never_at is_at raw_at test_at leaf_at name_at head_at float_at literal_body literal_at exprs_at list_at body_at expr_at bind sorts kind_at kinds
not_a_target = refl

early_end : program_at (0x01000001 ∷ 0x66000001 ∷ 0x36000000 ∷ 0x30000000 ∷ []) [] 0 ≡ wrong 4
unfolding program_at field_at row_at rows_at rest_at stmt_at stmt_head word_at never_at is_at raw_at test_at leaf_at name_at head_at float_at literal_body literal_at exprs_at list_at body_at expr_at bind sorts kind_at kinds
early_end = refl

-- a name inside an expression must be a name too: X = Y, with Y's string no name, is wrong at Y
not_in_expr : program_at (0x01000001 ∷ 0x42000001 ∷ 0x02000000 ∷ 0 ∷ 0x11000000 ∷ 0x02000001 ∷ []) (1 ∷ 0 ∷ []) 2 ≡ wrong 5
unfolding program_at field_at row_at rows_at rest_at stmt_at stmt_head word_at never_at is_at raw_at test_at leaf_at name_at head_at float_at literal_body literal_at exprs_at list_at body_at expr_at bind sorts kind_at kinds
not_in_expr = refl
