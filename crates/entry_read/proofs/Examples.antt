-- Worked examples: what is accepted, and the number and place of each refusal. Assumes nothing.
use Prim.Native.Nat.{ℕ, zero, suc}
use mathlib.Core.Path.{◌≡◌, refl}
use mathlib.Core.List.{List, [], ◌∷◌}
use Rattle.base_words.specs.Told.{stops, gives, after, unless}
use Rattle.tree_expr.specs.Expr.{Lit, Elem, Paren, Integer, none as no_expr, more as and_expr}
use Rattle.tree_expr.specs.Got.{bind}
use Rattle.tree_expr.specs.Reader.{raw_at, test_at, leaf_at, name_at, head_at, float_at, literal_body, literal_at, exprs_at, list_at, body_at, expr_at}
use Rattle.tree_stmt.specs.Sorts.{sorts, kind_at, kinds, dim, let'}
use Rattle.tree_stmt.specs.Tree.{word, value, Stmt, list, part, this, that, done, cons, none, more, Program}
use Rattle.tree_stmt.specs.Reader.{word_at, never_at, is_at, stmt_head, rows_at, field_at, row_at, rest_at, stmt_at, program_at}
use Rattle.entry_read.specs.Reading.{node_of, statement_of, expression_of}
use Rattle.entry_read.specs.Program.{whole_of, erased_from, program_of, accepted_of, verdict}

-- DIM A(5) on line 1, X = (A(2)) on line 2; both strings are names
abbrev example : List ℕ
example = 0x01000002 ∷ 0x4f000001 ∷ 0x01000001 ∷ 0x02000000 ∷ 0x01000001 ∷ 0x10000000 ∷ 0x18000000 ∷ 5 ∷ 0x01000000 ∷ 0 ∷ 0x03000000 ∷ 0x42000002 ∷ 0x02000001 ∷ 0 ∷ 0x17000000 ∷ 0x12000000 ∷ 0x02000000 ∷ 0x01000001 ∷ 0x10000000 ∷ 0x18000000 ∷ 2 ∷ []

abbrev names : List ℕ
names = 1 ∷ 1 ∷ []

unfoldable tree : Program
unfolding sorts
tree =
    list (more (cons (Stmt dim 1
    (cons (list (more (cons (word 0) (cons (that (part (cons (list (more (cons (value (Lit (Integer 5))) done) none)) done))) (cons (list none) (cons (this done) done)))) none)) (cons (word 0) done))) done)
    (more (cons (Stmt let' 2 (cons (word 1) (cons (this done) (cons (value (Paren (Elem 0 (and_expr (Lit (Integer 2)) no_expr)))) done)))) done)
    none))

accepted : accepted_of names example (0 ∷ 1 ∷ []) ≡ gives tree
unfolding accepted_of program_of whole_of erased_from after unless program_at field_at row_at rows_at rest_at stmt_at stmt_head word_at never_at is_at raw_at test_at leaf_at name_at head_at float_at literal_body literal_at exprs_at list_at body_at expr_at bind sorts kind_at kinds tree
accepted = refl

-- erased names that don't rise strictly
not_rising : accepted_of names example (1 ∷ 1 ∷ []) ≡ stops 4 0
unfolding accepted_of program_of whole_of erased_from after unless program_at field_at row_at rows_at rest_at stmt_at stmt_head word_at never_at is_at raw_at test_at leaf_at name_at head_at float_at literal_body literal_at exprs_at list_at body_at expr_at bind sorts kind_at kinds
not_rising = refl

-- no words at all; a word over; the first statement alone, with words after it
no_words : program_of [] [] ≡ stops 2 0
unfolding program_of whole_of program_at field_at leaf_at bind
no_words = refl

over : program_of [] (0x01000000 ∷ 0x01000000 ∷ []) ≡ stops 2 1
unfolding program_of whole_of program_at field_at rows_at leaf_at bind
over = refl

first : statement_of names example 1 ≡ gives (record { head = 0x4f000001; first = 1; end = 11 })
unfolding statement_of node_of field_at row_at rows_at rest_at stmt_at stmt_head word_at never_at is_at raw_at test_at leaf_at name_at head_at float_at literal_body literal_at exprs_at list_at body_at expr_at bind sorts kind_at kinds
first = refl

-- an early end; a payload on an expression's head; a float that is not finite, laid to its high word
early : expression_of names (0x12000000 ∷ 0x02000000 ∷ 0x01ffffff ∷ 0x11000000 ∷ 0x02000000 ∷ []) 0 ≡ stops 2 5
unfolding expression_of node_of leaf_at name_at head_at exprs_at list_at body_at expr_at bind
early = refl

payload : expression_of names (0x11000001 ∷ 0x02000000 ∷ []) 0 ≡ stops 2 0
unfolding expression_of node_of head_at expr_at bind
payload = refl

infinite : expression_of names (0x10000000 ∷ 0x1b000000 ∷ 0 ∷ 0x7ff00000 ∷ []) 0 ≡ stops 2 3
unfolding expression_of node_of raw_at test_at head_at float_at literal_body literal_at body_at expr_at bind
infinite = refl

-- DO loops one in another: a hundred levels pass, and the head of the next one is too deep
nest : ℕ → List ℕ
nest zero = 0x01000000 ∷ []
nest (suc k) = 0x01000001 ∷ 0x49000001 ∷ 0 ∷ 0x03000000 ∷ 0x03000000 ∷ nest k

hundred : verdict (program_of [] (nest 100)) ≡ gives tt
unfolding program_of whole_of verdict program_at field_at row_at rows_at rest_at stmt_at stmt_head word_at never_at is_at raw_at test_at leaf_at name_at head_at expr_at bind sorts kind_at kinds nest
hundred = refl

one_more : verdict (program_of [] (nest 101)) ≡ stops 3 501
unfolding program_of whole_of verdict program_at field_at row_at rows_at rest_at stmt_at stmt_head word_at never_at is_at raw_at test_at leaf_at name_at head_at expr_at bind sorts kind_at kinds nest
one_more = refl

-- a string that is no name: as a DATA text it is right
as_data : verdict (program_of (1 ∷ 0 ∷ []) (0x01000001 ∷ 0x5f000001 ∷ 0x01000001 ∷ 0x02000001 ∷ 0x03000000 ∷ [])) ≡ gives tt
unfolding program_of whole_of verdict program_at field_at row_at rows_at rest_at stmt_at stmt_head word_at never_at is_at leaf_at bind sorts kind_at kinds
as_data = refl
