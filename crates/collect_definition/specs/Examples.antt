-- Worked examples: where `collect` and the collision check are easy to misread. The answers are sema.rs's; numbers 7, 8 and 9 are document 01's.
use Rattle.std.specs.Prelude.{ℕ, ◌≡◌, refl, List, [], ◌∷◌, get_or}
use Rattle.std.proofs.Math.Option.{Option, none as nothing, some}
use Rattle.base_strings.specs.Name.{between, suffix}
use Rattle.tree_expr.specs.Expr.{Expr, Lit, Integer, Var, Call, Binary, Paren, none as e0, more as e1, many}
use Rattle.tree_stmt.specs.Sorts.{FieldDecl, sorts}
use Rattle.tree_stmt.specs.Tree.{Shape, Tree, row, over}
use Rattle.tree_views.specs.View as Views
use Rattle.tree_views.specs.Uses as U
use Rattle.tree_views.specs.Build.{Statement, program, declarator, lowered, param, item, field, typeless, typed, integer, string, record', label_name_s, let_s, dim_s, redim_s, shared_s, static_s, const_s, option_base_s, type_s, sub_s, function_s}
use Rattle.collect_subscript_count.specs.Subscripts as S
use Rattle.fold_values.specs.Value.{value_of}
use Rattle.fold_values.specs.Fold as F
use Rattle.rows_table.specs.Rows.{find, insert, insert_all, remove, replace, key}
use Rattle.rows_lookup.specs.Lookup as L
use Rattle.base_text.specs.Text.{ascii}
use Rattle.base_builtins.specs.Builtins as N
use Rattle.fold_const_eval.specs.ConstEval.{literal, const_eval}
use Rattle.collect_definition.specs.Seen.{see}
use Rattle.collect_buffers.specs.State as T
use Rattle.collect_buffers.specs.State.{State, running, stopped, Step}
use Rattle.collect_definition.specs.Collect as C
use Rattle.collect_definition.specs.Collect.{Given, collect, check_name_collisions}

-- collecting and the collision check opened to the ground, for computing
unfoldable pub opened : {i : Shape} → Given → Tree Expr i → Step
unfolding sorts over Views.optional Views.rows_of Views.items Views.is_set Views.type_ref Views.as_type Views.expression Views.expressions Views.lower Views.lvalue Views.declarator Views.param Views.scope_item Views.field_decl Views.view Views.inner Views.walk U.own U.plain U.uses S.or_else S.first_of S.subscripted S.in_expr S.indexed S.in_lvalue S.in_stmt S.subscript_count many C.last_of C.member C.disagrees C.any_some C.any_array C.fixed_length C.has_field C.type_rejected C.rejected C.with_field C.field_rows C.param_rows C.marked C.const_of C.differs C.undefined C.label C.label_name C.fields C.type_def C.option_base C.folded C.const C.item C.typed C.item_type C.items C.declared_as C.redeclared C.declared_array C.declared C.shared_all C.dim_shared C.dim C.redim C.param_string C.check_variable_length_strings C.result_type C.ranked C.array_param C.param_type C.typed_param C.procedure C.statement C.collect C.collides C.collision C.check_name_collisions C.collected C.analysed T.asking T.each T.stop T.fits T.change T.enter T.push see literal const_eval value_of F.negate_of F.div_of F.whole_div_of F.arith_of F.op_of F.binary_of key find insert insert_all remove replace between suffix L.type_words L.from_suffix L.from_type_ref N.is_builtin N.builtin N.entry_of N.same N.builtins N.takes ascii
opened G t = collect G 0 (over see t)

-- both, one after the other
unfoldable pub opened_both : {i : Shape} → Given → Tree Expr i → Step
unfolding opened
opened_both G t s = check_name_collisions G (opened G t s)

-- the strings: 0 A, 1 B, 2 F#, 3 F%, 4 K, 5 LEN, 6 S, 7 T, 8 U, 9 X
strings : List (List ℕ)
strings = (65 ∷ []) ∷ (66 ∷ []) ∷ (70 ∷ 35 ∷ []) ∷ (70 ∷ 37 ∷ []) ∷ (75 ∷ []) ∷ (76 ∷ 69 ∷ 78 ∷ []) ∷ (83 ∷ []) ∷ (84 ∷ []) ∷ (85 ∷ []) ∷ (88 ∷ []) ∷ []

-- room for so many rows and diagnostics
given : Option ℕ → Option ℕ → List ℕ → Given
unfolding strings
given rows notes erased = record { row_room = rows; note_room = notes; string = λ n. get_or strings n []; erased = erased }

free : Given
unfolding given
free = given nothing nothing []

one' : Expr
one' = Lit (Integer 1)

five : Expr
five = Lit (Integer 5)

-- A(5), A(5, 5)
a1 : List Expr
unfolding five
a1 = five ∷ []

a2 : List Expr
unfolding five
a2 = five ∷ five ∷ []

run : Given → List Statement → State
unfolding opened program
run G ss = opened G (program ss) (running [] [])

both : List Statement → State
unfolding opened_both program free
both ss = opened_both free (program ss) (running [] [])

-- TYPE T with those fields, where U has 65,535 words
after : Option ℕ → Option ℕ → List (Tree Expr (row FieldDecl)) → State
unfolding opened program type_s given
after rows notes fs = opened (given rows notes []) (program (type_s 1 7 fs ∷ [])) (running ((0x82000008 ∷ 0 ∷ 65535 ∷ 0 ∷ 0 ∷ 0 ∷ []) ∷ []) [])

examples : List State
unfolding strings given free one' five a1 a2 run both after label_name_s let_s dim_s redim_s shared_s static_s const_s option_base_s type_s sub_s function_s declarator lowered
examples =
    -- document 01's: DIM A(5), X = (A(2))
    run free (dim_s 1 (declarator 0 (some a1) typeless ∷ []) 0 ∷ let_s 2 9 nothing (Paren (Call 0 (e1 (Lit (Integer 2)) e0))) ∷ []) ∷
    -- a label twice: 2, and the scope is overwritten, whatever the scopes
    run free (label_name_s 1 0 ∷ sub_s 2 6 [] (label_name_s 3 0 ∷ []) ∷ []) ∷
    -- a redefined procedure replaces its parameters; its old row 142 stays though A is ranked now: A(5, 5) = 5
    run free (sub_s 1 6 (param 0 0 1 typeless ∷ param 1 0 0 typeless ∷ []) [] ∷ sub_s 2 6 (param 0 0 1 typeless ∷ []) (let_s 3 0 (some a2) five ∷ []) ∷ []) ∷
    -- a field's name may come again if it was rejected: A AS U (7), A AS T (6), A AS INTEGER, A AS STRING * 7 (5), B AS STRING * 7
    run free (type_s 1 7 (field 0 (record' 8) ∷ field 0 (record' 7) ∷ field 0 integer ∷ field 0 (string 7) ∷ field 1 (string 7) ∷ []) ∷ []) ∷
    -- a TYPE is laid out with the inner one as it is then
    run free (type_s 1 8 (field 0 (string 0) ∷ []) ∷ type_s 2 7 (field 0 (record' 8) ∷ field 1 integer ∷ []) ∷ type_s 3 8 (field 0 integer ∷ []) ∷ []) ∷
    -- OPTION BASE after an array parameter is 9, the next one 8; the last value stays
    run free (sub_s 1 6 (param 0 0 1 typeless ∷ []) [] ∷ option_base_s 2 1 ∷ option_base_s 3 0 ∷ []) ∷
    -- CONST K = 5, K = K + 5 (10), K = X (10 and 12) and K = 30000 + 30000 (10 and 11) leave 10
    run free (const_s 1 4 five ∷ const_s 2 4 (Binary 0 (Var 4) five) ∷ const_s 3 4 (Var 9) ∷ const_s 4 4 (Binary 0 (Lit (Integer 30000)) (Lit (Integer 30000))) ∷ []) ∷
    -- STATIC at module level is one 13; in a procedure marks add up, and STATIC gives a type where SHARED doesn't
    run free (static_s 1 (item 0 0 typeless ∷ item 1 0 typeless ∷ []) ∷ sub_s 2 6 [] (static_s 3 (item 0 1 (typed integer) ∷ item 0 0 (typed integer) ∷ []) ∷ shared_s 4 (item 1 0 (typed integer) ∷ []) ∷ shared_s 5 [] ∷ []) ∷ []) ∷
    -- DIM A(1 TO 5), REDIM A(): 18 and 21, a row of rank 0, has_lower inherited
    run free (dim_s 1 (lowered 0 one' a1 ∷ []) 0 ∷ redim_s 2 (declarator 0 (some []) typeless ∷ []) 0 ∷ []) ∷
    -- DIM twice is 19
    run free (dim_s 1 (declarator 0 (some a1) typeless ∷ []) 0 ∷ dim_s 2 (declarator 0 (some a2) typeless ∷ []) 0 ∷ []) ∷
    -- where A is erased, another rank is 21 and the same rank nothing, in every scope
    run (given nothing nothing (0 ∷ [])) (dim_s 1 (declarator 0 (some a1) typeless ∷ []) 0 ∷ dim_s 2 (declarator 0 (some a2) typeless ∷ []) 0 ∷ sub_s 3 6 [] (dim_s 4 (declarator 0 (some a1) typeless ∷ []) 0 ∷ dim_s 5 (declarator 0 (some a1) typeless ∷ []) 0 ∷ []) ∷ []) ∷
    -- DIM SHARED in a procedure: 14, and locals; DIM F% AS T gives 16 and no 15
    run free (sub_s 1 6 [] (dim_s 2 (declarator 3 nothing (typed (record' 7)) ∷ []) 1 ∷ []) ∷ []) ∷
    -- FUNCTION F% AS T is 15, F# AS T isn't: a record counts as Double; AS STRING * 3 is 23, and for parameters 22 though BYVAL; 26 not for an array
    run free (function_s 1 3 (param 0 1 0 (typed (string 3)) ∷ param 1 0 1 (typed (record' 7)) ∷ []) (typed (record' 7)) [] ∷ function_s 2 2 (param 0 0 0 (typed (record' 7)) ∷ []) (typed (record' 7)) [] ∷ function_s 3 6 (param 0 0 0 (typed (string 0)) ∷ []) (typed (string 3)) [] ∷ []) ∷
    -- a procedure in another: 24, and its body in its own scope
    run free (sub_s 1 6 [] (sub_s 2 9 [] (dim_s 3 (declarator 0 (some a1) typeless ∷ []) 0 ∷ []) ∷ dim_s 4 (declarator 0 (some a1) typeless ∷ []) 0 ∷ []) ∷ []) ∷
    -- collisions, one for each scope and in row order; a procedure named like a builtin gives 27
    both (dim_s 1 (declarator 5 (some a1) typeless ∷ declarator 6 (some a1) typeless ∷ []) 0 ∷ sub_s 2 6 [] (dim_s 3 (declarator 5 (some a1) typeless ∷ []) 0 ∷ []) ∷ []) ∷
    -- the same with SUB LEN
    both (dim_s 1 (declarator 5 (some a1) typeless ∷ []) 0 ∷ sub_s 2 5 [] [] ∷ []) ∷
    -- no room for a row; none for a diagnostic; just enough for both, though the row is entered twice
    run (given (some 5) nothing []) (dim_s 1 (declarator 0 (some a1) typeless ∷ []) 0 ∷ []) ∷
    run (given (some 6) (some 5) []) (dim_s 1 (declarator 0 (some a1) typeless ∷ []) 0 ∷ dim_s 2 (declarator 0 (some a1) typeless ∷ []) 0 ∷ []) ∷
    run (given (some 6) (some 6) []) (dim_s 1 (declarator 0 (some a1) typeless ∷ []) 0 ∷ dim_s 2 (declarator 0 (some a1) typeless ∷ []) 0 ∷ []) ∷
    -- a TYPE replaced by a shorter one in full rows
    run (given (some 18) nothing []) (type_s 1 7 (field 0 integer ∷ field 1 integer ∷ []) ∷ type_s 2 7 (field 0 integer ∷ []) ∷ dim_s 3 (declarator 0 (some a1) typeless ∷ []) 0 ∷ []) ∷
    -- 65,535 words pass; at the field that passes them 9, before a later field's diagnostic (8) and the rows (7), after an earlier one's (8)
    after nothing nothing (field 0 (record' 8) ∷ []) ∷
    after (some 6) (some 0) (field 0 (record' 8) ∷ field 1 integer ∷ field 0 integer ∷ []) ∷
    after (some 6) (some 0) (field 0 (record' 8) ∷ field 0 integer ∷ field 1 integer ∷ []) ∷
    []

answers : List State
answers =
    running ((0x85000000 ∷ 0 ∷ 1 ∷ 1 ∷ 0 ∷ 0 ∷ []) ∷ []) [] ∷
    running ((0x81000000 ∷ 0 ∷ 7 ∷ 0 ∷ 0 ∷ 0 ∷ []) ∷ (0x87000006 ∷ 0 ∷ 0 ∷ 2 ∷ 0 ∷ 0 ∷ []) ∷ []) ((2 ∷ 3 ∷ 1 ∷ 0 ∷ 0 ∷ 0 ∷ []) ∷ []) ∷
    running ((0x85000000 ∷ 7 ∷ 2 ∷ 2 ∷ 1 ∷ 0 ∷ []) ∷ (0x87000006 ∷ 0 ∷ 0 ∷ 2 ∷ 0 ∷ 0 ∷ []) ∷ (0x88000006 ∷ 0 ∷ 0 ∷ 2 ∷ 0 ∷ 0 ∷ []) ∷ (0x8e000000 ∷ 7 ∷ 0 ∷ 0 ∷ 0 ∷ 0 ∷ []) ∷ []) ((25 ∷ 2 ∷ 7 ∷ 0 ∷ 0 ∷ 1 ∷ []) ∷ []) ∷
    running ((0x82000007 ∷ 0 ∷ 3 ∷ 1 ∷ 0 ∷ 0 ∷ []) ∷ (0x83000007 ∷ 0 ∷ 0 ∷ 0 ∷ 40 ∷ 0 ∷ []) ∷ (0x83000007 ∷ 1 ∷ 1 ∷ 1 ∷ 44 ∷ 7 ∷ []) ∷ []) ((7 ∷ 1 ∷ 1 ∷ 9 ∷ 0 ∷ 0 ∷ []) ∷ (6 ∷ 1 ∷ 8 ∷ 0 ∷ 0 ∷ 0 ∷ []) ∷ (5 ∷ 1 ∷ 1 ∷ 8 ∷ 0 ∷ 0 ∷ []) ∷ []) ∷
    running ((0x82000007 ∷ 0 ∷ 3 ∷ 2 ∷ 0 ∷ 0 ∷ []) ∷ (0x82000008 ∷ 0 ∷ 1 ∷ 3 ∷ 0 ∷ 0 ∷ []) ∷ (0x83000007 ∷ 0 ∷ 0 ∷ 0 ∷ 45 ∷ 8 ∷ []) ∷ (0x83000007 ∷ 1 ∷ 1 ∷ 2 ∷ 40 ∷ 0 ∷ []) ∷ (0x83000008 ∷ 0 ∷ 0 ∷ 0 ∷ 40 ∷ 0 ∷ []) ∷ []) ((3 ∷ 3 ∷ 9 ∷ 0 ∷ 0 ∷ 1 ∷ []) ∷ []) ∷
    running ((0x85000000 ∷ 7 ∷ 1 ∷ 1 ∷ 1 ∷ 0 ∷ []) ∷ (0x87000006 ∷ 0 ∷ 0 ∷ 1 ∷ 0 ∷ 0 ∷ []) ∷ (0x88000006 ∷ 0 ∷ 0 ∷ 2 ∷ 0 ∷ 0 ∷ []) ∷ (0x8e000000 ∷ 7 ∷ 0 ∷ 0 ∷ 0 ∷ 0 ∷ []) ∷ (0x8f000000 ∷ 0 ∷ 0 ∷ 0 ∷ 0 ∷ 0 ∷ []) ∷ []) ((9 ∷ 2 ∷ 0 ∷ 0 ∷ 0 ∷ 0 ∷ []) ∷ (8 ∷ 3 ∷ 0 ∷ 0 ∷ 0 ∷ 0 ∷ []) ∷ []) ∷
    running ((0x84000004 ∷ 0 ∷ 24 ∷ 10 ∷ 0 ∷ 0 ∷ []) ∷ []) ((10 ∷ 2 ∷ 5 ∷ 0 ∷ 0 ∷ 0 ∷ []) ∷ (10 ∷ 3 ∷ 5 ∷ 0 ∷ 0 ∷ 0 ∷ []) ∷ (12 ∷ 3 ∷ 5 ∷ 0 ∷ 0 ∷ 0 ∷ []) ∷ (10 ∷ 4 ∷ 5 ∷ 0 ∷ 0 ∷ 0 ∷ []) ∷ (11 ∷ 4 ∷ 5 ∷ 0 ∷ 0 ∷ 0 ∷ []) ∷ []) ∷
    running ((0x86000000 ∷ 7 ∷ 40 ∷ 0 ∷ 0 ∷ 0 ∷ []) ∷ (0x87000006 ∷ 0 ∷ 0 ∷ 2 ∷ 0 ∷ 0 ∷ []) ∷ (0x8a000001 ∷ 7 ∷ 1 ∷ 0 ∷ 0 ∷ 0 ∷ []) ∷ (0x8b000000 ∷ 7 ∷ 3 ∷ 0 ∷ 0 ∷ 0 ∷ []) ∷ []) ((13 ∷ 1 ∷ 0 ∷ 0 ∷ 1 ∷ 0 ∷ []) ∷ []) ∷
    running ((0x85000000 ∷ 0 ∷ 0 ∷ 2 ∷ 1 ∷ 0 ∷ []) ∷ []) ((18 ∷ 2 ∷ 1 ∷ 0 ∷ 0 ∷ 0 ∷ []) ∷ (21 ∷ 2 ∷ 1 ∷ 0 ∷ 1 ∷ 0 ∷ []) ∷ []) ∷
    running ((0x85000000 ∷ 0 ∷ 2 ∷ 2 ∷ 0 ∷ 0 ∷ []) ∷ []) ((19 ∷ 2 ∷ 1 ∷ 0 ∷ 0 ∷ 0 ∷ []) ∷ []) ∷
    running ((0x85000000 ∷ 0 ∷ 2 ∷ 2 ∷ 0 ∷ 0 ∷ []) ∷ (0x85000000 ∷ 7 ∷ 1 ∷ 5 ∷ 0 ∷ 0 ∷ []) ∷ (0x87000006 ∷ 0 ∷ 0 ∷ 3 ∷ 0 ∷ 0 ∷ []) ∷ []) ((21 ∷ 2 ∷ 1 ∷ 0 ∷ 1 ∷ 0 ∷ []) ∷ []) ∷
    running ((0x86000003 ∷ 7 ∷ 45 ∷ 7 ∷ 0 ∷ 0 ∷ []) ∷ (0x87000006 ∷ 0 ∷ 0 ∷ 1 ∷ 0 ∷ 0 ∷ []) ∷ []) ((14 ∷ 2 ∷ 0 ∷ 0 ∷ 0 ∷ 0 ∷ []) ∷ (16 ∷ 2 ∷ 8 ∷ 0 ∷ 0 ∷ 0 ∷ []) ∷ []) ∷
    running ((0x85000001 ∷ 4 ∷ 1 ∷ 1 ∷ 1 ∷ 0 ∷ []) ∷ (0x86000000 ∷ 3 ∷ 45 ∷ 7 ∷ 0 ∷ 0 ∷ []) ∷ (0x86000000 ∷ 4 ∷ 44 ∷ 3 ∷ 0 ∷ 0 ∷ []) ∷ (0x86000000 ∷ 7 ∷ 44 ∷ 0 ∷ 0 ∷ 0 ∷ []) ∷ (0x87000002 ∷ 0 ∷ 1 ∷ 2 ∷ 45 ∷ 7 ∷ []) ∷ (0x87000003 ∷ 0 ∷ 1 ∷ 1 ∷ 45 ∷ 7 ∷ []) ∷ (0x87000006 ∷ 0 ∷ 1 ∷ 3 ∷ 44 ∷ 3 ∷ []) ∷ (0x88000002 ∷ 0 ∷ 0 ∷ 0 ∷ 45 ∷ 7 ∷ []) ∷ (0x88000003 ∷ 0 ∷ 0 ∷ 1 ∷ 44 ∷ 3 ∷ []) ∷ (0x88000003 ∷ 1 ∷ 1 ∷ 2 ∷ 45 ∷ 7 ∷ []) ∷ (0x88000006 ∷ 0 ∷ 0 ∷ 0 ∷ 44 ∷ 0 ∷ []) ∷ (0x8e000001 ∷ 4 ∷ 0 ∷ 0 ∷ 0 ∷ 0 ∷ []) ∷ []) ((15 ∷ 1 ∷ 4 ∷ 0 ∷ 0 ∷ 0 ∷ []) ∷ (22 ∷ 1 ∷ 1 ∷ 4 ∷ 3 ∷ 0 ∷ []) ∷ (26 ∷ 2 ∷ 1 ∷ 8 ∷ 0 ∷ 0 ∷ []) ∷ (23 ∷ 3 ∷ 7 ∷ 0 ∷ 3 ∷ 0 ∷ []) ∷ []) ∷
    running ((0x85000000 ∷ 7 ∷ 1 ∷ 4 ∷ 0 ∷ 0 ∷ []) ∷ (0x85000000 ∷ 10 ∷ 1 ∷ 3 ∷ 0 ∷ 0 ∷ []) ∷ (0x87000006 ∷ 0 ∷ 0 ∷ 1 ∷ 0 ∷ 0 ∷ []) ∷ (0x87000009 ∷ 0 ∷ 0 ∷ 2 ∷ 0 ∷ 0 ∷ []) ∷ []) ((24 ∷ 2 ∷ 10 ∷ 0 ∷ 0 ∷ 0 ∷ []) ∷ []) ∷
    running ((0x85000005 ∷ 0 ∷ 1 ∷ 1 ∷ 0 ∷ 0 ∷ []) ∷ (0x85000005 ∷ 7 ∷ 1 ∷ 3 ∷ 0 ∷ 0 ∷ []) ∷ (0x85000006 ∷ 0 ∷ 1 ∷ 1 ∷ 0 ∷ 0 ∷ []) ∷ (0x87000006 ∷ 0 ∷ 0 ∷ 2 ∷ 0 ∷ 0 ∷ []) ∷ []) ((28 ∷ 1 ∷ 6 ∷ 0 ∷ 0 ∷ 0 ∷ []) ∷ (28 ∷ 3 ∷ 6 ∷ 0 ∷ 0 ∷ 0 ∷ []) ∷ (27 ∷ 1 ∷ 7 ∷ 0 ∷ 0 ∷ 2 ∷ []) ∷ []) ∷
    running ((0x85000005 ∷ 0 ∷ 1 ∷ 1 ∷ 0 ∷ 0 ∷ []) ∷ (0x87000005 ∷ 0 ∷ 0 ∷ 2 ∷ 0 ∷ 0 ∷ []) ∷ []) ((27 ∷ 1 ∷ 6 ∷ 0 ∷ 0 ∷ 2 ∷ []) ∷ []) ∷
    stopped 7 ∷
    stopped 8 ∷
    running ((0x85000000 ∷ 0 ∷ 1 ∷ 2 ∷ 0 ∷ 0 ∷ []) ∷ []) ((19 ∷ 2 ∷ 1 ∷ 0 ∷ 0 ∷ 0 ∷ []) ∷ []) ∷
    running ((0x82000007 ∷ 0 ∷ 1 ∷ 2 ∷ 0 ∷ 0 ∷ []) ∷ (0x83000007 ∷ 0 ∷ 0 ∷ 0 ∷ 40 ∷ 0 ∷ []) ∷ (0x85000000 ∷ 0 ∷ 1 ∷ 3 ∷ 0 ∷ 0 ∷ []) ∷ []) ((3 ∷ 2 ∷ 8 ∷ 0 ∷ 0 ∷ 1 ∷ []) ∷ []) ∷
    running ((0x82000007 ∷ 0 ∷ 65535 ∷ 1 ∷ 0 ∷ 0 ∷ []) ∷ (0x82000008 ∷ 0 ∷ 65535 ∷ 0 ∷ 0 ∷ 0 ∷ []) ∷ (0x83000007 ∷ 0 ∷ 0 ∷ 0 ∷ 45 ∷ 8 ∷ []) ∷ []) [] ∷
    stopped 9 ∷
    stopped 8 ∷
    []

met : examples ≡ answers
unfolding examples answers
met = refl
