-- Demand 3 is not empty: pairs of accepted programs that a list of steps links, and pairs that none links, each with its resolved words. Assumes nothing.
use Prim.Native.Nat.{ℕ}
use mathlib.Core.Path.{◌≡◌, refl, sym, ap, ◌∙◌}
use mathlib.Core.Bool.{true, false, false≢true}
use borrow.Author.Tests.{eq-eqb}
use mathlib.Core.List.{List, [], ◌∷◌, ◌++◌}
use mathlib.Core.Option.{none as absent, some}
use lib.Dec.{eqb}
use lib.ListN.{get_or}
use Rattle.base_words.specs.Told.{Told, after, unless}
use Rattle.base_strings.specs.Name.{between, inner, suffix, rest, is_name}
use Rattle.base_strings.specs.Order.{order}
use Rattle.base_strings.specs.Table.{start_of, string_at, all_printable, end_right, rises, last_right, right_at, all_below, sound, marks_below, names_of}
use Rattle.base_strings.specs.Open.{entry_of}
use Rattle.tree_expr.specs.Expr.{Expr, Lit, Integer, Var, Elem, Call, Binary, Paren, none as e0, more as e1, many as count, words_l, words, words_all}
use Rattle.tree_expr.specs.Got.{bind}
use Rattle.tree_expr.specs.Reader.{raw_at, test_at, leaf_at, name_at, head_at, float_at, literal_body, literal_at, exprs_at, list_at, body_at, expr_at}
use Rattle.tree_stmt.specs.Sorts.{sorts, kind_at, kinds, number_of, call, function}
use Rattle.tree_stmt.specs.Tree as Trees
use Rattle.tree_stmt.specs.Tree.{Tree, one, row, word, value, Stmt, list, done, cons, none, more, words_t, Program}
use Rattle.tree_stmt.specs.Reader.{word_at, never_at, is_at, stmt_head, rows_at, field_at, row_at, rest_at, stmt_at, program_at}
use Rattle.entry_read.specs.Sized.{sized_strings, sized_tree, sized_program}
use Rattle.entry_read.specs.Program.{whole_of, erased_from, program_of, accepted_of}
use Rattle.tree_views.specs.Build.{rows_in, program, declarator, param, item, typeless, let_s, dim_s, shared_s, sub_s, function_s}
use Rattle.rows_table.specs.Rows.{Row}
use Rattle.rows_lookup.specs.Lookup.{shares, visible, lookup_array}
use Rattle.collect_definition.specs.Examples.{opened_both}
use Rattle.collect_definition.specs.Collect.{collected, analysed}
use Rattle.resolve_definition.specs.Tables.{nowhere, places, after as past, element}
use Rattle.resolve_definition.specs.FromRows.{tables_of}
use Rattle.resolve_definition.specs.Resolve.{passed, called, resolve_expr, resolve_args, first, inside, argued, resolve_tree, resolve_array_accesses}
use Rattle.law_equivalence.specs.Chain.{more as step_on, single}
use Rattle.law_equivalence.specs.Step.{StepE, put, to_call, in_left, in_right, in_call, in_paren, here, there, StepP, Steps, in_value, in_statement, in_list, in_head, in_tail, in_row, past_row}
use Rattle.law_equivalence.specs.Analysis.{Analysis, result_of, analysis, Accepted}
use Rattle.law_equivalence.proofs.Demand3.{demand_3}

-- the strings: 0 A, 1 B, 2 C, 3 F, 4 LOGSCAN, 5 N, 6 P, 7 X; no name is erased
bytes : List ℕ
bytes = 65 ∷ 66 ∷ 67 ∷ 70 ∷ 76 ∷ 79 ∷ 71 ∷ 83 ∷ 67 ∷ 65 ∷ 78 ∷ 78 ∷ 80 ∷ 88 ∷ []

ends : List ℕ
ends = 1 ∷ 2 ∷ 3 ∷ 4 ∷ 11 ∷ 12 ∷ 13 ∷ 14 ∷ []

-- the analysis opened to the ground, for computing
unfoldable answer : List ℕ → Told Analysis
unfolding bytes ends after unless between inner suffix rest is_name order start_of string_at all_printable end_right rises last_right right_at all_below sound marks_below names_of entry_of count words_l words words_all bind raw_at test_at leaf_at name_at head_at float_at literal_body literal_at exprs_at list_at body_at expr_at sorts kind_at kinds number_of Trees.count words_t word_at never_at is_at stmt_head rows_at field_at row_at rest_at stmt_at program_at sized_strings sized_tree sized_program whole_of erased_from program_of accepted_of opened_both collected analysed nowhere places past element tables_of shares visible lookup_array passed called resolve_expr resolve_args first inside argued resolve_tree resolve_array_accesses result_of analysis
answer ws = analysis absent absent 0 bytes ends [] ws

-- p is accepted, with these rows and diagnostics, and resolves to these words
abbrev Gives : Program → (rows notes : List Row) → List ℕ → Type 0
Gives p rows notes ws = Accepted bytes ends [] (words_t p) (record { tree = p; rows = rows; diagnostics = notes; resolved = ws })

-- a list of steps leads from p to q; both have the resolved words ws
abbrev Linked : Program → Program → (rows notes : List Row) → List ℕ → Type 0
Linked p q rows notes ws = Gives p rows notes ws × Gives q rows notes ws × Steps rows p q

-- none does; their resolved words are ws and ws'
abbrev Unlinked : Program → Program → (rows notes : List Row) → (ws ws' : List ℕ) → Type 0
Unlinked p q rows notes ws ws' = Gives p rows notes ws × Gives q rows notes ws' × (Steps rows p q → ⊥)

eqb_same : (n : ℕ) → eqb n n ≡ true
eqb_same n = eq-eqb n n refl

-- by the theorem, since the resolved words differ at the place i
unlinked : (p q : Program) (rows notes : List Row) (ws ws' : List ℕ) (i : ℕ) → Gives p rows notes ws → Gives q rows notes ws' → eqb (get_or ws i 0) (get_or ws' i 0) ≡ false → Unlinked p q rows notes ws ws'
unlinked p q rows notes ws ws' i a b h = (
  a,
  b,
  λ s.
      let e : ws ≡ ws' = (demand_3 bytes ends [] (words_t p) (words_t q) _ _ a b).exactly.1 s in
      false≢true (sym h ∙ ap (λ (l : List ℕ). eqb (get_or ws i 0) (get_or l i 0)) (sym e) ∙ eqb_same (get_or ws i 0)),
)

X : Expr
X = Var 7

N : Expr
N = Var 5

-- ---- parentheses: FUNCTION F(X, BYVAL N) on line 1, X = e on line 2

parens : Expr → Program
unfolding program function_s let_s
parens e = program (function_s 1 3 (param 7 0 0 typeless ∷ param 5 1 0 typeless ∷ []) typeless [] ∷ let_s 2 7 absent e ∷ [])

parens_rows : List Row
parens_rows = (0x87000003 ∷ 0 ∷ 1 ∷ 1 ∷ 0 ∷ 0 ∷ []) ∷ (0x88000003 ∷ 0 ∷ 7 ∷ 0 ∷ 0 ∷ 0 ∷ []) ∷ (0x88000003 ∷ 1 ∷ 5 ∷ 1 ∷ 0 ∷ 0 ∷ []) ∷ []

-- with the words of e
parens_words : List ℕ → List ℕ
parens_words ws = 0x01000002 ∷ 0x55000001 ∷ 0x02000003 ∷ 0x01000002 ∷ 0x02000007 ∷ 0x03000000 ∷ 0x03000000 ∷ 0 ∷ 0x02000005 ∷ 0x03000001 ∷ 0x03000000 ∷ 0 ∷ 0 ∷ 0x01000000 ∷ 0x03000000 ∷ 0x03000000 ∷ 0x42000002 ∷ 0x02000007 ∷ 0 ∷ ws

-- F(a, b, c) + d
sum : (a b c d : Expr) → Expr
sum a b c d = Binary 0 (Call 3 (e1 a (e1 b (e1 c e0)))) d

-- F((N), N, N) + N and its resolved words, the same
with_pair : Program
unfolding parens sum N
with_pair = parens (sum (Paren N) N N N)

with_pair_words : List ℕ
unfolding parens_words
with_pair_words = parens_words (0x14000000 ∷ 0x09000000 ∷ 0x15000000 ∷ 0x02000003 ∷ 0x01000003 ∷ 0x17000000 ∷ 0x11000000 ∷ 0x02000005 ∷ 0x11000000 ∷ 0x02000005 ∷ 0x11000000 ∷ 0x02000005 ∷ 0x11000000 ∷ 0x02000005 ∷ [])

with_pair_given : Gives with_pair parens_rows [] with_pair_words
unfolding answer parens_rows with_pair with_pair_words
with_pair_given = refl

-- a step in the expression of line 2
on_line_2 : (e d : Expr) → StepE (tables_of parens_rows) 0 false e d → StepP parens_rows (parens e) (parens d)
unfolding answer parens
on_line_2 e d s = in_list (past_row (in_row (in_head (in_statement (in_tail (in_tail (in_head (in_value s))))))))

-- around an operand: .. + (N)
operand : Linked with_pair (parens (sum (Paren N) N N (Paren N))) parens_rows [] with_pair_words
unfolding answer with_pair with_pair_words parens_rows
operand = (with_pair_given, refl, single (on_line_2 _ _ (in_right put)))

-- around a BYVAL argument: F((N), (N), N)
byval : Linked with_pair (parens (sum (Paren N) (Paren N) N N)) parens_rows [] with_pair_words
unfolding answer with_pair with_pair_words parens_rows
byval = (with_pair_given, refl, single (on_line_2 _ _ (in_left (in_call (there (here put))))))

-- around an argument past the parameters: F((N), N, (N))
past_parameters : Linked with_pair (parens (sum (Paren N) N (Paren N) N)) parens_rows [] with_pair_words
unfolding answer with_pair with_pair_words parens_rows
past_parameters = (with_pair_given, refl, single (on_line_2 _ _ (in_left (in_call (there (there (here put)))))))

-- inside a by-reference argument's pair: F(((N)), N, N)
inside_pair : Linked with_pair (parens (sum (Paren (Paren N)) N N N)) parens_rows [] with_pair_words
unfolding answer with_pair with_pair_words parens_rows
inside_pair = (with_pair_given, refl, single (on_line_2 _ _ (in_left (in_call (here (in_paren put))))))

-- all of these, as a list of four steps
four_steps : Linked with_pair (parens (sum (Paren (Paren N)) (Paren N) (Paren N) (Paren N))) parens_rows [] with_pair_words
unfolding answer with_pair with_pair_words parens_rows
four_steps = (
  with_pair_given,
  refl,
  step_on (on_line_2 _ _ (in_right put))
      (step_on (on_line_2 _ _ (in_left (in_call (there (here put)))))
      (step_on (on_line_2 _ _ (in_left (in_call (there (there (here put))))))
      (single (on_line_2 _ _ (in_left (in_call (here (in_paren put)))))))),
)

-- directly around a by-reference argument: F(N, N, N), which resolves to itself
by_reference : Unlinked with_pair (parens (sum N N N N)) parens_rows [] with_pair_words (parens_words (0x14000000 ∷ 0x09000000 ∷ 0x15000000 ∷ 0x02000003 ∷ 0x01000003 ∷ 0x11000000 ∷ 0x02000005 ∷ 0x11000000 ∷ 0x02000005 ∷ 0x11000000 ∷ 0x02000005 ∷ 0x11000000 ∷ 0x02000005 ∷ []))
unfolding answer with_pair with_pair_words parens_rows
by_reference = unlinked _ _ _ _ _ _ 24 with_pair_given refl refl

-- ---- arguments of CALL: SUB LOGSCAN(X) on line 1, CALL LOGSCAN e on line 2

calls : Expr → Program
unfolding program sub_s sorts
calls e = program (sub_s 1 4 (param 7 0 0 typeless ∷ []) [] ∷ Stmt call 2 (cons (word 4) (cons (list (more (cons (value e) done) none)) done)) ∷ [])

calls_rows : List Row
calls_rows = (0x87000004 ∷ 0 ∷ 0 ∷ 1 ∷ 0 ∷ 0 ∷ []) ∷ (0x88000004 ∷ 0 ∷ 7 ∷ 0 ∷ 0 ∷ 0 ∷ []) ∷ []

calls_words : List ℕ → List ℕ
calls_words ws = 0x01000002 ∷ 0x54000001 ∷ 0x02000004 ∷ 0x01000001 ∷ 0x02000007 ∷ 0x03000000 ∷ 0x03000000 ∷ 0 ∷ 0x01000000 ∷ 0x03000000 ∷ 0x56000002 ∷ 0x02000004 ∷ 0x01000001 ∷ ws

in_pair_given : Gives (calls (Paren N)) calls_rows [] (calls_words (0x17000000 ∷ 0x11000000 ∷ 0x02000005 ∷ []))
unfolding answer calls N calls_rows calls_words
in_pair_given = refl

-- a step in the argument
on_call : (e d : Expr) → StepE (tables_of calls_rows) 0 true e d → StepP calls_rows (calls e) (calls d)
unfolding answer calls calls_rows
on_call e d s = in_list (past_row (in_row (in_head (in_statement (in_tail (in_head (in_list (in_row (in_head (in_value s))))))))))

-- CALL LOGSCAN (N) and CALL LOGSCAN ((N))
in_call_pair : Linked (calls (Paren N)) (calls (Paren (Paren N))) calls_rows [] (calls_words (0x17000000 ∷ 0x11000000 ∷ 0x02000005 ∷ []))
unfolding answer calls N calls_rows calls_words
in_call_pair = (in_pair_given, refl, single (on_call _ _ (in_paren put)))

-- CALL LOGSCAN (N) and CALL LOGSCAN N
call_argument : Unlinked (calls (Paren N)) (calls N) calls_rows [] (calls_words (0x17000000 ∷ 0x11000000 ∷ 0x02000005 ∷ [])) (calls_words (0x11000000 ∷ 0x02000005 ∷ []))
unfolding answer calls N calls_rows calls_words
call_argument = unlinked _ _ _ _ _ _ 13 in_pair_given refl refl

-- ---- calls and elements: DIM SHARED A(5); DIM B(5), C(5); SUB P with SHARED B() and X = e on line 5; DEF FN F(X) with F = f on line 7

arrays : (e f : Expr) → Program
unfolding program dim_s sub_s shared_s let_s declarator rows_in sorts
arrays e f =
    program
    (dim_s 1 (declarator 0 (some (Lit (Integer 5) ∷ [])) typeless ∷ []) 1
    ∷ dim_s 2 (declarator 1 (some (Lit (Integer 5) ∷ [])) typeless ∷ declarator 2 (some (Lit (Integer 5) ∷ [])) typeless ∷ []) 0
    ∷ sub_s 3 6 [] (shared_s 4 (item 1 1 typeless ∷ []) ∷ let_s 5 7 absent e ∷ [])
    ∷ Stmt function 6 (cons (word 3) (cons (list (rows_in (param 7 0 0 typeless ∷ []))) (cons typeless (cons (program (let_s 7 3 absent f ∷ [])) (cons (word 0) (cons (word 1) done))))))
    ∷ [])

arrays_rows : List Row
arrays_rows =
    (0x85000000 ∷ 0 ∷ 1 ∷ 1 ∷ 0 ∷ 0 ∷ []) ∷
    (0x85000001 ∷ 0 ∷ 1 ∷ 2 ∷ 0 ∷ 0 ∷ []) ∷
    (0x85000002 ∷ 0 ∷ 1 ∷ 2 ∷ 0 ∷ 0 ∷ []) ∷
    (0x87000003 ∷ 0 ∷ 1 ∷ 6 ∷ 0 ∷ 0 ∷ []) ∷
    (0x87000006 ∷ 0 ∷ 0 ∷ 3 ∷ 0 ∷ 0 ∷ []) ∷
    (0x88000003 ∷ 0 ∷ 7 ∷ 0 ∷ 0 ∷ 0 ∷ []) ∷
    (0x89000000 ∷ 1 ∷ 0 ∷ 0 ∷ 0 ∷ 0 ∷ []) ∷
    (0x8a000001 ∷ 7 ∷ 2 ∷ 0 ∷ 0 ∷ 0 ∷ []) ∷
    (0x8d000003 ∷ 0 ∷ 0 ∷ 0 ∷ 0 ∷ 0 ∷ []) ∷
    []

arrays_words : (es fs : List ℕ) → List ℕ
arrays_words es fs =
    0x01000004 ∷ 0x4f000001 ∷ 0x01000001 ∷ 0x02000000 ∷ 0x01000001 ∷ 0x10000000 ∷ 0x18000000 ∷ 5 ∷ 0x01000000 ∷ 0 ∷ 0x03000001 ∷ 0x4f000002 ∷ 0x01000002 ∷ 0x02000001 ∷ 0x01000001 ∷ 0x10000000 ∷ 0x18000000 ∷ 5 ∷ 0x01000000 ∷ 0 ∷ 0x02000002 ∷ 0x01000001 ∷ 0x10000000 ∷ 0x18000000 ∷ 5 ∷ 0x01000000 ∷ 0 ∷ 0x03000000 ∷ 0x54000003 ∷ 0x02000006 ∷ 0x01000000 ∷ 0x01000002 ∷ 0x51000004 ∷ 0x01000001 ∷ 0x02000001 ∷ 0x03000001 ∷ 0 ∷ 0x42000005 ∷ 0x02000007 ∷ 0 ∷ es
    ++ (0x03000000 ∷ 0x55000006 ∷ 0x02000003 ∷ 0x01000001 ∷ 0x02000007 ∷ 0x03000000 ∷ 0x03000000 ∷ 0 ∷ 0 ∷ 0x01000001 ∷ 0x42000007 ∷ 0x02000003 ∷ 0 ∷ fs
    ++ (0x03000000 ∷ 0x03000001 ∷ []))

-- A(1) and the like, as a call and as an element
called_1 : ℕ → Expr
called_1 x = Call x (e1 (Lit (Integer 1)) e0)

element_1 : ℕ → Expr
element_1 x = Elem x (e1 (Lit (Integer 1)) e0)

-- X = A(1) + B(1) and F = C(1), all elements
elements : Program
unfolding arrays element_1
elements = arrays (Binary 0 (element_1 0) (element_1 1)) (element_1 2)

elements_words : List ℕ
unfolding arrays_words
elements_words = arrays_words (0x14000000 ∷ 0x09000000 ∷ 0x12000000 ∷ 0x02000000 ∷ 0x01000001 ∷ 0x10000000 ∷ 0x18000000 ∷ 1 ∷ 0x12000000 ∷ 0x02000001 ∷ 0x01000001 ∷ 0x10000000 ∷ 0x18000000 ∷ 1 ∷ []) (0x12000000 ∷ 0x02000002 ∷ 0x01000001 ∷ 0x10000000 ∷ 0x18000000 ∷ 1 ∷ [])

elements_given : Gives elements arrays_rows [] elements_words
unfolding answer elements arrays_rows elements_words
elements_given = refl

-- a step in the expression of line 5, in the scope of P, and of line 7, in that of F
on_line_5 : (e d f : Expr) → StepE (tables_of arrays_rows) 7 false e d → StepP arrays_rows (arrays e f) (arrays d f)
unfolding answer arrays
on_line_5 e d f s = in_list (past_row (past_row (in_row (in_head (in_statement (in_tail (in_tail (in_head (in_list (past_row (in_row (in_head (in_statement (in_tail (in_tail (in_head (in_value s)))))))))))))))))

on_line_7 : (e f g : Expr) → StepE (tables_of arrays_rows) 4 false f g → StepP arrays_rows (arrays e f) (arrays e g)
unfolding answer arrays
on_line_7 e f g s = in_list (past_row (past_row (past_row (in_row (in_head (in_statement (in_tail (in_tail (in_tail (in_head (in_list (in_row (in_head (in_statement (in_tail (in_tail (in_head (in_value s))))))))))))))))))

-- A, seen from P by DIM SHARED
by_dim_shared : Linked elements (arrays (Binary 0 (called_1 0) (element_1 1)) (element_1 2)) arrays_rows [] elements_words
unfolding answer elements called_1 arrays_rows elements_words
by_dim_shared = (elements_given, refl, single (on_line_5 _ _ _ (in_left (to_call refl))))

-- B, seen from P by SHARED
by_shared : Linked elements (arrays (Binary 0 (element_1 0) (called_1 1)) (element_1 2)) arrays_rows [] elements_words
unfolding answer elements called_1 arrays_rows elements_words
by_shared = (elements_given, refl, single (on_line_5 _ _ _ (in_right (to_call refl))))

-- C, seen from F, which is a DEF FN
by_def_fn : Linked elements (arrays (Binary 0 (element_1 0) (element_1 1)) (called_1 2)) arrays_rows [] elements_words
unfolding answer elements called_1 arrays_rows elements_words
by_def_fn = (elements_given, refl, single (on_line_7 _ _ _ (to_call refl)))

-- C from P, which doesn't share it: the call stays a call
not_shared : Unlinked (arrays (called_1 2) (element_1 2)) (arrays (element_1 2) (element_1 2)) arrays_rows [] (arrays_words (0x15000000 ∷ 0x02000002 ∷ 0x01000001 ∷ 0x10000000 ∷ 0x18000000 ∷ 1 ∷ []) (0x12000000 ∷ 0x02000002 ∷ 0x01000001 ∷ 0x10000000 ∷ 0x18000000 ∷ 1 ∷ [])) (arrays_words (0x12000000 ∷ 0x02000002 ∷ 0x01000001 ∷ 0x10000000 ∷ 0x18000000 ∷ 1 ∷ []) (0x12000000 ∷ 0x02000002 ∷ 0x01000001 ∷ 0x10000000 ∷ 0x18000000 ∷ 1 ∷ []))
unfolding answer arrays element_1 called_1 arrays_rows arrays_words
not_shared = unlinked _ _ _ _ _ _ 40 refl refl refl

-- ---- an array that is a procedure too: DIM F(5), FUNCTION F(X), X = e on line 3; the collision is diagnosed

both : Expr → Program
unfolding program dim_s function_s let_s declarator
both e = program (dim_s 1 (declarator 3 (some (Lit (Integer 5) ∷ [])) typeless ∷ []) 0 ∷ function_s 2 3 (param 7 0 0 typeless ∷ []) typeless [] ∷ let_s 3 7 absent e ∷ [])

both_rows : List Row
both_rows = (0x85000003 ∷ 0 ∷ 1 ∷ 1 ∷ 0 ∷ 0 ∷ []) ∷ (0x87000003 ∷ 0 ∷ 1 ∷ 2 ∷ 0 ∷ 0 ∷ []) ∷ (0x88000003 ∷ 0 ∷ 7 ∷ 0 ∷ 0 ∷ 0 ∷ []) ∷ []

both_words : List ℕ → List ℕ
both_words ws = 0x01000003 ∷ 0x4f000001 ∷ 0x01000001 ∷ 0x02000003 ∷ 0x01000001 ∷ 0x10000000 ∷ 0x18000000 ∷ 5 ∷ 0x01000000 ∷ 0 ∷ 0x03000000 ∷ 0x55000002 ∷ 0x02000003 ∷ 0x01000001 ∷ 0x02000007 ∷ 0x03000000 ∷ 0x03000000 ∷ 0 ∷ 0 ∷ 0x01000000 ∷ 0x03000000 ∷ 0x03000000 ∷ 0x42000003 ∷ 0x02000007 ∷ 0 ∷ ws

-- F(1) as a call and as an element, each of which stays what it is
array_and_procedure : Unlinked (both (called_1 3)) (both (element_1 3)) both_rows ((27 ∷ 1 ∷ 4 ∷ 0 ∷ 1 ∷ 2 ∷ []) ∷ []) (both_words (0x15000000 ∷ 0x02000003 ∷ 0x01000001 ∷ 0x10000000 ∷ 0x18000000 ∷ 1 ∷ [])) (both_words (0x12000000 ∷ 0x02000003 ∷ 0x01000001 ∷ 0x10000000 ∷ 0x18000000 ∷ 1 ∷ []))
unfolding answer both element_1 called_1 both_rows both_words
array_and_procedure = unlinked _ _ _ _ _ _ 25 refl refl refl

-- ---- erased names are heard: DIM A(5) on lines 1 and 2 gives nothing where A is erased, else 19

dim_twice : Program
unfolding program dim_s declarator
dim_twice = program (dim_s 1 (declarator 0 (some (Lit (Integer 5) ∷ [])) typeless ∷ []) 0 ∷ dim_s 2 (declarator 0 (some (Lit (Integer 5) ∷ [])) typeless ∷ []) 0 ∷ [])

dim_twice_given : List Row → Analysis
unfolding dim_twice answer
dim_twice_given notes = record { tree = dim_twice; rows = (0x85000000 ∷ 0 ∷ 1 ∷ 2 ∷ 0 ∷ 0 ∷ []) ∷ []; diagnostics = notes; resolved = words_t dim_twice }

erased_heard : Accepted bytes ends (0 ∷ []) (words_t dim_twice) (dim_twice_given []) × Accepted bytes ends [] (words_t dim_twice) (dim_twice_given ((19 ∷ 2 ∷ 1 ∷ 0 ∷ 0 ∷ 0 ∷ []) ∷ []))
unfolding answer dim_twice dim_twice_given
erased_heard = (refl, refl)
