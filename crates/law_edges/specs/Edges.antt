-- Document 01's starred edges, and those that a reader would ask for beside them, as rows of one table: tree words, and what they must give. The
-- checker reads the words, and folds them by the definition of the entry `const_eval` or resolves them by that of `resolve_expr`.
use Rattle.std.specs.Prelude.{◌≡◌, refl, List, [], ◌∷◌, ◌++◌, ℕ, length, true, false}
use Rattle.std.specs.Float.Ieee.{of_bits, to_bits, of_int, add as add_f, sub as sub_f, mul as mul_f, div as div_f, neg, eq, round}
use Rattle.base_words.specs.Told.{Told, gives, after, unless}
use Rattle.tree_expr.specs.Expr.{many, words as words_e, words_l, words_all}
use Rattle.tree_expr.specs.Got.{bind}
use Rattle.tree_expr.specs.Reader.{raw_at, test_at, leaf_at, name_at, head_at, float_at, literal_body, literal_at, exprs_at, list_at, body_at, expr_at}
use Rattle.rows_table.specs.Rows.{key, find, rows_of}
use Rattle.rows_kinds.specs.Kinds.{const_row, array_row, proc_row, param_row}
use Rattle.rows_lookup.specs.Lookup.{visible, lookup_array}
use Rattle.resolve_definition.specs.Tables.{nowhere, places, after as past, element as is_element}
use Rattle.resolve_definition.specs.FromRows.{tables_of}
use Rattle.resolve_definition.specs.Resolve.{passed, called, resolve_expr, resolve_args}
use Rattle.base_numbers.specs.Numbers.{whole_of, narrowed}
use Rattle.fold_values.specs.Value.{value_of, const_rule}
use Rattle.fold_values.specs.Fold.{negate_of, div_of, whole_div_of, arith_of, op_of, binary_of}
use Rattle.rows_lent.specs.Rules.{scope_ok, type_ok, const_ok, word_ok, words_ok, kind_ok, row_ok}
use Rattle.rows_lent.specs.Lent.{all_zero, ended_at, scan, checked, lent_rows}
use Rattle.fold_const_eval.specs.ConstEval.{literal, const_eval}
use Rattle.entry_const_eval.specs.Outcome.{Outcome, constant, code, outcome_of}
use Rattle.entry_const_eval.specs.Evaluate.{Past, under_of, read_under, eval_of}
use Rattle.entry_resolve.specs.Entries.{Written, taken_of, ruling, rewritten, resolve_expr_at}
use Rattle.law_edges.specs.Written.{integer, long, single, float, text, name, element, call, paren, minus, not, add, sub, mul, div, whole, modulo, power, equals}

-- six strings, all names: K is a CONST of the lent table, a Long that no fold gives; U is unknown; A and P are arrays; F and P are procedures, and F's one
-- parameter is by reference, neither array nor record; X is its argument
abbrev pub marks : List ℕ
marks = 1 ∷ 1 ∷ 1 ∷ 1 ∷ 1 ∷ 1 ∷ []

-- the number of the CONST
abbrev pub K : ℕ
K = 0

-- of the unknown name
abbrev pub U : ℕ
U = 1

-- of the array
abbrev pub A : ℕ
A = 2

-- of the procedure
abbrev pub F : ℕ
F = 3

-- of the array that is a procedure too
abbrev pub P : ℕ
P = 4

-- of the parameter
abbrev pub X : ℕ
X = 5

-- the lent rows that say so
abbrev pub lent : List ℕ
lent = const_row K 25 0x80000000 0 ++ (array_row A 0 1 1 false ++ (array_row P 0 1 1 false ++ (proc_row F true 1 0 0 ++ (proc_row P true 2 0 0 ++ param_row F 0 X false false 0 0))))

-- a row: the words of an expression, and what they fold to, or what they resolve to in the module's scope
pub data Edge : Type 0 where
  folds : (words : List ℕ) → Outcome → Edge
  resolves : (words resolved : List ℕ) → Edge

-- what either entry gives
pub data Result : Type 0 where
  folded : Past → Result
  wrote : Written → Result

-- what the definition gives
abbrev pub computed : Edge → Told Result
computed (folds words o) = after (eval_of marks words 0 lent) (λ p. gives (folded p))
computed (resolves words w) = after (resolve_expr_at marks words lent (length words) 0 0) (λ r. gives (wrote r))

-- what it must give: the outcome or the words, and the place past all words
abbrev pub wanted : Edge → Told Result
wanted (folds words o) = gives (folded (record { outcome = o; end = length words }))
wanted (resolves words w) = gives (wrote (record { words' = w; end = length words }))

-- document 01's
abbrev pub starred : List Edge
starred =
    -- 30000 + 2767; 30000 + 2768
    folds (add (integer 30000) (integer 2767)) (constant 24 32767 0) ∷
    folds (add (integer 30000) (integer 2768)) (code 11) ∷
    -- -(Integer -32768); -(Long -2147483648)
    folds (minus (integer 0xffff8000)) (constant 24 32768 0) ∷
    folds (minus (long 0x80000000)) (code 11) ∷
    -- 7 \ 0.5; 7 \ 1.5
    folds (whole (integer 7) (float 0x3fe00000 0)) (code 12) ∷
    folds (whole (integer 7) (float 0x3ff80000 0)) (constant 25 3 0) ∷
    -- 2147483647.5 \ 1; -2147483648.5 \ 1
    folds (whole (float 0x41dfffff 0xffe00000) (integer 1)) (code 11) ∷
    folds (whole (minus (float 0x41e00000 0x00100000)) (integer 1)) (constant 25 0x80000000 0xffffffff) ∷
    -- -2147483648 \ -1; -2147483648 MOD -1
    folds (whole (long 0x80000000) (minus (integer 1))) (code 11) ∷
    folds (modulo (long 0x80000000) (minus (integer 1))) (constant 25 0 0) ∷
    -- NOT (30000 + 30000); 1 = (30000 + 30000)
    folds (not (add (integer 30000) (integer 30000))) (code 12) ∷
    folds (equals (integer 1) (add (integer 30000) (integer 30000))) (code 11) ∷
    -- by-reference F(((X)))
    resolves (call F 1 (paren (paren (name X)))) (call F 1 (paren (name X))) ∷ []

-- the others
abbrev pub asked : List Edge
asked =
    -- Long 16777217 + Single 1: added in 64 bits, then narrowed
    folds (add (long 16777217) (single 0x3ff00000 0)) (constant 26 0x20000000 0x41700000) ∷
    -- 1 / 3; 0.1 + 0.2
    folds (div (integer 1) (integer 3)) (constant 27 0x55555555 0x3fd55555) ∷
    folds (add (float 0x3fb99999 0x9999999a) (float 0x3fc99999 0x9999999a)) (constant 27 0x33333334 0x3fd33333) ∷
    -- the smallest subnormals halved: a Float, a Single
    folds (div (float 0 1) (integer 2)) (constant 27 0 0) ∷
    folds (mul (single 0x36a00000 0) (single 0x3fe00000 0)) (constant 26 0 0) ∷
    -- the largest doubled: a Float, a Single
    folds (mul (float 0x7fefffff 0xffffffff) (integer 2)) (code 11) ∷
    folds (mul (single 0x47efffff 0xe0000000) (integer 2)) (code 11) ∷
    -- -0.0; it divides as zero does
    folds (minus (float 0 0)) (constant 27 0 0x80000000) ∷
    folds (div (integer 1) (minus (float 0 0))) (code 12) ∷
    -- 3E9 \ 0: out of range before the zero divisor is seen
    folds (whole (float 0x41e65a0b 0xc0000000) (integer 0)) (code 11) ∷
    -- -2147483648 as a source writes it: a Float negated
    folds (whole (minus (float 0x41e00000 0)) (minus (integer 1))) (code 11) ∷
    -- -7 MOD 2 has the left side's sign
    folds (modulo (minus (integer 7)) (integer 2)) (constant 25 0xffffffff 0xffffffff) ∷
    -- the first failure decides: U + (30000 + 30000), and turned round
    folds (add (name U) (add (integer 30000) (integer 30000))) (code 12) ∷
    folds (add (add (integer 30000) (integer 30000)) (name U)) (code 11) ∷
    -- a string fails after both sides: "" + (30000 + 30000), and "" + 1
    folds (add (text 0) (add (integer 30000) (integer 30000))) (code 11) ∷
    folds (add (text 0) (integer 1)) (code 12) ∷
    -- power folds both sides
    folds (power (integer 2) (add (integer 30000) (integer 30000))) (code 11) ∷
    folds (power (integer 2) (integer 3)) (code 12) ∷
    -- nothing in an element is folded; parentheses change nothing
    folds (element U (add (integer 30000) (integer 30000))) (code 12) ∷
    folds (paren (not (paren (add (integer 30000) (integer 30000))))) (code 12) ∷
    -- Integer kind outside 16 bits counts as Long: 40000 + 1; -(Integer -2147483648), and less 1
    folds (add (integer 40000) (integer 1)) (constant 25 40001 0) ∷
    folds (minus (integer 0x80000000)) (constant 24 0x80000000 0) ∷
    folds (sub (minus (integer 0x80000000)) (integer 1)) (constant 25 0x7fffffff 0) ∷
    -- a Single that 32 bits can't hold stands for itself
    folds (single 0x3fb99999 0x9999999a) (constant 26 0x9999999a 0x3fb99999) ∷
    -- K, a lent Long of 2147483648: itself, negated, and less 1
    folds (name K) (constant 25 0x80000000 0) ∷
    folds (minus (name K)) (constant 25 0x80000000 0xffffffff) ∷
    folds (sub (name K) (integer 1)) (constant 25 0x7fffffff 0) ∷
    -- F((X), (X)): past its parameters F keeps no pair; (F(X)): nor does what is no argument
    resolves (call F 2 (paren (name X) ++ paren (name X))) (call F 2 (paren (name X) ++ name X)) ∷
    resolves (paren (call F 1 (name X))) (call F 1 (name X)) ∷
    -- A((X)) is an element; P, an array and a procedure, stays a call; an element stays one
    resolves (call A 1 (paren (name X))) (element A (name X)) ∷
    resolves (call P 1 (paren (name X))) (call P 1 (name X)) ∷
    resolves (element F (paren (name X))) (element F (name X)) ∷ []

-- one table
abbrev pub edges : List Edge
edges = starred ++ asked

-- a function of each edge
abbrev pub each : (Edge → Told Result) → List Edge → List (Told Result)
each f [] = []
each f (e ∷ es) = f e ∷ each f es

-- THE TABLE HOLDS
pub edges_hold : each computed edges ≡ each wanted edges
unfolding eval_of read_under under_of resolve_expr_at taken_of ruling rewritten unless words_e words_l words_all many tables_of nowhere places past is_element visible lookup_array passed called resolve_expr resolve_args after expr_at body_at literal_at literal_body head_at leaf_at name_at raw_at test_at float_at list_at exprs_at bind lent_rows checked scan ended_at all_zero key row_ok kind_ok words_ok word_ok const_ok const_rule type_ok scope_ok rows_of find const_eval literal outcome_of value_of negate_of binary_of op_of arith_of div_of whole_div_of whole_of narrowed of_bits to_bits of_int add_f sub_f mul_f div_f neg eq round
edges_hold = refl

-- the notation once, in document 01's words: 30000 + 2767
pub as_written : add (integer 30000) (integer 2767) ≡ 0x14000000 ∷ 0x09000000 ∷ 0x10000000 ∷ 0x18000000 ∷ 30000 ∷ 0x10000000 ∷ 0x18000000 ∷ 2767 ∷ []
as_written = refl
