-- Worked examples of the entry behind the checks of sizes and strings: the order of the numbers, the places, and document 01's words of each outcome.
use Rattle.std.specs.Prelude.{◌≡◌, refl, List, [], ◌∷◌, ℕ}
use Rattle.base_words.specs.Told.{stops, gives, after}
use Rattle.base_words.specs.Refusals.{refused}
use Rattle.tree_expr.specs.Got.{bind}
use Rattle.tree_expr.specs.Reader.{raw_at, test_at, leaf_at, name_at, head_at, float_at, literal_body, literal_at, exprs_at, list_at, body_at, expr_at}
use Rattle.rows_table.specs.Rows.{key, find, rows_of}
use Rattle.rows_kinds.specs.Kinds.{const_row}
use Rattle.fold_values.specs.Value.{value_of, const_rule}
use Rattle.fold_values.specs.Fold.{negate_of, arith_of, op_of, binary_of}
use Rattle.rows_lent.specs.Rules.{scope_ok, type_ok, const_ok, word_ok, words_ok, kind_ok, row_ok}
use Rattle.rows_lent.specs.Lent.{all_zero, ended_at, scan, checked, lent_rows}
use Rattle.fold_const_eval.specs.ConstEval.{literal, const_eval}
use Rattle.entry_const_eval.specs.Outcome.{constant, code, outcome_of}
use Rattle.entry_const_eval.specs.Evaluate.{under_of, read_under, eval_of}

-- a name and a string that is none; a CONST of the name, Integer 7; a CONST that is no name's
abbrev pub marks : List ℕ
marks = 1 ∷ 0 ∷ []

-- the CONST K of the name: Integer 7
abbrev pub rows : List ℕ
rows = const_row 0 24 7 0

-- a CONST that is no name's
abbrev pub bad : List ℕ
bad = const_row 1 24 7 0

-- a word before it, K + 40, a word after it
abbrev pub sum : List ℕ
sum = 77 ∷ 0x14000000 ∷ 0x09000000 ∷ 0x11000000 ∷ 0x02000000 ∷ 0x10000000 ∷ 0x18000000 ∷ 40 ∷ 77 ∷ []

-- K + 32767; NOT K
abbrev pub over : List ℕ
over = 0x14000000 ∷ 0x09000000 ∷ 0x11000000 ∷ 0x02000000 ∷ 0x10000000 ∷ 0x18000000 ∷ 32767 ∷ 0x13000000 ∷ 0x09000001 ∷ 0x11000000 ∷ 0x02000000 ∷ []

-- a value and the place past it; overflow is code 11, what isn't constant 12, and so is K without its row
pub answered :
    (eval_of marks sum 1 rows ≡ gives (record { outcome = constant 24 47 0; end = 8 }))
    × (eval_of marks over 0 rows ≡ gives (record { outcome = code 11; end = 7 }))
    × (eval_of marks over 7 rows ≡ gives (record { outcome = code 12; end = 11 }))
    × (eval_of marks sum 1 [] ≡ gives (record { outcome = code 12; end = 8 }))
unfolding eval_of read_under under_of after expr_at body_at literal_at literal_body head_at leaf_at name_at raw_at test_at float_at list_at exprs_at bind lent_rows checked scan ended_at all_zero key row_ok kind_ok words_ok word_ok const_ok const_rule type_ok scope_ok rows_of find const_eval literal outcome_of value_of negate_of binary_of op_of arith_of
answered = (refl, refl, refl, refl)

-- no expression; a place at the end, and past it; an early end; a bad row, and a wrong word before it
pub stopped :
    (eval_of marks sum 0 rows ≡ stops 2 0)
    × (eval_of marks sum 9 rows ≡ stops 2 9)
    × (eval_of marks sum 30 rows ≡ stops 2 9)
    × (eval_of marks (0x17000000 ∷ []) 0 rows ≡ stops 2 1)
    × (eval_of marks sum 1 bad ≡ stops 6 0)
    × (eval_of marks sum 0 bad ≡ stops 2 0)
unfolding eval_of read_under under_of after refused expr_at body_at literal_at literal_body head_at leaf_at name_at raw_at test_at float_at list_at exprs_at bind lent_rows checked scan ended_at all_zero key row_ok kind_ok words_ok word_ok const_ok const_rule type_ok scope_ok rows_of
stopped = (refl, refl, refl, refl, refl, refl)
