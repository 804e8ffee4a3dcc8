-- Worked examples of the check behind the checks of sizes and strings: a procedure before a builtin, row order, the numbers 6 and 8, and what is left.
use Rattle.std.specs.Prelude.{◌≡◌, refl, true, false, List, [], ◌∷◌, ◌++◌, ℕ, replicate}
use Rattle.base_words.specs.Word.{flatten}
use Rattle.base_words.specs.Told.{stops, gives, after}
use Rattle.base_words.specs.Refusals.{refused}
use Rattle.base_text.specs.Text.{ascii}
use Rattle.base_strings.specs.Name.{between, inner, suffix, rest, is_name}
use Rattle.base_strings.specs.Table.{start_of, string_at, marks_below, names_of}
use Rattle.rows_table.specs.Rows.{Row, key, find, image, rows_of}
use Rattle.rows_kinds.specs.Kinds.{array_row, proc_row}
use Rattle.base_builtins.specs.Builtins.{takes, builtins, same, entry_of, builtin, is_builtin}
use Rattle.rows_lent.specs.Rules.{scope_ok, type_ok, const_ok, word_ok, words_ok, kind_ok, row_ok}
use Rattle.rows_lent.specs.Lent.{all_zero, ended_at, scan, checked, lent_rows}
use Rattle.collect_buffers.specs.State.{fits, asking, each, push}
use Rattle.collect_definition.specs.Collect.{collides, collision, check_name_collisions}
use Rattle.entry_collisions.specs.Entry.{end_of, said_of, checked_of, counted, left_of}

-- 0 A, 1 LEN, 2 S
abbrev pub bytes : List ℕ
bytes = 65 ∷ 76 ∷ 69 ∷ 78 ∷ 83 ∷ []

-- their ends
abbrev pub ends : List ℕ
ends = 1 ∷ 4 ∷ 5 ∷ []

-- arrays A, LEN in the module and in S, S; SUB LEN or FUNCTION S
abbrev pub arrays : List Row
arrays = array_row 0 0 1 3 false ∷ array_row 1 0 1 4 false ∷ array_row 1 3 1 5 false ∷ array_row 2 0 1 6 false ∷ []

-- in row order; 27 alone where both a procedure and a builtin have the name; 8 where a diagnostic has no room; A collides with none
pub said :
    (said_of bytes ends [] 24 (arrays ++ (proc_row 2 true 7 40 0 ∷ [])) ≡ gives ((28 ∷ 4 ∷ 2 ∷ 0 ∷ 0 ∷ 0 ∷ []) ∷ (28 ∷ 5 ∷ 2 ∷ 0 ∷ 0 ∷ 0 ∷ []) ∷ (27 ∷ 6 ∷ 3 ∷ 0 ∷ 1 ∷ 7 ∷ []) ∷ []))
    × (said_of bytes ends [] 24 (array_row 1 0 1 4 false ∷ proc_row 1 false 7 0 0 ∷ []) ≡ gives ((27 ∷ 4 ∷ 2 ∷ 0 ∷ 0 ∷ 7 ∷ []) ∷ []))
    × (said_of bytes ends [] 17 arrays ≡ gives ((28 ∷ 4 ∷ 2 ∷ 0 ∷ 0 ∷ 0 ∷ []) ∷ (28 ∷ 5 ∷ 2 ∷ 0 ∷ 0 ∷ 0 ∷ []) ∷ []))
    × (said_of bytes ends [] 11 arrays ≡ stops 8 0)
    × (said_of bytes ends [] 0 (array_row 0 0 1 3 false ∷ []) ≡ gives [])
unfolding said_of end_of check_name_collisions collision collides asking each push fits find key string_at start_of is_builtin builtin entry_of same builtins takes ascii
said = (refl, refl, refl, refl, refl)

-- 6: an array whose number is no name's; words that are no row
pub lent : (checked_of bytes ends (array_row 3 0 1 3 false) 6 ≡ stops 6 0) × (checked_of bytes ends (7 ∷ []) 6 ≡ stops 6 0) × (counted (checked_of bytes ends (array_row 1 0 1 3 false) 6) ≡ gives 1)
unfolding checked_of said_of end_of counted after refused lent_rows checked scan ended_at all_zero row_ok kind_ok words_ok word_ok scope_ok type_ok const_ok rows_of names_of marks_below is_name inner rest between suffix check_name_collisions collision collides asking each push fits find key string_at start_of is_builtin builtin entry_of same builtins takes ascii
lent = (refl, refl, refl)

-- what is left of seven words that held 9s
pub left :
    (left_of (replicate 7 9) (gives ((28 ∷ 4 ∷ 2 ∷ 0 ∷ 0 ∷ 0 ∷ []) ∷ [])) ≡ 28 ∷ 4 ∷ 2 ∷ 0 ∷ 0 ∷ 0 ∷ 0 ∷ [])
    × (left_of (replicate 7 9) (gives []) ≡ replicate 7 0)
    × (left_of (replicate 7 9) (stops 8 0) ≡ replicate 7 0)
    × (left_of (replicate 7 9) (stops 6 0) ≡ replicate 7 9)
unfolding left_of image flatten
left = (refl, refl, refl, refl)
