-- The rule of a lent table at its bounds, by computation: what document 01 names just inside and just outside. Three strings, of which the first and the
-- last are names.
use Rattle.std.specs.Prelude.{◌≡◌, refl, Bool, true, false, not, List, [], ◌∷◌, ◌++◌, ℕ, ◌+◌, ◌*◌, None, Some}
use Rattle.base_words.specs.Word.{pick, flatten}
use Rattle.rows_table.specs.Rows.{Row, width, key, zeros}
use Rattle.rows_kinds.specs.Kinds.{row, line_row, label_row, type_row, field_row, const_row, array_row, typed_var_row, proc_row, param_row, dim_shared_row, shared_row, static_row, static_proc_row, def_fn_row, unranked_row, option_base_row}
use Rattle.fold_values.specs.Value.{const_rule}
use Rattle.rows_lent.specs.Rules.{scope_ok, type_ok, const_ok, word_ok, words_ok, kind_ok, row_ok}
use Rattle.rows_lent.specs.Lent.{all_zero, ended_at, scan, checked}

-- the marks of the three strings
pub names : List ℕ
names = 1 ∷ 0 ∷ 1 ∷ []

-- a test holds of each row
pub all : (Row → Bool) → List Row → Bool
all p [] = true
all p (r ∷ rs) = pick (p r) (all p rs) false

-- each is in order
pub inside : List Row
inside =
    line_row 0 0 ∷
    line_row 16777215 3 ∷
    label_row 2 1 ∷
    type_row 0 65535 16777215 ∷
    field_row 0 16777215 2 65535 45 2 ∷
    field_row 0 0 0 0 44 16777215 ∷
    field_row 2 1 0 0 40 0 ∷
    const_row 0 24 0x80000000 0 ∷
    const_row 0 25 0x80000000 0xffffffff ∷
    const_row 0 26 0xffffffff 0xffefffff ∷
    const_row 0 27 1 0x7fefffff ∷
    const_row 0 28 1 0 ∷
    array_row 2 1 16777215 16777215 true ∷
    typed_var_row 2 0 43 0 ∷
    proc_row 2 true 16777215 0 0 ∷
    proc_row 2 false 0 45 0 ∷
    param_row 2 16777215 0 true true 0 0 ∷
    dim_shared_row 2 true ∷
    shared_row 2 3 1 ∷
    static_row 2 0 3 ∷
    static_proc_row 0 ∷
    def_fn_row 2 ∷
    unranked_row 2 3 ∷
    option_base_row 16777215 ∷ []

-- none is
pub outside : List Row
outside =
    row 127 0 [] ∷
    row 144 0 [] ∷
    row 128 0 (1 ∷ []) ∷
    line_row 0 4 ∷
    label_row 1 0 ∷
    label_row 3 0 ∷
    label_row 0 2 ∷
    type_row 0 65536 0 ∷
    type_row 0 0 16777216 ∷
    row 130 0 (0 ∷ 0 ∷ 0 ∷ 1 ∷ []) ∷
    field_row 0 16777216 0 0 40 0 ∷
    field_row 0 0 1 0 40 0 ∷
    field_row 0 0 0 65536 40 0 ∷
    field_row 0 0 0 0 0 0 ∷
    field_row 0 0 0 0 39 0 ∷
    field_row 0 0 0 0 46 0 ∷
    field_row 0 0 0 0 41 1 ∷
    field_row 0 0 0 0 44 16777216 ∷
    field_row 0 0 0 0 45 1 ∷
    const_row 0 23 0 0 ∷
    const_row 0 24 0x80000001 0 ∷
    const_row 0 25 0x7fffffff 0xffffffff ∷
    const_row 0 25 0 1 ∷
    const_row 0 26 0 0x7ff00000 ∷
    const_row 0 27 0 0xfff00000 ∷
    const_row 0 28 3 0 ∷
    const_row 0 28 0 1 ∷
    const_row 0 29 0 0 ∷
    row 132 0 (1 ∷ 24 ∷ []) ∷
    row 132 0 (0 ∷ 24 ∷ 0 ∷ 0 ∷ 1 ∷ []) ∷
    array_row 2 0 16777216 0 false ∷
    array_row 2 0 0 16777216 false ∷
    row 133 2 (0 ∷ 0 ∷ 0 ∷ 2 ∷ []) ∷
    typed_var_row 2 0 0 0 ∷
    row 135 2 (1 ∷ []) ∷
    row 135 2 (0 ∷ 2 ∷ []) ∷
    proc_row 2 true 0 0 1 ∷
    row 136 2 (0 ∷ 0 ∷ 4 ∷ []) ∷
    row 137 2 (2 ∷ []) ∷
    shared_row 2 3 0 ∷
    static_row 2 3 4 ∷
    row 140 2 (1 ∷ []) ∷
    row 141 2 (0 ∷ 1 ∷ []) ∷
    row 142 2 (0 ∷ 1 ∷ []) ∷
    row 143 1 [] ∷
    option_base_row 16777216 ∷ []

-- the test of one row says so
pub bounds : (all (row_ok names) inside ≡ true) × (all (λ (r : Row). not (row_ok names r)) outside ≡ true)
unfolding names all inside outside row_ok kind_ok words_ok word_ok const_ok const_rule type_ok scope_ok
bounds = (refl, refl)

-- a field and a parameter without their heads, with gaps, pass: no row is tested against another's meaning
pub gaps : List Row
gaps = field_row 0 7 2 0 45 2 ∷ param_row 2 3 0 false false 0 0 ∷ []

-- zeros behind the rows, also too few for one more; a key twice; a row behind a zero row; a tail that is not zero
pub tables :
    (checked names (flatten gaps ++ zeros (width + 2)) ≡ Some 2)
    × (checked names (zeros (2 * width)) ≡ Some 0)
    × (checked names [] ≡ Some 0)
    × (checked names (flatten (label_row 2 0 ∷ label_row 2 1 ∷ [])) ≡ None)
    × (checked names (flatten (label_row 2 0 ∷ label_row 0 0 ∷ [])) ≡ None)
    × (checked names (zeros width ++ label_row 2 0) ≡ None)
    × (checked names (label_row 2 0 ++ (0 ∷ 1 ∷ [])) ≡ None)
unfolding names gaps checked scan ended_at all_zero flatten key row_ok kind_ok words_ok word_ok const_ok const_rule type_ok scope_ok
tables = (refl, refl, refl, refl, refl, refl, refl)
