-- Worked examples: what is said of an OPTION BASE, and where the arrays stand among rows.
use Rattle.std.specs.Prelude.{◌≡◌, refl, true, false, List, [], ◌∷◌}
use Rattle.rows_table.specs.Rows.{Row, key, rank}
use Rattle.rows_kinds.specs.Kinds.{const_row, array_row, typed_var_row}
use Rattle.collect_buffers.specs.State.{running, stopped, fits, push}
use Rattle.collect_definition.specs.Collect.{any_array}
use Rattle.collect_labels_const.specs.Labels.{say_base}
use Rattle.collect_labels_const.specs.Arrays.{arrays_from, arrays_to}

-- a second one is 8, though arrays were before it; without room for that the number is 8 as well
pub base :
    (say_base true true 3 0 6 (running [] []) ≡ running [] ((8 ∷ 3 ∷ 0 ∷ 0 ∷ 0 ∷ 0 ∷ []) ∷ []))
    × (say_base false true 3 0 6 (running [] []) ≡ running [] ((9 ∷ 3 ∷ 0 ∷ 0 ∷ 0 ∷ 0 ∷ []) ∷ []))
    × (say_base false false 3 0 6 (running [] []) ≡ running [] [])
    × (say_base true false 3 0 5 (running [] []) ≡ stopped 8)
unfolding say_base push fits
base = (refl, refl, refl, refl)

-- the last name's array in the last scope, and the first typed variable
abbrev pub rows : List Row
rows = const_row 5 24 1 0 ∷ array_row 0 0 1 4 false ∷ array_row 16777215 0xffffffff 2 5 true ∷ typed_var_row 0 0 40 0 ∷ []

-- the arrays stand from place 1 to below 3; among rows without arrays there is none
pub places : (rank arrays_from rows ≡ 1) × (rank arrays_to rows ≡ 3) × (any_array rows ≡ true) × (any_array (const_row 5 24 1 0 ∷ typed_var_row 0 0 40 0 ∷ []) ≡ false)
unfolding rank key any_array
places = (refl, refl, refl, refl)
