-- Worked examples: marks add up, and an item's rows of each kind.
use Rattle.std.specs.Prelude.{◌≡◌, refl, Bool, true, false, [], ◌∷◌, ℕ}
use Rattle.std.proofs.Math.Option.{none, some}
use Rattle.rows_table.specs.Rows.{key, find, insert}
use Rattle.rows_kinds.specs.Kinds.{typed_var_row, shared_row, static_row}
use Rattle.tree_views.specs.View.{Integer, ScopeItem}
use Rattle.collect_buffers.specs.State.{running, fits, asking, change, enter}
use Rattle.collect_definition.specs.Collect.{Given, marked, typed, item_type}
use Rattle.collect_shared_static.specs.Items.{item_as}

-- a variable after nothing, a variable, an array, both; an array likewise
pub marks :
    (marked false 0 ≡ 1)
    × (marked false 1 ≡ 1)
    × (marked false 2 ≡ 3)
    × (marked false 3 ≡ 3)
    × (marked true 0 ≡ 2)
    × (marked true 1 ≡ 3)
    × (marked true 2 ≡ 2)
    × (marked true 3 ≡ 3)
unfolding marked
marks = (refl, refl, refl, refl, refl, refl, refl, refl)

-- no limits, no strings, no erased names
abbrev pub free : Given
free = record { row_room = none; note_room = none; string = λ (n : ℕ). []; erased = [] }

-- name 7 AS INTEGER, a variable or an array
abbrev pub item : Bool → ScopeItem
item array = record { name = 7; array = array; ty = some Integer }

-- in scope 4: a STATIC array beside the variable, a SHARED one with no other's mark; a type for the variable and none for the array
pub rows_of_lem :
    (item_as free 139 4 (item true) (running (static_row 7 4 1 ∷ []) []) ≡ running (static_row 7 4 3 ∷ []) [])
    × (item_as free 138 4 (item true) (running (static_row 7 4 1 ∷ []) []) ≡ running (shared_row 7 4 2 ∷ static_row 7 4 1 ∷ []) [])
    × (item_as free 134 4 (item false) (running [] []) ≡ running (typed_var_row 7 4 40 0 ∷ []) [])
    × (item_as free 134 4 (item true) (running [] []) ≡ running [] [])
unfolding item_as item_type typed marked asking enter change fits insert find key
rows_of_lem = (refl, refl, refl, refl)
