-- Worked examples of the lookups. Names: 1 a variable or an array A, 2 a procedure P, 3 a DEF FN F, 4 a TYPE, 5 a procedure S that says SHARED A, 6 B.
-- Scopes are a procedure's name plus 1.
use Rattle.std.specs.Prelude.{◌≡◌, refl, true, false, List, [], ◌∷◌, ℕ}
use Rattle.std.proofs.Math.Option.{Option, none, some}
use Rattle.rows_table.specs.Rows.{Row, key, find}
use Rattle.rows_kinds.specs.Kinds.{type_row, array_row, typed_var_row, dim_shared_row, shared_row, static_row, static_proc_row, def_fn_row}
use Rattle.rows_lookup.specs.Lookup.{shares, is_static, type_words, TypeRef, ArrayInfo, visible, typed_var, typed_var_in, lookup_array, from_suffix, from_type_ref, class_of, declared_type}

-- the rows that are asked
pub rows : List Row
rows =
    type_row 4 3 10 ∷
    array_row 1 0 2 20 false ∷
    array_row 1 3 1 21 true ∷
    typed_var_row 1 0 45 4 ∷
    typed_var_row 6 0 44 9 ∷
    dim_shared_row 6 false ∷
    shared_row 1 6 2 ∷
    static_row 1 6 1 ∷
    static_proc_row 2 ∷
    def_fn_row 3 ∷ []

-- an array with these
pub info : (rank line lower : ℕ) → Option ArrayInfo
info rank line lower = some (record { rank = rank; line = line; lower = lower })

-- a type with these
pub typed_as : (head arg : ℕ) → Option TypeRef
typed_as head arg = some (record { head = head; arg = arg })

-- P has an array A of its own; S shares the module's array, not its variable; F shares all; Q, name 7, sees neither
pub arrays :
    (lookup_array rows 0 1 ≡ info 2 20 0)
    × (lookup_array rows 3 1 ≡ info 1 21 1)
    × (lookup_array rows 6 1 ≡ info 2 20 0)
    × (lookup_array rows 4 1 ≡ info 2 20 0)
    × (lookup_array rows 8 1 ≡ none)
    × (lookup_array rows 0 6 ≡ none)
unfolding rows info lookup_array visible shares find key
arrays = (refl, refl, refl, refl, refl, refl)

-- B is DIM SHARED as a variable
pub variables :
    (typed_var rows 6 1 ≡ none)
    × (typed_var rows 4 1 ≡ typed_as 45 4)
    × (typed_var rows 8 6 ≡ typed_as 44 9)
    × (typed_var_in rows 8 6 ≡ none)
    × (shares rows 7 6 false ≡ true)
    × (shares rows 7 6 true ≡ false)
unfolding rows typed_as typed_var typed_var_in visible shares find key
variables = (refl, refl, refl, refl, refl, refl)

-- P is a STATIC procedure; S says STATIC A as a variable
pub statics : (is_static rows 2 6 true ≡ true) × (is_static rows 5 1 false ≡ true) × (is_static rows 5 1 true ≡ false)
unfolding rows is_static find key
statics = (refl, refl, refl)

-- a TYPE's words, 1 for a name that no TYPE has, 2 for any fixed string
pub sizes : (type_words rows 45 4 ≡ 3) × (type_words rows 45 6 ≡ 1) × (type_words rows 44 0 ≡ 2) × (type_words rows 43 0 ≡ 1)
unfolding rows type_words find key
sizes = (refl, refl, refl, refl)

-- a record has no class, any fixed string is String; without a type the suffix decides: % & ! # $, and Double without one
pub classes :
    (declared_type rows 65 0 1 ≡ none)
    × (declared_type rows 66 0 6 ≡ some 4)
    × (declared_type rows 37 0 9 ≡ some 0)
    × (declared_type rows 38 0 9 ≡ some 1)
    × (declared_type rows 33 0 9 ≡ some 2)
    × (declared_type rows 35 0 9 ≡ some 3)
    × (declared_type rows 36 0 9 ≡ some 4)
    × (declared_type rows 90 0 9 ≡ some 3)
unfolding rows declared_type class_of from_suffix from_type_ref typed_var visible shares find key
classes = (refl, refl, refl, refl, refl, refl, refl, refl)
