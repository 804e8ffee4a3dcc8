-- Each kind's row once, as words: worked examples of document 01's table, read from it a second time.
use Rattle.std.specs.Prelude.{◌≡◌, refl, true, false, List, [], ◌∷◌, ℕ, ◌-◌}
use Rattle.rows_table.specs.Rows.{Row, width, zeros}
use Rattle.rows_kinds.specs.Kinds.{line_row, label_row, type_row, field_row, const_row, array_row, typed_var_row, proc_row, param_row, dim_shared_row, shared_row, static_row, static_proc_row, def_fn_row, unranked_row, option_base_row}

-- six words, and those that a wider row has besides
pub six : ℕ → ℕ → ℕ → ℕ → ℕ → ℕ → Row
six a b c d e f = a ∷ b ∷ c ∷ d ∷ e ∷ f ∷ zeros (width - 6)

-- the rows as `Kinds.antt` builds them
pub built : List Row
built =
    line_row 10 0 ∷
    label_row 7 3 ∷
    type_row 7 4 12 ∷
    field_row 7 1 5 2 44 20 ∷
    const_row 7 24 0xffffffff 0xffffffff ∷
    const_row 7 28 9 0 ∷
    array_row 7 3 2 12 true ∷
    typed_var_row 7 0 45 6 ∷
    proc_row 7 true 12 40 0 ∷
    proc_row 8 false 13 0 0 ∷
    param_row 7 0 5 true false 43 0 ∷
    param_row 7 1 6 false true 0 0 ∷
    dim_shared_row 7 false ∷
    dim_shared_row 7 true ∷
    shared_row 7 3 1 ∷
    static_row 7 3 3 ∷
    static_proc_row 7 ∷
    def_fn_row 7 ∷
    unranked_row 7 3 ∷
    option_base_row 1 ∷ []

-- the same rows as words, written from document 01
pub written : List Row
written =
    six 0x8000000a 0 0 0 0 0 ∷
    six 0x81000007 0 3 0 0 0 ∷
    six 0x82000007 0 4 12 0 0 ∷
    six 0x83000007 1 5 2 44 20 ∷
    six 0x84000007 0 24 0xffffffff 0xffffffff 0 ∷
    six 0x84000007 0 28 9 0 0 ∷
    six 0x85000007 3 2 12 1 0 ∷
    six 0x86000007 0 45 6 0 0 ∷
    six 0x87000007 0 1 12 40 0 ∷
    six 0x87000008 0 0 13 0 0 ∷
    six 0x88000007 0 5 1 43 0 ∷
    six 0x88000007 1 6 2 0 0 ∷
    six 0x89000007 0 0 0 0 0 ∷
    six 0x89000007 1 0 0 0 0 ∷
    six 0x8a000007 3 1 0 0 0 ∷
    six 0x8b000007 3 3 0 0 0 ∷
    six 0x8c000007 0 0 0 0 0 ∷
    six 0x8d000007 0 0 0 0 0 ∷
    six 0x8e000007 3 0 0 0 0 ∷
    six 0x8f000000 0 1 0 0 0 ∷ []

-- both are the same words
pub rows_as_written : built ≡ written
unfolding built written six
rows_as_written = refl
