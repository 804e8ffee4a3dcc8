-- Worked examples of the entries behind the checks of sizes and strings: 6 before 11, what 11 tests, and an answer. Strings: A, B%, and one that is no name.
use Rattle.std.specs.Prelude.{◌≡◌, refl, true, List, [], ◌∷◌, ◌++◌, ℕ, ◌-◌, None}
use Rattle.std.proofs.Math.Option.{none, some}
use Rattle.base_words.specs.Told.{stops, gives, after, unless}
use Rattle.base_words.specs.Refusals.{refused}
use Rattle.base_text.specs.Text.{ascii}
use Rattle.base_strings.specs.Name.{between, inner, suffix, rest, is_name}
use Rattle.base_strings.specs.Table.{start_of, string_at, marks_below, names_of, right_at, end_right, all_printable, rises, last_right, all_below, sound}
use Rattle.base_strings.specs.Order.{order}
use Rattle.rows_table.specs.Rows.{width, key, find, zeros, rows_of}
use Rattle.rows_lent.specs.Rules.{scope_ok, type_ok, const_ok, word_ok, words_ok, kind_ok, row_ok}
use Rattle.rows_lent.specs.Lent.{all_zero, ended_at, scan, checked, lent_rows}
use Rattle.rows_lookup.specs.Lookup.{shares, visible, typed_var, lookup_array, from_suffix, class_of, declared_type}
use Rattle.base_builtins.specs.Builtins.{takes, builtins, same, entry_of, builtin}
use Rattle.entry_lookup.specs.Leaves.{admits, ruled, asked, last_byte, shares_at, type_words_at, lookup_array_at, declared_type_at, builtin_at}

-- the bytes of the three strings
pub bytes : List ℕ
bytes = ascii "AB%b"

-- and their ends
pub ends : List ℕ
ends = 1 ∷ 3 ∷ 4 ∷ []

-- an array B% of the module, and a short tail
pub rows : List ℕ
rows = (0x85000001 ∷ 0 ∷ 2 ∷ 7 ∷ 0 ∷ zeros (width - 5)) ++ zeros 3

-- an array whose name is string 2, which is no name
pub bad : List ℕ
bad = 0x85000002 ∷ 0 ∷ 2 ∷ 7 ∷ 0 ∷ zeros (width - 5)

-- the string table meets its rule
pub table_sound : sound bytes ends ≡ true
unfolding bytes ends ascii sound all_below right_at end_right start_of string_at all_printable between rises order last_right
table_sound = refl

-- the first two strings are names
pub marks : names_of bytes ends ≡ 1 ∷ 1 ∷ 0 ∷ []
unfolding bytes ends ascii names_of marks_below string_at start_of is_name between inner suffix rest
marks = refl

-- a name, a scope, a procedure that are none; a type that no field row could hold; 6 comes first
pub stopped :
    (lookup_array_at bytes ends rows 0 2 ≡ stops 11 0)
    × (lookup_array_at bytes ends rows 3 1 ≡ stops 11 0)
    × (shares_at bytes ends rows 2 1 true ≡ stops 11 0)
    × (type_words_at bytes ends rows 0 0 ≡ stops 11 0)
    × (type_words_at bytes ends rows 45 2 ≡ stops 11 0)
    × (lookup_array_at bytes ends bad 0 9 ≡ stops 6 0)
    × (builtin_at bytes ends 3 ≡ stops 11 0)
unfolding bytes ends rows bad ascii names_of marks_below string_at start_of is_name between inner suffix rest lookup_array_at shares_at type_words_at builtin_at asked ruled admits after unless refused lent_rows checked scan ended_at all_zero key row_ok kind_ok words_ok word_ok const_ok type_ok scope_ok
stopped = (refl, refl, refl, refl, refl, refl, refl)

-- an array in its scope, and none in another; a class by the suffix, and by none; a name that no builtin has
pub answered :
    (lookup_array_at bytes ends rows 0 1 ≡ gives (some (record { rank = 2; line = 7; lower = 0 })))
    × (lookup_array_at bytes ends rows 1 1 ≡ gives none)
    × (declared_type_at bytes ends rows 0 1 ≡ gives (some 0))
    × (declared_type_at bytes ends rows 0 0 ≡ gives (some 3))
    × (builtin_at bytes ends 0 ≡ gives None)
unfolding bytes ends rows bad ascii names_of marks_below string_at start_of is_name between inner suffix rest lookup_array_at declared_type_at builtin_at asked ruled admits after unless lent_rows checked scan ended_at all_zero key row_ok kind_ok words_ok word_ok const_ok type_ok scope_ok rows_of find lookup_array visible shares declared_type last_byte class_of from_suffix typed_var builtin entry_of builtins takes same
answered = (refl, refl, refl, refl, refl)
