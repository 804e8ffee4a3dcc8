-- The diagnostics: code, line, two names in the message's order, a number, the note's line; what a message lacks is 0. Above each, its message in sema.rs.
-- A note stands on a line of its own.
use Rattle.std.specs.Prelude.{ℕ, ◌+◌, Bool, true, false, [], ◌∷◌}
use Rattle.rows_table.specs.Rows.{Row}
use Rattle.rows_kinds.specs.Kinds.{bit}

-- a name in a diagnostic is its string number plus 1
abbrev pub named : ℕ → ℕ
named x = x + 1

-- a message without a name, with one, with two
abbrev pub plain : (code line : ℕ) → Row
plain code line = code ∷ line ∷ 0 ∷ 0 ∷ 0 ∷ 0 ∷ []

-- a message with one name
abbrev pub of : (code line name : ℕ) → Row
of code line name = code ∷ line ∷ named name ∷ 0 ∷ 0 ∷ 0 ∷ []

-- with two names
abbrev pub of_two : (code line first second : ℕ) → Row
of_two code line a b = code ∷ line ∷ named a ∷ named b ∷ 0 ∷ 0 ∷ []

-- duplicate line number {n}
abbrev pub duplicate_line : (line n : ℕ) → Row
duplicate_line line n = 1 ∷ line ∷ 0 ∷ 0 ∷ n ∷ 0 ∷ []

-- duplicate label '{name}'
abbrev pub duplicate_label : (line name : ℕ) → Row
duplicate_label line name = of 2 line name

-- TYPE '{name}' is already defined
-- note: previous definition is on line {prev}
abbrev pub type_defined : (line name prev : ℕ) → Row
type_defined line name prev = 3 ∷ line ∷ named name ∷ 0 ∷ 0 ∷ prev ∷ []

-- TYPE '{name}' must be defined at module level
abbrev pub type_inside : (line name : ℕ) → Row
type_inside line name = of 4 line name

-- field '{field}' is declared twice in TYPE '{name}'
abbrev pub field_twice : (line field name : ℕ) → Row
field_twice line field name = of_two 5 line field name

-- TYPE '{name}' cannot contain itself
abbrev pub contains_itself : (line name : ℕ) → Row
contains_itself line name = of 6 line name

-- field '{field}' uses undefined TYPE '{inner}'
abbrev pub field_undefined : (line field inner : ℕ) → Row
field_undefined line field inner = of_two 7 line field inner

-- OPTION BASE may appear only once
abbrev pub option_base_twice : (line : ℕ) → Row
option_base_twice line = plain 8 line

-- OPTION BASE must come before any DIM
abbrev pub option_base_late : (line : ℕ) → Row
option_base_late line = plain 9 line

-- '{name}' is already defined
abbrev pub const_defined : (line name : ℕ) → Row
const_defined line name = of 10 line name

-- Overflow: CONST '{name}' does not fit its type
abbrev pub const_overflow : (line name : ℕ) → Row
const_overflow line name = of 11 line name

-- CONST '{name}' must have a constant value
abbrev pub not_constant : (line name : ℕ) → Row
not_constant line name = of 12 line name

-- {SHARED or STATIC} belongs inside a SUB or FUNCTION
abbrev pub items_outside : (line : ℕ) (static : Bool) → Row
items_outside line static = 13 ∷ line ∷ 0 ∷ 0 ∷ bit static ∷ 0 ∷ []

-- DIM SHARED belongs at module level; inside a procedure, use SHARED
abbrev pub dim_shared_inside : (line : ℕ) → Row
dim_shared_inside line = plain 14 line

-- '{name}' is declared AS a different type than its name's suffix
abbrev pub suffix_differs : (line name : ℕ) → Row
suffix_differs line name = of 15 line name

-- undefined TYPE '{type}'
abbrev pub undefined_type : (line type : ℕ) → Row
undefined_type line type = of 16 line type

-- '{name}' is already declared
abbrev pub declared_twice : (line name : ℕ) → Row
declared_twice line name = of 17 line name

-- array '{name}' needs at least one dimension
abbrev pub no_dimension : (line name : ℕ) → Row
no_dimension line name = of 18 line name

-- array '{name}' is already declared
abbrev pub array_twice : (line name : ℕ) → Row
array_twice line name = of 19 line name

-- REDIM PRESERVE of '{name}' must keep its {rank}; only the last one's upper bound may change (20)
-- REDIM of '{name}' must keep its {rank} (21)
abbrev pub other_rank : (preserve : Bool) (line name rank : ℕ) → Row
other_rank true line name rank = 20 ∷ line ∷ named name ∷ 0 ∷ rank ∷ 0 ∷ []
other_rank false line name rank = 21 ∷ line ∷ named name ∷ 0 ∷ rank ∷ 0 ∷ []

-- parameter '{param}' of '{name}' is declared AS STRING * {n}, but a parameter must be a variable-length string
-- note: declare it {param} AS STRING
abbrev pub fixed_param : (line param name n : ℕ) → Row
fixed_param line param name n = 22 ∷ line ∷ named param ∷ named name ∷ n ∷ 0 ∷ []

-- the result of '{name}' is declared AS STRING * {n}, but a FUNCTION's result must be a variable-length string
-- note: declare it AS STRING
abbrev pub fixed_result : (line name n : ℕ) → Row
fixed_result line name n = 23 ∷ line ∷ named name ∷ 0 ∷ n ∷ 0 ∷ []

-- '{name}' cannot be defined inside another procedure
abbrev pub proc_inside : (line name : ℕ) → Row
proc_inside line name = of 24 line name

-- '{name}' is already defined
-- note: previous definition is on line {prev}
abbrev pub proc_defined : (line name prev : ℕ) → Row
proc_defined line name prev = 25 ∷ line ∷ named name ∷ 0 ∷ 0 ∷ prev ∷ []

-- parameter '{param}' uses undefined TYPE '{type}'
abbrev pub param_undefined : (line param type : ℕ) → Row
param_undefined line param type = of_two 26 line param type

-- '{name}' is declared both as an array and as a {SUB or FUNCTION}
-- note: the {SUB or FUNCTION} is on line {proc_line}
abbrev pub array_and_proc : (line name is_function proc_line : ℕ) → Row
array_and_proc line name is_function proc_line = 27 ∷ line ∷ named name ∷ 0 ∷ is_function ∷ proc_line ∷ []

-- '{name}' is the name of a built-in function and cannot also be an array
abbrev pub array_and_builtin : (line name : ℕ) → Row
array_and_builtin line name = of 28 line name
