-- The sixteen kinds of rows, word by word in document 01's order ("Rows"). A name, a type's name and a string constant are string numbers; a scope is
-- 0 for the module, else the procedure's name plus 1; a type is its `TypeRef` head kind 40 to 45 (0: absent) and its argument. These are definitions.
use Rattle.std.specs.Prelude.{Bool, true, false, List, [], ◌∷◌, ◌++◌, ℕ, suc, ◌+◌, ◌-◌, ◌*◌, length, get_or}
use Rattle.std.proofs.Math.Option.{Option, none, some}
use Rattle.base_words.specs.Word.{word_of}
use Rattle.rows_table.specs.Rows.{Row, width, key_of, zeros, find, replace}

-- a row of the table: kind and name, the words after it, and zeros
abbrev pub row : (kind name : ℕ) → List ℕ → Row
row kind name words = word_of kind name ∷ words ++ zeros (width - suc (length words))

-- its key: kind and name, and word 1: a scope, an ordinal, in 137 whether it is an array, or 0
abbrev pub entry_key : (kind name second : ℕ) → ℕ
entry_key kind name second = key_of (word_of kind name) second

-- no and yes
abbrev pub bit : Bool → ℕ
bit false = 0
bit true = 1

-- 128: a line number, the scope that it stands in
abbrev pub line_row : (number scope : ℕ) → Row
line_row number scope = row 128 number (0 ∷ scope ∷ [])

-- 129: a label
abbrev pub label_row : (name scope : ℕ) → Row
label_row name scope = row 129 name (0 ∷ scope ∷ [])

-- 130: a TYPE
abbrev pub type_row : (name words line : ℕ) → Row
type_row name words line = row 130 name (0 ∷ words ∷ line ∷ [])

-- 131: a field, under its TYPE; `word` is where it starts
abbrev pub field_row : (type ordinal name word head arg : ℕ) → Row
field_row type ordinal name word head arg = row 131 type (ordinal ∷ name ∷ word ∷ head ∷ arg ∷ [])

-- 132: a CONST, its literal's kind 24 to 28 and its 64 bits, or a string's number and 0
abbrev pub const_row : (name kind low high : ℕ) → Row
const_row name kind low high = row 132 name (0 ∷ kind ∷ low ∷ high ∷ [])

-- 133: an array
abbrev pub array_row : (name scope rank line : ℕ) (lower : Bool) → Row
array_row name scope rank line lower = row 133 name (scope ∷ rank ∷ line ∷ bit lower ∷ [])

-- 134: a typed variable
abbrev pub typed_var_row : (name scope head arg : ℕ) → Row
typed_var_row name scope head arg = row 134 name (scope ∷ head ∷ arg ∷ [])

-- 135: a procedure, and the type that it returns
abbrev pub proc_row : (name : ℕ) (function : Bool) (line head arg : ℕ) → Row
proc_row name function line head arg = row 135 name (0 ∷ bit function ∷ line ∷ head ∷ arg ∷ [])

-- 136: a parameter, under its procedure
abbrev pub param_row : (proc ordinal name : ℕ) (byval array : Bool) (head arg : ℕ) → Row
param_row proc ordinal name byval array head arg = row 136 proc (ordinal ∷ name ∷ (bit byval + 2 * bit array) ∷ head ∷ arg ∷ [])

-- 137: DIM SHARED
abbrev pub dim_shared_row : (name : ℕ) (array : Bool) → Row
dim_shared_row name array = row 137 name (bit array ∷ [])

-- 138, 139: an item of SHARED, of STATIC; the mark is 1 for a variable, 2 for an array, 3 for both
abbrev pub shared_row : (name scope mark : ℕ) → Row
shared_row name scope mark = row 138 name (scope ∷ mark ∷ [])

-- 139: the same of STATIC
abbrev pub static_row : (name scope mark : ℕ) → Row
static_row name scope mark = row 139 name (scope ∷ mark ∷ [])

-- 140: a STATIC procedure
abbrev pub static_proc_row : (name : ℕ) → Row
static_proc_row name = row 140 name (0 ∷ [])

-- 141: a DEF FN
abbrev pub def_fn_row : (name : ℕ) → Row
def_fn_row name = row 141 name (0 ∷ [])

-- 142: an array parameter that no use gives a rank
abbrev pub unranked_row : (name scope : ℕ) → Row
unranked_row name scope = row 142 name (scope ∷ [])

-- 143: OPTION BASE was seen, and its last value
abbrev pub option_base_row : (value : ℕ) → Row
option_base_row value = row 143 0 (0 ∷ value ∷ [])

-- a TYPE with its fields, and a procedure with its parameters, are one entry: the old fields or parameters go first
abbrev pub replace_under : (kind name : ℕ) → List Row → List Row → List Row
replace_under kind name new rows = replace (entry_key kind name 0) (entry_key kind (name + 1) 0) new rows

-- a TYPE's row and its fields' rows in the place of its old fields
abbrev pub replace_type : (name : ℕ) → List Row → List Row → List Row
replace_type name new rows = replace_under 131 name new rows

-- a procedure's row and its parameters' rows in the place of its old parameters
abbrev pub replace_proc : (name : ℕ) → List Row → List Row → List Row
replace_proc name new rows = replace_under 136 name new rows

-- whether there is a row
abbrev pub has_row : Option Row → Bool
has_row none = false
has_row (some r) = true

-- word j of a row, 0 where there is none
abbrev pub row_word : ℕ → Option Row → ℕ
row_word j none = 0
row_word j (some r) = get_or r j 0

-- whether the rows have one with this key
abbrev pub has : List Row → (kind name second : ℕ) → Bool
has rows kind name second = has_row (find (entry_key kind name second) rows)
