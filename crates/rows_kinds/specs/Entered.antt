-- With which words `enter` puts in the row of each kind; words past a row's own are 0. Assumes nothing.
use Rattle.std.specs.Prelude.{◌≡◌, refl, Bool, [], ◌∷◌, ℕ, ◌+◌, ◌*◌}
use Rattle.rows_kinds.specs.Kinds.{row, bit, line_row, label_row, type_row, field_row, const_row, array_row, typed_var_row, proc_row, param_row, dim_shared_row, shared_row, static_row, static_proc_row, def_fn_row, unranked_row, option_base_row}

-- a line number
pub line_entered : (number scope : ℕ) → row 128 number (0 ∷ scope ∷ 0 ∷ 0 ∷ 0 ∷ []) ≡ line_row number scope
line_entered number scope = refl

-- a label
pub label_entered : (name scope : ℕ) → row 129 name (0 ∷ scope ∷ 0 ∷ 0 ∷ 0 ∷ []) ≡ label_row name scope
label_entered name scope = refl

-- a TYPE
pub type_entered : (name words line : ℕ) → row 130 name (0 ∷ words ∷ line ∷ 0 ∷ 0 ∷ []) ≡ type_row name words line
type_entered name words line = refl

-- a field of a TYPE
pub field_entered : (type ordinal name word head arg : ℕ) → row 131 type (ordinal ∷ name ∷ word ∷ head ∷ arg ∷ []) ≡ field_row type ordinal name word head arg
field_entered type ordinal name word head arg = refl

-- a CONST
pub const_entered : (name kind low high : ℕ) → row 132 name (0 ∷ kind ∷ low ∷ high ∷ 0 ∷ []) ≡ const_row name kind low high
const_entered name kind low high = refl

-- an array
pub array_entered : (name scope rank line : ℕ) (lower : Bool) → row 133 name (scope ∷ rank ∷ line ∷ bit lower ∷ 0 ∷ []) ≡ array_row name scope rank line lower
array_entered name scope rank line lower = refl

-- a typed variable
pub typed_var_entered : (name scope head arg : ℕ) → row 134 name (scope ∷ head ∷ arg ∷ 0 ∷ 0 ∷ []) ≡ typed_var_row name scope head arg
typed_var_entered name scope head arg = refl

-- a procedure
pub proc_entered : (name : ℕ) (function : Bool) (line head arg : ℕ) → row 135 name (0 ∷ bit function ∷ line ∷ head ∷ arg ∷ []) ≡ proc_row name function line head arg
proc_entered name function line head arg = refl

-- a parameter of a procedure
pub param_entered : (proc ordinal name : ℕ) (byval array : Bool) (head arg : ℕ)
    → row 136 proc (ordinal ∷ name ∷ (bit byval + 2 * bit array) ∷ head ∷ arg ∷ []) ≡ param_row proc ordinal name byval array head arg
param_entered proc ordinal name byval array head arg = refl

-- a name of DIM SHARED
pub dim_shared_entered : (name : ℕ) (array : Bool) → row 137 name (bit array ∷ 0 ∷ 0 ∷ 0 ∷ 0 ∷ []) ≡ dim_shared_row name array
dim_shared_entered name array = refl

-- an item of SHARED
pub shared_entered : (name scope mark : ℕ) → row 138 name (scope ∷ mark ∷ 0 ∷ 0 ∷ 0 ∷ []) ≡ shared_row name scope mark
shared_entered name scope mark = refl

-- an item of STATIC
pub static_entered : (name scope mark : ℕ) → row 139 name (scope ∷ mark ∷ 0 ∷ 0 ∷ 0 ∷ []) ≡ static_row name scope mark
static_entered name scope mark = refl

-- a STATIC procedure
pub static_proc_entered : (name : ℕ) → row 140 name (0 ∷ 0 ∷ 0 ∷ 0 ∷ 0 ∷ []) ≡ static_proc_row name
static_proc_entered name = refl

-- a DEF FN
pub def_fn_entered : (name : ℕ) → row 141 name (0 ∷ 0 ∷ 0 ∷ 0 ∷ 0 ∷ []) ≡ def_fn_row name
def_fn_entered name = refl

-- an array parameter without a rank
pub unranked_entered : (name scope : ℕ) → row 142 name (scope ∷ 0 ∷ 0 ∷ 0 ∷ 0 ∷ []) ≡ unranked_row name scope
unranked_entered name scope = refl

-- OPTION BASE
pub option_base_entered : (value : ℕ) → row 143 0 (0 ∷ value ∷ 0 ∷ 0 ∷ 0 ∷ []) ≡ option_base_row value
option_base_entered value = refl
