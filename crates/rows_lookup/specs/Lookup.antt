-- The leaves of document 01, in sema.rs's order, on a list of rows. A scope is 0 for the module, else the procedure's name plus 1; `proc` is a
-- procedure's name. These are definitions.
use Rattle.std.specs.Prelude.{Bool, true, false, ◌||◌, List, ℕ, ◌+◌, ◌-◌, ◌%◌, leb, eqb, get_or}
use Rattle.std.proofs.Math.Option.{Option, none, some}
use Rattle.base_words.specs.Word.{pick}
use Rattle.rows_table.specs.Rows.{Row, find}
use Rattle.rows_kinds.specs.Kinds.{entry_key, bit, has, row_word}

-- `NameSets::contains`, on a mark: 1 for a variable, 2 for an array, 3 for both
abbrev pub contains : (mark : ℕ) (array : Bool) → Bool
contains mark true = leb 2 mark
contains mark false = eqb (mark % 2) 1

-- `def_fns` (rows 141), `shared_all` (137), `proc_shared` (138, whose word 2 is its mark)
unfoldable pub shares : List Row → (proc name : ℕ) (array : Bool) → Bool
shares rows proc name array =
    has rows 141 proc 0
    || (has rows 137 name (bit array)
    || contains (row_word 2 (find (entry_key 138 name (proc + 1)) rows)) array)

-- for the leaf's entry: `static_procs` (rows 140), `proc_static` (139, whose word 2 is its mark)
unfoldable pub is_static : List Row → (proc name : ℕ) (array : Bool) → Bool
is_static rows proc name array = has rows 140 proc 0 || contains (row_word 2 (find (entry_key 139 name (proc + 1)) rows)) array

-- `records.get(name).map(|r| r.words).unwrap_or(1)`
abbrev pub record_words : Option Row → ℕ
record_words none = 1
record_words (some r) = get_or r 2 0  -- row 130's word 2: its words

-- `TypeRef::FixedString` (44), `TypeRef::Record` (45, by its row 130), the numeric types
unfoldable pub type_words : List Row → (head arg : ℕ) → ℕ
type_words rows head arg = pick (eqb head 44) 2 (pick (eqb head 45) (record_words (find (entry_key 130 arg 0) rows)) 1)

-- a type as a row has it: its head's kind 40 to 45, and its argument (`TypeRef` of tree_views/specs/View.antt is the Rust's)
pub record TypeRef : Type 0 where
  pub head : ℕ
  pub arg : ℕ

-- `rank` is the number of dimensions, `lower` is `has_lower`; the Rust's `implicit` goes with implicit declaration, which is not ported
pub record ArrayInfo : Type 0 where
  pub rank : ℕ
  pub line : ℕ
  pub lower : ℕ

-- row 134's type (words 2, 3), row 133's array (words 2 to 4)
abbrev pub type_of : Option Row → Option TypeRef
type_of none = none
type_of (some r) = some (record { head = get_or r 2 0; arg = get_or r 3 0 })

-- the array of row 133
abbrev pub array_of : Option Row → Option ArrayInfo
array_of none = none
array_of (some r) = some (record { rank = get_or r 2 0; line = get_or r 3 0; lower = get_or r 4 0 })

-- the first of two rows that is there (`or_else` of collect_subscript_count/specs/Subscripts.antt is the same of counts)
abbrev pub or_else : Option Row → Option Row → Option Row
or_else none other = other
or_else (some r) other = some r

-- the row of a kind that a name has from a scope: in a procedure its own, else the module's if the procedure shares it. scope - 1 is the
-- procedure's name
unfoldable pub visible : List Row → (kind scope name : ℕ) (array : Bool) → Option Row
unfolding shares
visible rows kind scope name array =
    pick (eqb scope 0) (find (entry_key kind name 0) rows) (
    or_else (find (entry_key kind name scope) rows) (
    pick (shares rows (scope - 1) name array) (find (entry_key kind name 0) rows) none))

-- `typed_var`, `typed_var_in`, and below `class_of` and `declared_type`: for the leaves' entries; collecting and resolving don't ask them
unfoldable pub typed_var : List Row → (scope name : ℕ) → Option TypeRef
unfolding visible
typed_var rows scope name = type_of (visible rows 134 scope name false)

-- `typed_var_in`: in this scope alone
unfoldable pub typed_var_in : List Row → (scope name : ℕ) → Option TypeRef
typed_var_in rows scope name = type_of (find (entry_key 134 name scope) rows)

-- `lookup_array`: the array that is visible under the name
unfoldable pub lookup_array : List Row → (scope name : ℕ) → Option ArrayInfo
unfolding visible
lookup_array rows scope name = array_of (visible rows 133 scope name true)

-- `DataType`, by its position: 0 Integer, 1 Long, 2 Single, 3 Double, 4 String

-- `DataType::from_suffix`, by the name's last byte: 37 %, 38 &, 33 !, 36 $, else Double
unfoldable pub from_suffix : (last : ℕ) → ℕ
from_suffix last = pick (eqb last 37) 0 (pick (eqb last 38) 1 (pick (eqb last 33) 2 (pick (eqb last 36) 4 3)))

-- `DataType::from_type_ref`, by the head 40 Integer, 41 Long, 42 Single, 44 FixedString; Double else: 43, and a record, 45
unfoldable pub from_type_ref : (head : ℕ) → ℕ
from_type_ref head = pick (eqb head 40) 0 (pick (eqb head 41) 1 (pick (eqb head 42) 2 (pick (eqb head 44) 4 3)))

-- a record has none; without a type the suffix gives one
unfoldable pub class_of : (last : ℕ) → Option TypeRef → Option ℕ
unfolding from_suffix from_type_ref
class_of last none = some (from_suffix last)
class_of last (some t) = pick (eqb t.head 45) none (some (from_type_ref t.head))

-- `declared_type`: by the variable's type, else by the name's last byte
unfoldable pub declared_type : List Row → (last scope name : ℕ) → Option ℕ
unfolding class_of typed_var
declared_type rows last scope name = class_of last (typed_var rows scope name)
