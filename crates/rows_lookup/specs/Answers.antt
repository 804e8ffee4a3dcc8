-- What the answers of the lookups mean. These are definitions.
use Rattle.std.proofs.Math.Option.{Option, none, some}
use Rattle.std.specs.Prelude.{ℕ, Option as RustOption, None, Some}
use Rattle.rows_lookup.specs.Lookup.{TypeRef, ArrayInfo}
use Rattle.rows_lookup.specs.declared.Typed.{Typed}
use Rattle.rows_lookup.specs.declared.Array.{Array}

-- a type, or none
abbrev pub typed : RustOption Typed → Option TypeRef
typed None = none
typed (Some t) = some (record { head = t.head; arg = t.arg })

-- an array, or none
abbrev pub array : RustOption Array → Option ArrayInfo
array None = none
array (Some a) = some (record { rank = a.rank; line = a.line; lower = a.lower })

-- a class by its position in `DataType`; a record has none
abbrev pub class : RustOption ℕ → Option ℕ
class None = none
class (Some position) = some position
