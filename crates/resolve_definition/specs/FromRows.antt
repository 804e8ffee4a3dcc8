-- The tables that rows stand for. These are definitions.
use Rattle.std.specs.Prelude.{ℕ, ◌%◌, Bool, true, false, ◌&&◌, not, List, eqb, leb, get_or}
use Rattle.std.proofs.Math.Option.{Option, none, some}
use Rattle.rows_table.specs.Rows.{Row, find}
use Rattle.rows_kinds.specs.Kinds.{entry_key, has}
use Rattle.rows_lookup.specs.Lookup.{ArrayInfo, lookup_array}
use Rattle.resolve_definition.specs.Tables.{Tables}

-- `!p.byval && !p.array && !matches!(p.ty, Some(TypeRef::Record(_)))` of a parameter with these marks (1 BYVAL, 2 array) whose type has this
-- head: not BYVAL, which the name here doesn't say, no array, and no record (45, whether or not a row 130 has that TYPE)
abbrev pub is_scalar : (marks head : ℕ) → Bool
is_scalar marks head = not (eqb (marks % 2) 1) && (not (leb 2 marks) && not (eqb head 45))

-- there is such a parameter
abbrev pub by_ref : Option Row → Bool
by_ref none = false
by_ref (some r) = is_scalar (get_or r 3 0) (get_or r 4 0)  -- row 136's words 3 and 4: marks, type's head

-- `is_some` (the one of base_builtins/specs/Builtins.antt, for arrays)
abbrev pub is_some : Option ArrayInfo → Bool
is_some none = false
is_some (some a) = true

-- A procedure is known by its row 135; the parameter at a position is the row 136 of that ordinal.
unfoldable pub tables_of : List Row → Tables
tables_of rows = record {
  procedure = λ f. has rows 135 f 0;
  reference = λ f i. by_ref (find (entry_key 136 f i) rows);
  array = λ σ f. is_some (lookup_array rows σ f);
}
