-- What the two questions come to, by the answers of the lookups. Assumes nothing.
use Prim.Native.Nat.{ℕ}
use mathlib.Core.Path.{◌≡◌}
use mathlib.Core.Bool.{Bool, true, false}
use mathlib.Core.List.{List}
use Rattle.rows_table.specs.Rows.{Row, find}
use Rattle.rows_kinds.specs.Kinds.{entry_key, has}
use Rattle.resolve_definition.specs.Tables.{places, element}
use Rattle.resolve_definition.specs.FromRows.{by_ref, tables_of}

module _ (rows : List Row) (f : ℕ) where
  -- a name that no procedure has: no argument is by reference
  pub unknown : (i : ℕ) → has rows 135 f 0 ≡ false → false ≡ places (tables_of rows) f i
  unfolding places tables_of
  unknown i e = rw e

  -- a procedure's: as its parameter says
  pub known : (i : ℕ) (b : Bool) → has rows 135 f 0 ≡ true → b ≡ by_ref (find (entry_key 136 f i) rows) → b ≡ places (tables_of rows) f i
  unfolding places tables_of
  known i b e h = rw e h

  -- a procedure's name is no element's
  pub a_procedure : (scope : ℕ) → has rows 135 f 0 ≡ true → false ≡ element (tables_of rows) scope f
  unfolding element tables_of
  a_procedure scope e = rw e

  -- any other is one where it is a visible array
  pub no_procedure : (scope : ℕ) (b : Bool) → has rows 135 f 0 ≡ false → b ≡ (tables_of rows).array scope f → b ≡ element (tables_of rows) scope f
  unfolding element tables_of
  no_procedure scope b e h = rw e h
