-- What one search tells of the arrays of a name. Their rows stand together, in the order of their scopes. This is a definition, for a contract
-- inside.
use Rattle.std.specs.Prelude.{ℕ, ◌<◌, ◌≡◌, true, false, List, Option, Some, None}
use Rattle.rows_table.specs.Rows.{Row}
use Rattle.rows_kinds.specs.Kinds.{has}

-- the least scope that has an array f, or 4294967295, which is more than any scope
pub record FirstScope (rows : List Row) (f first : ℕ) : Type 0 where
  pub below : (scope : ℕ) → scope < first → has rows 133 f scope ≡ false
  pub there : first < 4294967295 → has rows 133 f first ≡ true

-- the least scope as an answer: none is more than any scope
unfoldable pub scope_of : Option ℕ → ℕ
scope_of (Some s) = s
scope_of None = 4294967295
