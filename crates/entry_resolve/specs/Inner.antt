-- What the contracts behind the checks of sizes and strings cite. These are definitions.
use Rattle.std.specs.Prelude.{ℕ, ◌≤◌, Bool, true, ◌≡◌, List, Some, Result, Err, Ok}
use Rattle.base_words.specs.Refusals.{refused}
use Rattle.rows_lent.specs.Lent.{checked}
use Rattle.rows_table.specs.declared.rows.Rows.{Rows}
use Rattle.entry_resolve.specs.Entries.{ruling}
use Rattle.base_words.specs.declared.Refusal.{Refusal}

-- the rows that passed, and what passed with them
pub record Passed (names rows : List ℕ) (right : Bool) (size room n : ℕ) : Type 0 where
  pub rows_are : checked names rows ≡ Some n
  pub admitted : right ≡ true
  pub roomy : size ≤ room

-- the refusal is the definition's, or these rows passed
abbrev pub Ruled : (names rows : List ℕ) (right : Bool) (size room : ℕ) → Result Rows Refusal → Type 0
Ruled names rows right size room (Err f) = ruling names rows right size room ≡ refused f
Ruled names rows right size room (Ok held) = (held.words.now ≡ rows) × Passed names rows right size room held.count
