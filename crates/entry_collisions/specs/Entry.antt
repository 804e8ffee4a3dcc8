-- `check_name_collisions` as an entry over a lent string table and lent rows: the number and the place that stop it, or the diagnostics, and what is left
-- in their buffer. Definitions only.
use Rattle.std.specs.Prelude.{ℕ, ◌≡◌, true, List, [], eqb, length, Result, Err, Ok}
use Rattle.std.proofs.Math.Option.{some}
use Rattle.base_words.specs.Word.{pick}
use Rattle.base_words.specs.Told.{Told, stops, gives, after}
use Rattle.base_words.specs.Refusals.{refused}
use Rattle.base_strings.specs.Open.{Place, entry_of}
use Rattle.base_strings.specs.Table.{sound, names_of}
use Rattle.rows_table.specs.Rows.{Row, note_width, zeros, image, rows_of}
use Rattle.rows_lent.specs.Lent.{Lent, lent_rows}
use Rattle.entry_lookup.specs.Leaves.{sized}
use Rattle.collect_buffers.specs.State.{State, running, stopped}
use Rattle.collect_definition.specs.Collect.{given, check_name_collisions}
use Rattle.base_words.specs.declared.Refusal.{Refusal}

-- the diagnostics of a run, or the number that stopped it
unfoldable pub end_of : State → Told (List Row)
end_of (running rows notes) = gives notes
end_of (stopped k) = stops k 0

-- what is said of rows, from no diagnostics on, with room for D words of them
unfoldable pub said_of : (bytes ends buf : List ℕ) (D : ℕ) → List Row → Told (List Row)
unfolding end_of
said_of bytes ends buf D rows = end_of (check_name_collisions (given (some (length buf)) (some D) bytes ends []) (running rows []))

-- of the first n rows of a buffer
unfoldable pub over_of : (bytes ends buf : List ℕ) (D n : ℕ) → Told (List Row)
unfolding said_of
over_of bytes ends buf D n = said_of bytes ends buf D (rows_of n buf)

-- number 6 before it
unfoldable pub checked_of : (bytes ends buf : List ℕ) (D : ℕ) → Told (List Row)
unfolding said_of
checked_of bytes ends buf D = after (lent_rows (names_of bytes ends) buf) (said_of bytes ends buf D)

-- how many there are
unfoldable pub counted : Told (List Row) → Told ℕ
counted (gives notes) = gives (length notes)
counted (stops n p) = stops n p

-- the diagnostics' words afterwards: the diagnostics and zeros; zeros where they have no room; else as before
unfoldable pub left_of : List ℕ → Told (List Row) → List ℕ
left_of d (gives notes) = image note_width (length d) notes
left_of d (stops n p) = pick (eqb n 8) (zeros (length d)) d

-- document 01's number and value for each case of the answer
unfoldable pub told_as : Result ℕ Refusal → Told ℕ
told_as (Err f) = refused f
told_as (Ok n) = gives n

-- an answer, and the words d' that were d, tell t
pub record Tells (d : List ℕ) (r : Result ℕ Refusal) (d' : List ℕ) (t : Told (List Row)) : Type 0 where
  pub told : told_as r ≡ counted t
  pub left : d' ≡ left_of d t

-- the entry's promise: 5 and 1 before it
pub record Entry (bytes ends buf d : List ℕ) (r : Result ℕ Refusal) (d' : List ℕ) : Type 0 where
  pub at : ℕ
  pub place : Place bytes ends at
  pub tells : Tells d r d' (entry_of (sized bytes ends) at bytes ends (checked_of bytes ends buf (length d)))

-- a table that passed
pub record LentReady (bytes ends buf : List ℕ) (n : ℕ) : Type 0 where
  pub strings : sound bytes ends ≡ true
  pub lent : Lent (names_of bytes ends) (rows_of n buf) n buf
