-- What resolving asks of the tables, and the two questions that decide: which arguments keep a pair of parentheses, and which calls are
-- elements of an array. A name is its string number; a scope is 0 for the module, else a procedure's name plus 1. These are definitions.
use Rattle.std.specs.Prelude.{ℕ, suc, Bool, false, ◌&&◌, not}

-- what is asked of the rows
pub record Tables : Type 0 where
  -- a procedure of that name is known
  pub procedure : ℕ → Bool
  -- the parameter at that position of the procedure of that name is there, by reference, and neither an array nor a record
  pub reference : ℕ → ℕ → Bool
  -- from that scope, that name is a visible array
  pub array : ℕ → ℕ → Bool

-- `by_ref` of each argument of a list, by its position from 0
abbrev pub Places : Type 0
Places = ℕ → Bool

-- the members of a list that are no arguments
unfoldable pub nowhere : Places
nowhere i = false

-- the arguments of a call of f, or of CALL f
unfoldable pub places : Tables → ℕ → Places
places T f i = T.procedure f && T.reference f i

-- the same past the first (`after` of base_words/specs/Told.antt puts one check after another)
unfoldable pub after : Places → Places
after m i = m (suc i)

-- a call of f from the scope σ is an element: a visible array, and no procedure
unfoldable pub element : Tables → ℕ → ℕ → Bool
element T σ f = not (T.procedure f) && T.array σ f
