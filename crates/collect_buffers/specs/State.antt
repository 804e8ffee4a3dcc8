-- What collecting keeps: the rows and the diagnostics, or the number that stopped it; and the few things that it does to them.
-- `notes` are the diagnostics; document 01's note, the N line, is `note_line` (list_message/specs/Message.antt).
use Rattle.std.specs.Prelude.{ℕ, ◌*◌, Bool, true, false, List, [], ◌∷◌, ◌++◌, leb, length}
use Rattle.std.proofs.Math.Option.{Option, none, some}
use Rattle.base_words.specs.Word.{pick}
use Rattle.rows_table.specs.Rows.{Row, width, note_width, insert}

infixl 20 ◌⨾◌
-- a run that goes on, or one that stopped
pub data State : Type 0 where
  running : (rows notes : List Row) → State
  stopped : (number : ℕ) → State

-- what is done to the state
abbrev pub Step : Type 0
Step = State → State

-- one step after the other
abbrev pub ◌⨾◌ : Step → Step → Step
f ⨾ g = λ s. g (f s)

-- the state as it is
abbrev pub nothing : Step
nothing = λ s. s

-- the step, where the test holds
abbrev pub when : Bool → Step → Step
when true f = f
when false f = nothing

-- a step that the rows decide
unfoldable pub asking : (List Row → Step) → Step
asking f (running rows notes) = f rows (running rows notes)
asking f (stopped n) = stopped n

-- a step for each of a list, in order
unfoldable pub each : {A : Type 0} → (A → Step) → List A → Step
each f [] = nothing
each f (x ∷ xs) = f x ⨾ each f xs

-- a run stops with n; one that has stopped keeps its number
unfoldable pub stop : ℕ → Step
stop n (running rows notes) = stopped n
stop n (stopped m) = stopped m

-- so many rows of w words have room in the words that a lent buffer has; none: no limit
unfoldable pub fits : ℕ → Option ℕ → List Row → Bool
fits w none rows = true
fits w (some n) rows = leb (length rows * w) n

-- the rows changed, all in one entry: 7 where they don't fit
unfoldable pub change : Option ℕ → (List Row → List Row) → Step
change room f (running rows notes) = pick (fits width room (f rows)) (running (f rows) notes) (stopped 7)
change room f (stopped n) = stopped n

-- a new row, in the place of the one with its key
unfoldable pub enter : Option ℕ → Row → Step
enter room row = change room (insert row)

-- a new diagnostic: 8 where it doesn't fit
unfoldable pub push : Option ℕ → Row → Step
push room note (running rows notes) = pick (fits note_width room (notes ++ (note ∷ []))) (running rows (notes ++ (note ∷ []))) (stopped 8)
push room note (stopped n) = stopped n
