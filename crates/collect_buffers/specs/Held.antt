-- What two lent buffers hold of collecting's state, and what it is to do a step on them. These are definitions.
use Rattle.std.specs.Prelude.{◌≡◌, Bool, true, false, List, ℕ, ◌*◌, ◌≤◌, ◌<◌, length, Option, None, Some}
use Rattle.std.proofs.Math.Option.{some}
use Rattle.rows_table.specs.Rows.{Row, width, note_width, zeros, image, Filled, Holds}
use Rattle.rows_runs.specs.Runs.{Keeps}
use Rattle.collect_buffers.specs.State.{State, running, stopped, Step, when, change, enter, push}
use Rattle.collect_buffers.specs.declared.Counts.{Counts}

-- the counts fit buffers of N and D words
abbrev pub Fit : Counts → ℕ → ℕ → Type 0
Fit s N D = (s.rows * width ≤ N) × (s.notes * note_width ≤ D)

-- once stopped, the buffers have no meaning any more
abbrev pub Inside : State → Counts → List ℕ → List ℕ → Type 0
Inside (running rows notes) s b d = (s.stop ≡ 0) × Keeps rows s.rows b × Filled note_width notes s.notes d
Inside (stopped k) s b d = (s.stop ≡ k) × (0 < k)

-- buffers of N and D words, under these counts, hold the state
pub record Held (N D : ℕ) (st : State) (s : Counts) (b d : List ℕ) : Type 0 where
  pub rows_long : length b ≡ N
  pub notes_long : length d ≡ D
  pub inside : Inside st s b d

-- the rows put in order: where the run goes on, the buffer holds them as one table
pub record Settles (s : Counts) (b b' : List ℕ) : Type 0 where
  pub long : length b' ≡ length b
  pub flat : s.stop ≡ 0 → (rows : List Row) → Keeps rows s.rows b → Holds rows s.rows b'

-- fresh buffers are zeros; of others nothing is known
abbrev pub Fresh : Bool → List ℕ → List ℕ → Type 0
Fresh true b d = (b ≡ zeros (length b)) × (d ≡ zeros (length d))
Fresh false b d = Unit {0}

-- a step that knows the words of both buffers
abbrev pub Sized : Type 0
Sized = ℕ → ℕ → Step

-- it is done: whatever state the buffers held, they hold the state after it; the counts fit, whatever they held
pub record Does (f : Sized) (s r : Counts) (b d b' d' : List ℕ) : Type 0 where
  pub fit : Fit r (length b') (length d')
  pub after : (N D : ℕ) (st : State) → Held N D st s b d → Held N D (f N D st) r b' d'

-- the same of a step on the diagnostics alone, beside any rows
pub record Notes (f : Sized) (s r : Counts) (d d' : List ℕ) : Type 0 where
  pub fit : r.notes * note_width ≤ length d'
  pub kept : r.rows ≡ s.rows
  pub after : (b : List ℕ) (N D : ℕ) (st : State) → Held N D st s b d → Held N D (f N D st) r b d'

-- and on the rows alone
pub record Rows (f : Sized) (s r : Counts) (b b' : List ℕ) : Type 0 where
  pub fit : r.rows * width ≤ length b'
  pub kept : r.notes ≡ s.notes
  pub after : (d : List ℕ) (N D : ℕ) (st : State) → Held N D st s b d → Held N D (f N D st) r b' d

-- and on neither
pub record Counted (f : Sized) (s r : Counts) : Type 0 where
  pub rows_kept : r.rows ≡ s.rows
  pub notes_kept : r.notes ≡ s.notes
  pub after : (b d : List ℕ) (N D : ℕ) (st : State) → Held N D st s b d → Held N D (f N D st) r b d

-- the steps of State, in buffers of so many words
unfoldable pub changing : (List Row → List Row) → Sized
changing f N D = change (some N) f

-- a row entered
unfoldable pub entering : Row → Sized
entering row N D = enter (some N) row

-- a diagnostic pushed
unfoldable pub pushing : Row → Sized
pushing note N D = push (some D) note

-- one pushed where a test holds
unfoldable pub noting : Bool → Row → Sized
noting t note N D = when t (push (some D) note)

-- the counts after rows were put in, after a diagnostic was
abbrev pub rows_put : Counts → Option ℕ → Counts
rows_put s None = record { stop = 7; rows = s.rows; notes = s.notes }
rows_put s (Some n) = record { stop = 0; rows = n; notes = s.notes }

-- the same of a diagnostic: 8 where it had no room
abbrev pub notes_put : Counts → Option ℕ → Counts
notes_put s None = record { stop = 8; rows = s.rows; notes = s.notes }
notes_put s (Some n) = record { stop = 0; rows = s.rows; notes = n }

-- ---- what is left of a run at its end, in buffers of N and D words: rows and diagnostics with zeros after them; a stopped run leaves only zeros

-- the number that stopped it, or how many rows and diagnostics there are
unfoldable pub counts_of : State → Counts
counts_of (running rows notes) = record { stop = 0; rows = length rows; notes = length notes }
counts_of (stopped k) = record { stop = k; rows = 0; notes = 0 }

-- the rows' buffer
unfoldable pub rows_left : ℕ → State → List ℕ
rows_left N (running rows notes) = image width N rows
rows_left N (stopped k) = zeros N

-- the diagnostics' buffer
unfoldable pub notes_left : ℕ → State → List ℕ
notes_left D (running rows notes) = image note_width D notes
notes_left D (stopped k) = zeros D

-- the answer and both buffers are so
pub record Left (N D : ℕ) (st : State) (r : Counts) (b d : List ℕ) : Type 0 where
  pub answer : r ≡ counts_of st
  pub rows : b ≡ rows_left N st
  pub notes : d ≡ notes_left D st
