-- What the code answers of what the definition gives: the tree is left out.
use Rattle.std.specs.Prelude.{ℕ, Result, Ok, Err}
use Rattle.tree_expr.specs.Got.{Got, got, wrong, deep}
use Rattle.base_words.specs.declared.Refusal.{Refusal}
use Rattle.base_words.specs.declared.Refusal.TheVariants.{Word, Depth}
use Rattle.tree_expr.specs.declared.Cursor.{Cursor}
use Rattle.tree_expr.specs.declared.Misread.{Misread}
use Rattle.tree_expr.specs.declared.Misread.TheVariants.{Wrong, Deep}

-- the place past one node, or why there is none
abbrev pub Step : Type 0
Step = Result Cursor Misread

-- the refusal of a tree that could not be read
abbrev pub refusal_of : Misread → Refusal
refusal_of (Wrong p) = Word p
refusal_of (Deep p) = Depth p

-- the answer to a reading: read up to a place, wrong or too deep at one
unfoldable pub step_of : {A : Type 0} → Got A → Step
step_of (got a m) = Ok (record { at = m })
step_of (wrong p) = Err (Wrong p)
step_of (deep p) = Err (Deep p)

-- one answer after another
unfoldable pub then : Step → (ℕ → Step) → Step
then (Ok c) f = f c.at
then (Err (Wrong p)) f = Err (Wrong p)
then (Err (Deep p)) f = Err (Deep p)
