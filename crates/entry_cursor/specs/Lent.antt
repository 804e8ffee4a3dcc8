-- What a thin function on a lent cursor promises: the answer, and the place where it leaves the cursor.
use Rattle.std.specs.Prelude.{ℕ, ◌≡◌, List, Result}
use Rattle.base_words.specs.Told.{Told}
use Rattle.base_strings.specs.Table.{names_of}
use Rattle.base_strings.specs.Open.{Answers}
use Rattle.entry_read.specs.Sized.{sized_tree}
use Rattle.entry_read.specs.Reading.{told, moved_of}
use Rattle.entry_read.specs.declared.Node.{Node}
use Rattle.base_words.specs.declared.Refusal.{Refusal}

-- `of` is `statement_of` or `expression_of`: the very definition that the by-value entry is proved against
abbrev pub Reads : (of : List ℕ → List ℕ → ℕ → Told Node) (bytes ends words : List ℕ) (at : ℕ) → Result Node Refusal → ℕ → Type 0
Reads of bytes ends words at r after = Answers (sized_tree bytes ends words) bytes ends (told r) (of (names_of bytes ends) words at) × (after ≡ moved_of at (told r))

-- where a cursor that stood at a place is left, whatever the answer was
pub record Past (of : List ℕ → List ℕ → ℕ → Told Node) (bytes ends words : List ℕ) (at after : ℕ) : Type 0 where
  pub answer : Result Node Refusal
  pub reads : Reads of bytes ends words at answer after
