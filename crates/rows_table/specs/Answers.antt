-- What the functions over a table answer, and what they leave. These are definitions.
use Rattle.std.specs.Prelude.{◌≡◌, Bool, true, List, [], ◌∷◌, ◌++◌, ℕ, ◌+◌, ◌*◌, ◌≤◌, ◌<◌, leb, length, Option as RustOption, Some, None}
use Rattle.std.proofs.Math.Option.{Option, none, some}
use Rattle.base_words.specs.Word.{pick}
use Rattle.rows_table.specs.Rows.{Row, width, note_width, insert, remove, image, Holds}
use Rattle.rows_table.specs.declared.rows.Rows.{Rows}

-- the buffer's rows are these
abbrev pub HeldIn : List Row → Rows → Type 0
HeldIn rs rows = Holds rs rows.count rows.words.now

-- a row that was found, at i
abbrev pub found_at : ℕ → Option Row → RustOption ℕ
found_at i none = None
found_at i (some r) = Some i

-- what was found is one of n rows
abbrev pub Within : ℕ → RustOption ℕ → Type 0
Within n None = Unit {0}
Within n (Some i) = i < n

-- the rows of w words after fit n words
abbrev pub Fit : ℕ → ℕ → RustOption ℕ → Type 0
Fit w n None = Unit {0}
Fit w n (Some m) = m * w ≤ n

-- the rows have room in a buffer of n words
abbrev pub Fits : ℕ → List Row → Bool
Fits n rows = leb (length rows * width) n

-- one more row has
abbrev pub Room : ℕ → List Row → Row → Bool
Room n rows row = Fits n (insert row rows)

-- a row put into a buffer of n words: where there is no room, nothing changes
pub record Inserted (row : Row) (rows : List Row) (n : ℕ) (r : RustOption ℕ) (buf : List ℕ) : Type 0 where
  pub answer : r ≡ pick (Room n rows row) (Some (length (insert row rows))) None
  pub after : buf ≡ image width n (pick (Room n rows row) (insert row rows) rows)

-- rows taken out
pub record Removed (lo hi : ℕ) (rows : List Row) (n r : ℕ) (buf : List ℕ) : Type 0 where
  pub answer : r ≡ length (remove lo hi rows)
  pub after : buf ≡ image width n (remove lo hi rows)

-- one more diagnostic has room in n words
abbrev pub More : ℕ → List Row → Bool
More n notes = leb ((length notes + 1) * note_width) n

-- a diagnostic put after the last
pub record Pushed (note : Row) (notes : List Row) (n : ℕ) (r : RustOption ℕ) (buf : List ℕ) : Type 0 where
  pub answer : r ≡ pick (More n notes) (Some (length notes + 1)) None
  pub after : buf ≡ image note_width n (pick (More n notes) (notes ++ (note ∷ [])) notes)
