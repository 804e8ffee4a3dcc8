-- Document 01's number and place for each cause ("What stops a call"), for the other entries and contracts inside, whose refusals are an enum.
use Rattle.std.specs.Prelude.{ℕ}
use Rattle.base_words.specs.Told.{Told, stops}
use Rattle.base_words.specs.declared.Refusal.{Refusal}
use Rattle.base_words.specs.declared.Refusal.TheVariants.{Size, Strings, Word, Depth, Erased, Rows, Lookup, Output, RowsFull, DiagnosticsFull, TypeWords}

-- (`number_of` of tree_stmt/specs/Sorts.antt is the place of a statement's kind)
abbrev pub number_of : Refusal → ℕ
number_of Size = 5
number_of (Strings p) = 1
number_of (Word p) = 2
number_of (Depth p) = 3
number_of Erased = 4
number_of Rows = 6
number_of Lookup = 11
number_of Output = 10
number_of RowsFull = 7
number_of DiagnosticsFull = 8
number_of TypeWords = 9

-- the place that goes with the number, 0 where the cause has none
abbrev pub place_of : Refusal → ℕ
place_of Size = 0
place_of (Strings p) = p
place_of (Word p) = p
place_of (Depth p) = p
place_of Erased = 0
place_of Rows = 0
place_of Lookup = 0
place_of Output = 0
place_of RowsFull = 0
place_of DiagnosticsFull = 0
place_of TypeWords = 0

-- a refusal as a call tells it: stopped, with its number and its place
unfoldable pub refused : {A : Type 0} → Refusal → Told A
refused r = stops (number_of r) (place_of r)
