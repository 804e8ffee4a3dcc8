-- The pieces that the code makes a message of: what each stands for, and the template that they make. These are definitions.
use Rattle.std.specs.Prelude.{ℕ, Bool, true, false, not, ◌||◌, List, [], ◌∷◌, ◌≡◌, map, eqb}
use Rattle.std.proofs.Common.{Bor}
use Rattle.std.specs.List.{list_all}
use mathlib.Core.List.{flat_map}
use Rattle.base_text.specs.Text.{decimal}
use Rattle.list_message.specs.declared.Diag.{Diag}
use Rattle.list_message.specs.declared.Piece.{Piece}
use Rattle.list_message.specs.declared.Piece.TheVariants.{Text, First, Second, Number, Plural, Scope, Procedure, NoteLine}
use Rattle.list_message.specs.Message.{name, either}
use Rattle.list_message.specs.Table.{table}

-- whether one of the bytes is a mark
unfoldable pub marks : List ℕ → Bool
marks [] = false
marks (b ∷ bs) = eqb b 64 || (eqb b 38 || (eqb b 35 || (eqb b 37 || (eqb b 36 || (eqb b 33 || (eqb b 94 || marks bs))))))

-- what a piece stands for
abbrev pub shown : List ℕ → List ℕ → Diag → Piece → List ℕ
shown bytes ends d (Text t) = t.now
shown bytes ends d First = name bytes ends d.first
shown bytes ends d Second = name bytes ends d.second
shown bytes ends d Number = decimal d.number
shown bytes ends d Plural = either "" "s" d.number
shown bytes ends d Scope = either "STATIC" "SHARED" d.number
shown bytes ends d Procedure = either "FUNCTION" "SUB" d.number
shown bytes ends d NoteLine = decimal d.note

-- a piece as a template has it: its mark
abbrev pub mark : Piece → List ℕ
mark (Text t) = t.now
mark First = 64 ∷ []
mark Second = 38 ∷ []
mark Number = 35 ∷ []
mark Plural = 37 ∷ []
mark Scope = 36 ∷ []
mark Procedure = 33 ∷ []
mark NoteLine = 94 ∷ []

-- text without a mark
abbrev pub plain : Piece → Bool
plain (Text t) = not (marks t.now)
plain First = true
plain Second = true
plain Number = true
plain Plural = true
plain Scope = true
plain Procedure = true
plain NoteLine = true

-- the template that pieces make
unfoldable pub template : List Piece → List ℕ
template ps = flat_map mark ps

-- the pieces make the templates, and their texts have no mark
abbrev pub Messages : List (Bor (List Piece)) → Type 0
Messages ms = (map (λ m. template m.now) ms ≡ table) × (list_all (λ m. list_all plain m.now) ms ≡ true)
