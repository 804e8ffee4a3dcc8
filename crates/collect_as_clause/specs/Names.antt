-- Which numbers are names', by the marks of the strings. Assumes nothing.
use Rattle.std.specs.Prelude.{ℕ, ◌≡◌, true, List, eqb, get_or}
use Rattle.std.proofs.Common.{subst}
use Rattle.collect_definition.specs.Code.{Named}
use Rattle.collect_as_clause.specs.Parts.{NameAt}

-- a number that is marked is a name's
pub name_at_lem : {bytes ends marks : List ℕ} → Named bytes ends marks → (name : ℕ) → eqb (get_or marks name 0) 1 ≡ true → NameAt bytes ends name
name_at_lem N name e = record { strings = N.strings; marked = subst (λ (l : List ℕ). eqb (get_or l name 0) 1 ≡ true) N.names e }
