-- Document 01's words for what folding answers: a constant's literal kind and its 64 bits, or the code of the diagnostic. Definitions only.
use Rattle.std.specs.Prelude.{ℕ, Ok, Err}
use Rattle.fold_values.specs.Value.{literal_kind, low_of, high_of, Fold}
use Rattle.fold_values.specs.declared.Unfolded.TheVariants.{Overflow, NotConstant}

-- a constant, or a code
pub data Outcome : Type 0 where
  -- words 2, 3 and 4 of a CONST row: literal kind 24 to 28, the 64-bit value or a string's number
  constant : (kind low high : ℕ) → Outcome
  -- 11 overflow, 12 not constant
  code : ℕ → Outcome

-- the words of what folding answers
unfoldable pub outcome_of : Fold → Outcome
outcome_of (Ok v) = constant (literal_kind v) (low_of v) (high_of v)
outcome_of (Err Overflow) = code 11
outcome_of (Err NotConstant) = code 12
