-- What document 01 says of a call: a number and a place that stop it, or what it gives.
use Rattle.std.specs.Prelude.{ℕ, Bool, true, false}

-- the number and the place that stopped a call, or what it gives
pub data Told (A : Type 0) : Type 0 where
  stops : (number place : ℕ) → Told A
  gives : A → Told A

-- one check or run after another: the first that stops decides (`after` of resolve_definition/specs/Tables.antt shifts positions)
unfoldable pub after : {A B : Type 0} → Told A → (A → Told B) → Told B
after (stops n p) k = stops n p
after (gives a) k = k a

-- stopped unless the test holds
unfoldable pub unless : {A : Type 0} → Bool → (number place : ℕ) → Told A → Told A
unless true n p t = t
unless false n p t = stops n p
