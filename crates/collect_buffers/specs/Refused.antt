-- The numbers that stop a run on the two lent buffers, and the refusals that tell them. Definitions only.
use Rattle.std.specs.Prelude.{ℕ, Bool, ◌||◌, ◌≡◌, eqb}
use Rattle.base_words.specs.Refusals.{number_of, place_of}
use Rattle.base_words.specs.declared.Refusal.{Refusal}

-- the numbers that leave rows and diagnostics zero; all others leave them as they came
unfoldable pub zeroing : ℕ → Bool
zeroing n = eqb n 7 || (eqb n 8 || eqb n 9)

-- the refusal of a stopped run
pub record Numbered (stop : ℕ) (f : Refusal) : Type 0 where
  pub number : number_of f ≡ stop
  pub place : place_of f ≡ 0
