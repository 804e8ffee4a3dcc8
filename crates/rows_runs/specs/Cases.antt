-- The two cases of what `or_else` and `map_or` say of an `Option`. Assumes nothing.
use Rattle.std.specs.Prelude.{◌≡◌, refl, Option, Some, None}
use Rattle.std.specs.Option.{MatchOption}

-- what follows where there is no value, and where there is one
pub option_cases : {A P Q : Type 0} {R : A → Type 0} (o : Option A) → MatchOption o P R → (o ≡ None → P → Q) → ((x : A) → o ≡ Some x → R x → Q) → Q
option_cases None m n s = n refl m
option_cases (Some x) m n s = s x refl m
