-- Number 1 and its place, the only open one: some string where the rule breaks.
use Rattle.std.specs.Prelude.{ℕ, Bool, true, false, ◌≡◌, List, Result, Ok, Err}
use Rattle.base_words.specs.Told.{Told, unless}
use Rattle.base_strings.specs.Table.{sound, breaks_at}
use Rattle.base_strings.specs.declared.Break.{Break}

-- for the other entries: what is said of the place, here alone
abbrev pub Place : List ℕ → List ℕ → ℕ → Type 0
Place bytes ends at = sound bytes ends ≡ false → breaks_at bytes ends at ≡ true

-- for contracts inside: the answer of `check`
unfoldable pub verdict_of : ℕ → Bool → Result (Unit {0}) Break
verdict_of at true = Ok tt
verdict_of at false = Err (record { string = at })

-- for contracts inside: what `check` says of a table
pub record Said (bytes ends : List ℕ) (v : Result (Unit {0}) Break) : Type 0 where
  pub at : ℕ
  pub place : Place bytes ends at
  pub is : v ≡ verdict_of at (sound bytes ends)

-- How every entry begins: 5 where something is over its size, then 1, whose place is `at`, then the rest of its checks and its work.
-- (`entry_of` of base_builtins/specs/Builtins.antt finds a builtin.)
unfoldable pub entry_of : {A : Type 0} → (sized : Bool) → (at : ℕ) → List ℕ → List ℕ → Told A → Told A
entry_of sized at bytes ends t = unless sized 5 0 (unless (sound bytes ends) 1 at t)

-- For the other entries. What an entry promises: it tells t, and behind the checks of sizes and strings that is u.
pub record Answers {A : Type 0} (sized : Bool) (bytes ends : List ℕ) (t u : Told A) : Type 0 where
  pub at : ℕ
  pub place : Place bytes ends at
  pub is : t ≡ entry_of sized at bytes ends u
