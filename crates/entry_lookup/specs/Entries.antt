-- What the entries' answers tell: document 01's number and place where a call stops, else what it gives. These are definitions.
use Rattle.std.specs.Prelude.{Bool, true, List, ◌≡◌, ℕ, ◌≤◌, ◌<◌, length, Option as RustOption, Result, Err, Ok}
use Rattle.std.proofs.Math.Option.{Option}
use Rattle.base_words.specs.Sizes.{max_strings}
use Rattle.base_words.specs.Told.{Told, gives}
use Rattle.base_words.specs.Refusals.{refused}
use Rattle.base_strings.specs.Table.{sound, names_of}
use Rattle.rows_table.specs.Rows.{Row, rows_of}
use Rattle.rows_table.specs.Answers.{HeldIn}
use Rattle.rows_table.specs.declared.rows.Rows.{Rows}
use Rattle.rows_lookup.specs.Lookup.{TypeRef, ArrayInfo}
use Rattle.rows_lookup.specs.Answers.{typed, array, class}
use Rattle.entry_lookup.specs.Leaves.{admits}
use Rattle.entry_lookup.specs.declared.Question.{Question}
use Rattle.entry_lookup.specs.declared.Question.TheVariants.{InProc, InScope, OfType}
use Rattle.base_builtins.specs.declared.Arguments.{Arguments}
use Rattle.base_words.specs.declared.Refusal.{Refusal}
use Rattle.rows_lookup.specs.declared.Typed.{Typed}
use Rattle.rows_lookup.specs.declared.Array.{Array}

-- what a call that may be refused tells: its value is read by f
abbrev pub tell : {A B : Type 0} → (A → B) → Result A Refusal → Told B
tell f (Err r) = refused r
tell f (Ok a) = gives (f a)

-- yes or no
abbrev pub tell_flag : Result Bool Refusal → Told Bool
tell_flag = tell (λ x. x)

-- a number
abbrev pub tell_count : Result ℕ Refusal → Told ℕ
tell_count = tell (λ x. x)

-- a type, or none
abbrev pub tell_type : Result (RustOption Typed) Refusal → Told (Option TypeRef)
tell_type = tell typed

-- an array, or none
abbrev pub tell_array : Result (RustOption Array) Refusal → Told (Option ArrayInfo)
tell_array = tell array

-- a class, or none
abbrev pub tell_class : Result (RustOption ℕ) Refusal → Told (Option ℕ)
tell_class = tell class

-- a builtin's arguments
abbrev pub tell_taking : Result (RustOption Arguments) Refusal → Told (RustOption Arguments)
tell_taking = tell (λ x. x)

-- what is behind the checks: the rows of the lent table
abbrev pub tell_rows : Result Rows Refusal → Told (List Row)
tell_rows = tell (λ held. rows_of held.count held.words.now)

-- numbers that the functions of `rows_lookup` take
abbrev pub Small : Question → Type 0
Small (InProc proc name) = (proc < 16777216) × (name < 16777216)
Small (InScope scope name) = (scope ≤ 16777216) × (name < 16777216)
Small (OfType head arg) = arg < 16777216

-- what rows that passed are known to be: the lent words, which hold their rows
pub record Passing (names rows : List ℕ) (q : Question) (held : Rows) : Type 0 where
  pub lent : held.words.now ≡ rows
  pub holds : HeldIn (rows_of held.count held.words.now) held
  pub admitted : admits names q ≡ true

-- where the table passed, it is known to be so
abbrev pub Judged : (names rows : List ℕ) → Question → Result Rows Refusal → Type 0
Judged names rows q (Err f) = Unit {0}
Judged names rows q (Ok held) = Passing names rows q held

-- and behind all checks
pub record Known (bytes ends rows : List ℕ) (q : Question) (held : Rows) : Type 0 where
  pub passing : Passing (names_of bytes ends) rows q held
  pub right : sound bytes ends ≡ true
  pub small : Small q

-- where it passed, all this is known
abbrev pub Ready : (bytes ends rows : List ℕ) → Question → Result Rows Refusal → Type 0
Ready bytes ends rows q (Err f) = Unit {0}
Ready bytes ends rows q (Ok held) = Known bytes ends rows q held

-- the sizes and the string table
abbrev pub tell_gate : Result (Unit {0}) Refusal → Told (Unit {0})
tell_gate = tell (λ x. x)

-- what is known where they passed
abbrev pub Passes : (bytes ends : List ℕ) → Result (Unit {0}) Refusal → Type 0
Passes bytes ends (Err f) = Unit {0}
Passes bytes ends (Ok tt) = (sound bytes ends ≡ true) × (length ends ≤ max_strings)
