-- What a writer leaves. These are definitions.
use Rattle.std.specs.Prelude.{ℕ, ◌+◌, min, ◌≡◌, List, ◌++◌, leb, length, drop, replicate}
use Rattle.std.proofs.lemmas.List.Edits.{sets}
use Rattle.base_words.specs.Word.{pick}

-- For contracts inside and proofs.
-- The text was written from `at` on, as much of it as fits: a store past the end is none. `next` is the place past it; all
-- places past the end are alike.
pub record Wrote (text before after : List ℕ) (at next : ℕ) : Type 0 where
  pub now : after ≡ sets before at text
  pub end : min next (length before + 1) ≡ min (at + length text) (length before + 1)

-- A text in a lent buffer: its length and its bytes, the rest as it was; or 0 and zeros where it doesn't fit.
unfoldable pub size : List ℕ → List ℕ → ℕ
size text buffer = pick (leb (length text) (length buffer)) (length text) 0

-- the bytes of the buffer afterwards
unfoldable pub laid : List ℕ → List ℕ → List ℕ
laid text buffer = pick (leb (length text) (length buffer)) (text ++ drop (length text) buffer) (replicate (length buffer) 0)
