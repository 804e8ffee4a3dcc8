-- A lent table: rows that are right by themselves, strictly rising, and zeros after them. `Lent` says what it is; `checked` decides it row by row, and
-- `LentLaws` shows that it says yes to exactly the lent tables. These are definitions.
use Rattle.std.specs.Prelude.{◌≡◌, Bool, true, false, List, [], ◌∷◌, ℕ, zero, suc, ◌/◌, leb, eqb, length, take, drop, get_or, Option, None, Some}
use Rattle.base_words.specs.Word.{pick}
use Rattle.base_words.specs.Told.{Told, gives}
use Rattle.base_words.specs.Refusals.{refused}
use Rattle.base_words.specs.declared.Refusal.TheVariants.{Rows as RowsRefused}
use Rattle.base_words.specs.Each.{Each}
use Rattle.rows_table.specs.Rows.{width, Row, key, rows_of, Holds}
use Rattle.rows_lent.specs.Rules.{row_ok}

-- each row is right by itself
abbrev pub AllOk : (names : List ℕ) → List Row → Type 0
AllOk names rows = Each (λ r. row_ok names r ≡ true) rows

-- the buffer is the image of these n rows, which rise and are right by themselves
pub record Lent (names : List ℕ) (rows : List Row) (n : ℕ) (buf : List ℕ) : Type 0 where
  pub holds : Holds rows n buf
  pub ok : AllOk names rows

-- each word is 0
unfoldable pub all_zero : List ℕ → Bool
all_zero [] = true
all_zero (x ∷ xs) = pick (eqb x 0) (all_zero xs) false

-- n rows, if what is left is zeros
unfoldable pub ended_at : ℕ → List ℕ → Option ℕ
ended_at n rest = pick (all_zero rest) (Some n) None

-- after n rows that are right and rise, with room for f more: the next key is to be at least lo
unfoldable pub scan : (names : List ℕ) (f lo n : ℕ) → List ℕ → Option ℕ
scan names zero lo n b = ended_at n b
scan names (suc f) lo n b =
    pick (eqb (get_or b 0 0) 0) (ended_at n b) (
    pick (row_ok names (take width b)) (
    pick (leb lo (key (take width b))) (scan names f (suc (key (take width b))) (suc n) (drop width b)) None) None)

-- the whole buffer
unfoldable pub checked : (names : List ℕ) → List ℕ → Option ℕ
checked names b = scan names (length b / width) 1 0 b

-- the rows of a lent table
abbrev pub told : List ℕ → Option ℕ → Told (List Row)
told b None = refused RowsRefused
told b (Some n) = gives (rows_of n b)

-- number 6, or the rows
unfoldable pub lent_rows : (names : List ℕ) → List ℕ → Told (List Row)
lent_rows names b = told b (checked names b)
