-- The text of an answer (document 01, "The listing program and the compiler's entry"). These are definitions.
use Rattle.std.specs.Prelude.{ℕ, get_or}
use mathlib.Core.List.{List, ◌∷◌, ◌++◌, flat_map}
use Rattle.base_text.specs.Text.{ascii, hex8, decimal}
use Rattle.list_message.specs.Message.{lines}
use Rattle.list_message.specs.declared.Diag.{Diag}
use Rattle.rows_table.specs.Rows.{Row}

-- a word's digits, after a blank (32)
unfoldable pub word : ℕ → List ℕ
word w = 32 ∷ hex8 w

-- a letter, some words, and the line's end
unfoldable pub line : ℕ → List ℕ → List ℕ
line letter ws = letter ∷ (flat_map word ws ++ ascii "\n")

-- the words of a diagnostic
unfoldable pub diag_of : Row → Diag
diag_of r = record {
  code = get_or r 0 0;
  line = get_or r 1 0;
  first = get_or r 2 0;
  second = get_or r 3 0;
  number = get_or r 4 0;
  note = get_or r 5 0;
}

-- the lines of the diagnostics (`notes`), a T line for each row, and the R line of the resolved words: 84 is T, 82 is R
unfoldable pub page : (bytes ends : List ℕ) → (notes rows : List Row) → (words : List ℕ) → List ℕ
page bytes ends notes rows words = flat_map (λ r. lines bytes ends (diag_of r)) notes ++ (flat_map (line 84) rows ++ line 82 words)

-- the one line of a refusal
unfoldable pub refusal : ℕ → List ℕ
refusal n = ascii "E " ++ (decimal n ++ ascii "\n")
