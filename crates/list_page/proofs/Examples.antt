-- A worked page: a diagnostic, a row and two resolved words; and a refusal.
use mathlib.Core.Path.{◌≡◌, refl}
use mathlib.Core.List.{[], ◌∷◌, flat_map}
use Rattle.base_text.specs.Text.{ascii, digit, hex8, digits, decimal}
use Rattle.list_message.specs.Message.{templates, name, either, piece, render, message_line, note_line, said, lines}
use Rattle.list_page.specs.Page.{word, line, diag_of, page, refusal}

shown : page (ascii "A") (1 ∷ []) ((2 ∷ 9 ∷ 1 ∷ 0 ∷ 0 ∷ 0 ∷ []) ∷ []) ((0x81000000 ∷ 0 ∷ 0 ∷ 0 ∷ 0 ∷ 0 ∷ []) ∷ []) (0x01000000 ∷ 0x1f00beef ∷ [])
    ≡ ascii "D 9 duplicate label 'A'\nT 81000000 00000000 00000000 00000000 00000000 00000000\nR 01000000 1f00beef\n"
unfolding flat_map page diag_of line word lines said message_line note_line render piece name either templates hex8 decimal digits digit ascii
shown = refl

-- the empty program
empty : page [] [] [] [] (0x01000000 ∷ []) ≡ ascii "R 01000000\n"
unfolding flat_map page line word hex8 digit ascii
empty = refl

refused : refusal 11 ≡ ascii "E 11\n"
unfolding refusal decimal digits digit ascii
refused = refl
