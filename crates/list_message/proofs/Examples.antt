-- Worked lines: the order of two names, a plural and a singular, a word that the number picks, a note with a line and one without.
use mathlib.Core.Path.{◌≡◌, refl}
use mathlib.Core.List.{[], ◌∷◌}
use Rattle.base_text.specs.Text.{ascii, digit, digits, decimal}
use Rattle.list_message.specs.Message.{templates, name, either, piece, render, message_line, note_line, said, lines}

-- the field before its TYPE
two_names : lines (ascii "AFB") (1 ∷ 3 ∷ []) (record { code = 5; line = 20; first = 2; second = 1; number = 0; note = 0 }) ≡ ascii "D 20 field 'FB' is declared twice in TYPE 'A'\n"
unfolding lines said message_line render piece name either templates decimal digits digit ascii
two_names = refl

none : lines (ascii "A") (1 ∷ []) (record { code = 20; line = 7; first = 1; second = 0; number = 0; note = 0 }) ≡ ascii "D 7 REDIM PRESERVE of 'A' must keep its 0 dimensions; only the last one's upper bound may change\n"
unfolding lines said message_line render piece name either templates decimal digits digit ascii
none = refl

one : lines (ascii "A") (1 ∷ []) (record { code = 21; line = 7; first = 1; second = 0; number = 1; note = 0 }) ≡ ascii "D 7 REDIM of 'A' must keep its 1 dimension\n"
unfolding lines said message_line render piece name either templates decimal digits digit ascii
one = refl

static : lines [] [] (record { code = 13; line = 0; first = 0; second = 0; number = 1; note = 0 }) ≡ ascii "D 0 STATIC belongs inside a SUB or FUNCTION\n"
unfolding lines said message_line render piece name either templates decimal digits digit ascii
static = refl

-- a note whose line is 0 is a note all the same
note_of_line_0 : lines (ascii "A") (1 ∷ []) (record { code = 25; line = 16777215; first = 1; second = 0; number = 0; note = 0 }) ≡ ascii "D 16777215 'A' is already defined\nN previous definition is on line 0\n"
unfolding lines said message_line note_line render piece name either templates decimal digits digit ascii
note_of_line_0 = refl

note_without_line : lines (ascii "FX$") (1 ∷ 3 ∷ []) (record { code = 22; line = 9; first = 2; second = 1; number = 12; note = 0 }) ≡ ascii "D 9 parameter 'X$' of 'F' is declared AS STRING * 12, but a parameter must be a variable-length string\nN declare it X$ AS STRING\n"
unfolding lines said message_line note_line render piece name either templates decimal digits digit ascii
note_without_line = refl

the_procedure : lines (ascii "A") (1 ∷ []) (record { code = 27; line = 7; first = 1; second = 0; number = 1; note = 4 }) ≡ ascii "D 7 'A' is declared both as an array and as a FUNCTION\nN the FUNCTION is on line 4\n"
unfolding lines said message_line note_line render piece name either templates decimal digits digit ascii
the_procedure = refl
