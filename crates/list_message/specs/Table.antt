-- The templates as the program writes them, a note on a line of its own. These are definitions.
use Rattle.std.specs.Prelude.{ℕ, List, ◌++◌, map}
use Rattle.base_text.specs.Text.{ascii}
use Rattle.list_message.specs.Message.{Template, error, error_with_note, templates}

-- a template in one run
unfoldable pub run : Template → List ℕ
run (error m) = ascii m
run (error_with_note m n) = ascii m ++ (ascii "\nN " ++ ascii n)

-- all templates
unfoldable pub table : List (List ℕ)
table = map run templates
