-- What the checks of an entry that collects leave to its run: the strings' marks, and the program. Definitions only.
use Rattle.std.specs.Prelude.{ℕ, ◌≤◌, ◌≡◌, List, length}
use Rattle.tree_stmt.specs.Tree.{Program}
use Rattle.base_words.specs.Sizes.{max_strings}
use Rattle.base_words.specs.Told.{gives}
use Rattle.base_strings.specs.Table.{names_of}
use Rattle.entry_read.specs.Program.{accepted_of}
use Rattle.collect_definition.specs.Code.{Named}

-- the checks passed, and this is the program
pub record Passed (bytes ends erased ws marks : List ℕ) : Type 0 where
  pub named : Named bytes ends marks
  pub few : length marks ≤ max_strings
  pub program : Program
  pub accepted : accepted_of (names_of bytes ends) ws erased ≡ gives program
