-- A name is a builtin's where the table answers its arguments. Assumes nothing.
use mathlib.Core.Path.{◌∙◌}
use Rattle.base_strings.specs.Table.{string_at}
use Rattle.entry_collisions.proofs.Laws.{knows}
use Rattle.entry_collisions.proofs.is_builtin.Goals as goal

pub spelled-requires : goal.spelled-requires
spelled-requires c = c.requires

pub returns : goal.returns
returns c = c.is_some.ensures ∙ knows (string_at c.args.strings.now.bytes.now c.args.strings.now.ends.now c.args.name) c.spelled.ensures
