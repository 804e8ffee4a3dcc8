-- last_end: the last of the words read (`last_read`), 0 where there are none.
use Rattle.std.proofs.Common.{◌∙◌}
use Rattle.list_image.proofs.Laws.{last_none, last_read}
use Rattle.list_image.proofs.last_end.Goals as goal

pub returns-then-strings-eq0 : goal.returns-then-strings-eq0
returns-then-strings-eq0 c = last_none c.args.image.now c.args.strings c.if-strings-eq0.true

pub returns-else-strings-eq0 : goal.returns-else-strings-eq0
returns-else-strings-eq0 c = c.word.ensures ∙ last_read c.args.image.now c.args.strings c.if-strings-eq0.false
