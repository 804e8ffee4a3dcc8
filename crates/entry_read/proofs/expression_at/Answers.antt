-- `expression_at` by `passed`: the node that was read, or the refusal of what was wrong. Assumes nothing.
use Rattle.std.proofs.Common.{◌∙◌}
use Rattle.entry_read.specs.Reading.{expression_of}
use Rattle.entry_read.proofs.Laws.{node_is}
use Rattle.entry_read.proofs.expression_at.Goals as goal

pub returns : goal.returns
unfolding expression_of
returns c = c.passed.ensures ∙ node_is c.args.source.now.words.now c.args.at _ (rw (c.marks.ensures.0, c.marks.ensures.1) at c.expr-past.ensures)
