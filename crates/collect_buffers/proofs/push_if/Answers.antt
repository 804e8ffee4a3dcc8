-- A diagnostic under a test. Assumes nothing.
use Rattle.collect_buffers.proofs.Laws.{no_note, noting_is}
use Rattle.collect_buffers.proofs.push_if.Goals as goal

pub returns-then-yes : goal.returns-then-yes
returns-then-yes c = noting_is _ _ c.if-yes.true c.push.ensures

pub returns-else-yes : goal.returns-else-yes
returns-else-yes c = no_note c.args.s c.args.d.now _ c.requires _ c.if-yes.false
