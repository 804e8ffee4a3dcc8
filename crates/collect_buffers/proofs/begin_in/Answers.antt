-- Zeros hold no rows and no diagnostics; other buffers are cleared. Assumes nothing.
use Rattle.collect_buffers.proofs.Laws.{fresh_held}
use Rattle.collect_buffers.proofs.begin_in.Goals as goal

pub returns-then-fresh : goal.returns-then-fresh
returns-then-fresh c = fresh_held _ c.if-fresh.true c.requires
