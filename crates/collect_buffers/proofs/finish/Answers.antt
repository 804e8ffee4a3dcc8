-- A run that goes on leaves what it holds, its rows in order; a stopped one leaves zeros, which `rows_table::empty` writes. Assumes nothing.
use mathlib.Core.Path.{ap, ◌∙◌}
use Rattle.rows_table.specs.Rows.{zeros}
use Rattle.collect_buffers.proofs.Laws.{left_running, left_stopped}
use Rattle.collect_buffers.proofs.finish.Goals as goal

pub returns-then-s-eq0 : goal.returns-then-s-eq0
returns-then-s-eq0 c = λ N D st H. left_running st H c.if-s-eq0.true c.settle.ensures

pub returns : goal.returns
returns c = λ N D st H. left_stopped st H c.if-s-eq0.false _ _ (c.empty.ensures.0 ∙ ap zeros c.settle.ensures.long) c.empty-2.ensures.0
