-- `start`: 0 for the first string, else the end before it. Assumes nothing.
use Rattle.std.proofs.Common.{sym, arith}
use Rattle.base_strings.proofs.Laws.{start_zero, start_suc}
use Rattle.base_strings.proofs.start.Goals as goal

pub returns-then-i-eq0 : goal.returns-then-i-eq0
returns-then-i-eq0 c = sym (start_zero _ _ c.if-i-eq0.true)

pub returns-else-i-eq0 : goal.returns-else-i-eq0
returns-else-i-eq0 c = sym (start_suc _ _ (omega arith))
