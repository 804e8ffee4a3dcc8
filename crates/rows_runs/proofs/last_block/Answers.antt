-- `last_block` has no row for fewer than 32, and else the whole blocks. Assumes nothing.
use Rattle.std.proofs.Common.{rules, inl, inr, arith}
use Rattle.rows_runs.proofs.last_block.Goals as goal

pub returns-then-count-lt32 : goal.returns-then-count-lt32
returns-then-count-lt32 c = (search rules, inl c.if-count-lt32.true)

pub returns-else-count-lt32 : goal.returns-else-count-lt32
returns-else-count-lt32 c = (search rules, inr (omega arith))
