-- 7, 8 and 9 as refusals: no other number stops a run. Assumes nothing.
use Rattle.std.proofs.Common.{arith}
use Rattle.collect_buffers.proofs.Laws.{last_number}
use Rattle.collect_buffers.proofs.refusal.Goals as goal

pub returns-in_default : goal.returns-in_default
returns-in_default c = last_number c.args.stop c.requires (λ e. omega arith) (λ e. omega arith)
