-- The first number stays. Assumes nothing.
use Rattle.collect_buffers.proofs.Laws.{stop_again, stop_now}
use Rattle.collect_buffers.proofs.stop.Goals as goal

pub returns-then-s-ne0 : goal.returns-then-s-ne0
returns-then-s-ne0 c =
    let k = c in
    let a = k.args in
    stop_again a.s a.number c.if-s-ne0.true

pub returns : goal.returns
returns c =
    let k = c in
    let a = k.args in
    stop_now a.s a.number c.if-s-ne0.false k.requires
