-- Rows taken out: once stopped nothing is done; else what is left fits. Assumes nothing.
use Rattle.collect_buffers.proofs.Laws.{stopped_change, remove_change}
use Rattle.collect_buffers.proofs.remove_under.Goals as goal

pub returns-then-s-ne0 : goal.returns-then-s-ne0
returns-then-s-ne0 c =
    let k = c in
    let a = k.args in
    stopped_change a.s a.b.now _ k.requires.0 c.if-s-ne0.true

pub returns : goal.returns
returns c =
    let k = c in
    let a = k.args in
    let e = c.remove-n in
    let lo = c.entry_key-lo.ensures in
    let hi = c.entry_key-hi.ensures in
    rw (lo, hi) at (remove_change a.s a.b.now _ _ c.if-s-ne0.false e.new.b e.auto.b e.result k.requires.0 e.ensures.fewer e.ensures.after)
