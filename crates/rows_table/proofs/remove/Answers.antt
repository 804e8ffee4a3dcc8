-- `remove` closes the gap between the places of lo and hi, and clears the end. Assumes nothing.
use Rattle.rows_table.specs.Buffers.{removed_none, removed}
use Rattle.rows_table.proofs.remove.Goals as goal

pub returns-then-q-p-clause-after : goal.returns-then-q-p-clause-after
returns-then-q-p-clause-after c = λ rows H.
    let a = c.args in
    removed_none rows a.count a.b.now H a.lo a.hi c.lower_bound-p.result c.lower_bound-q.result c.requires.1
    (c.lower_bound-p.ensures.ranked rows H) (c.lower_bound-q.ensures.ranked rows H) c.if-q-p.true

pub returns-clause-after : goal.returns-clause-after
returns-clause-after c = λ rows H.
    let a = c.args in
    removed rows a.count a.b.now H a.lo a.hi c.lower_bound-p.result c.lower_bound-q.result c.requires.1
    (c.lower_bound-p.ensures.ranked rows H) (c.lower_bound-q.ensures.ranked rows H)
    c.shift_down.new.b c.clear.new.b
    c.shift_down.ensures c.clear.ensures
