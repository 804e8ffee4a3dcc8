-- put_part: what fits of the part is copied, and all that `sets` writes of it is what fits (`part`).
use Rattle.std.proofs.Common.{◌-◌, take, drop, arith}
use Rattle.base_text.specs.Laws.{no_part, past, part}
use Rattle.base_text.proofs.put_part.Goals.{then-end-from-via-then-end-from, then-end-from-via-else-end-from+then-out-at}
use Rattle.base_text.proofs.put_part.Goals as goal

pub returns-then-end-from : goal.returns-then-end-from
returns-then-end-from c =
    let a = c.args in
    elim c.then-end-from.branch [
      | then-end-from-via-then-end-from w ↦ no_part a.s.now a.from a.to c.min-end.result w.if-end-from.true c.min-end.ensures
      | then-end-from-via-else-end-from+then-out-at w ↦ past (take (a.to - a.from) (drop a.from a.s.now)) w.if-out-at.true
    ]

pub returns-then-n-size : goal.returns-then-n-size
returns-then-n-size c = part c.args.s.now c.args.from c.args.to c.min-end.result c.min-n.result c.min-end.ensures c.if-end-from.false c.min-n.ensures c.copy.ensures (omega (arith, c.copy.auto.out, c.min-n.ensures, c.if-n-size.true, c.if-out-at.false))

pub returns-else-n-size : goal.returns-else-n-size
returns-else-n-size c = part c.args.s.now c.args.from c.args.to c.min-end.result c.min-n.result c.min-end.ensures c.if-end-from.false c.min-n.ensures c.copy.ensures (omega (arith, c.min-n.ensures, c.if-n-size.false, c.if-out-at.false))
