-- `split` compares keys at the ends of the last block; what they tell of the runs are laws of `Laws`. Assumes nothing.
use Rattle.std.proofs.Common.{arith}
use Rattle.rows_runs.specs.Laws.{parted_short, parted_order, parted_break, parted_never}
use Rattle.rows_runs.proofs.split.Goals.{then-m-le32-via-then-m-le32, then-m-le32-via-else-m-le32+then-key}
use Rattle.rows_runs.proofs.split.Goals as goal

pub returns-then-m-le32-clause-parted : goal.returns-then-m-le32-clause-parted
returns-then-m-le32-clause-parted c = λ rows K. elim c.then-m-le32.branch [
  | then-m-le32-via-then-m-le32 w ↦ parted_short K c.last_block-m.result c.last_block-m.ensures w.if-m-le32.true
  | then-m-le32-via-else-m-le32+then-key w ↦
      parted_order K c.last_block-m.result c.last_block-m.ensures w.key.result w.key-else-m-le32.result (omega (arith, w.if-m-le32.false)) w.key.ensures
      w.key-else-m-le32.ensures w.if-key.true
]

pub returns-then-key-2-clause-parted : goal.returns-then-key-2-clause-parted
returns-then-key-2-clause-parted c = λ rows K.
    parted_break K c.last_block-m.result c.last_block-m.ensures c.key.result c.key-else-m-le32.result (omega (arith, c.if-m-le32.false)) c.key.ensures
    c.key-else-m-le32.ensures c.if-key.false

pub returns-clause-parted : goal.returns-clause-parted
returns-clause-parted c = λ rows K.
    parted_never K c.last_block-m.result c.last_block-m.ensures c.key-2.result c.key-3.result (omega (arith, c.if-m-le32.false)) c.key-2.ensures c.key-3.ensures
    c.if-key-2.false
