-- `shift_down` is one `copy_within`, for one row in the words from `from` up to `to`. Assumes nothing.
use Rattle.std.proofs.Common.{◌∙◌, ◌+◌, ◌-◌, arith}
use Rattle.rows_table.specs.Rows.{width}
use Rattle.rows_table.proofs.Moves.{moved, down_part}
use Rattle.rows_table.proofs.shift_down.Goals as goal

pub returns-then-w-eq-WIDTH : goal.returns-then-w-eq-WIDTH
returns-then-w-eq-WIDTH c =
    rw c.if-w-eq-WIDTH.true (down_part c.args.b.now c.copy_within.new.self c.args.from c.args.to width (rw c.if-w-eq-WIDTH.true at c.requires.0) c.requires.1 c.copy_within.ensures.after)

pub returns-else-w-eq-WIDTH : goal.returns-else-w-eq-WIDTH
returns-else-w-eq-WIDTH c =
    c.copy_within-else-w-eq-WIDTH.ensures.after ∙ moved c.args.b.now (c.args.from + c.args.w) c.args.to c.args.from (c.args.to - c.args.w) c.requires.0 (omega arith)
