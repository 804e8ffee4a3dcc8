-- `move_up` is one `copy_within`, and for one row `shift_up`. Assumes nothing.
use Rattle.std.proofs.Common.{◌∙◌, ◌+◌, arith}
use Rattle.rows_table.proofs.Moves.{moved}
use Rattle.rows_merge.proofs.move_up.Goals as goal

pub returns-then-w-eq-WIDTH : goal.returns-then-w-eq-WIDTH
returns-then-w-eq-WIDTH c = rw c.if-w-eq-WIDTH.true c.shift_up.ensures

pub returns-else-w-eq-WIDTH : goal.returns-else-w-eq-WIDTH
returns-else-w-eq-WIDTH c =
    let a = c.args in
    c.copy_within.ensures.after ∙ moved a.b.now a.from a.to (a.from + a.w) (a.to + a.w) c.requires.0 (omega arith)
