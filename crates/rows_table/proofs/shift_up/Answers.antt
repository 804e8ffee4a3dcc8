-- `shift_up` is one `copy_within` in the words from `from` on. Assumes nothing.
use Rattle.rows_table.proofs.Moves.{up_part}
use Rattle.rows_table.specs.Rows.{width}
use Rattle.rows_table.proofs.shift_up.Goals as goal

pub returns : goal.returns
returns c = up_part c.args.b.now c.copy_within.new.self c.args.from c.args.to width c.requires.0 c.requires.1 c.copy_within.ensures.after
