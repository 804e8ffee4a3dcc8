-- Numbers 2 and 3, or an expression that was read. Assumes nothing.
use Rattle.entry_const_eval.proofs.Laws.{tells_as, was_read, misread_is}
use Rattle.entry_const_eval.proofs.eval_at.Goals as goal

pub under-requires : goal.under-requires
under-requires c = (was_read c.args.source.now.names.now c.args.source.now.words.now c.args.at c.args.rows.now (rw (c.marks.ensures.0, c.marks.ensures.1) at c.expr.ensures) c.in-Ok.is, c.requires)

pub returns-in-Err : goal.returns-in-Err
returns-in-Err c = tells_as (rw c.from.ensures at c.refused.ensures) (misread_is c.args.source.now.names.now c.args.source.now.words.now c.args.at c.args.rows.now c.in-Err.misread (rw (c.marks.ensures.0, c.marks.ensures.1) at c.expr.ensures) c.in-Err.is)
