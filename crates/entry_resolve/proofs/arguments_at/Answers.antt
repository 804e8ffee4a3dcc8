-- Numbers 2 and 3, or a list that was read. Assumes nothing.
use lib.ListN.{length}
use Rattle.entry_read.specs.Answered.{answer_read}
use Rattle.std.proofs.lemmas.Result.{err_from_is_err_and}
use Rattle.entry_resolve.proofs.Laws.{stopped, args_misread}
use Rattle.entry_resolve.proofs.arguments_at.Goals as goal

pub arguments-requires : goal.arguments-requires
arguments-requires c = answer_read _ (rw (c.marks.ensures.0, c.marks.ensures.1) at c.list.ensures) c.in_ok-past.was

pub returns-in_err-past : goal.returns-in_err-past
returns-in_err-past c = let p = err_from_is_err_and c.from_residual.result c.from_residual.ensures.1 in rw (p.1, p.2) (stopped _ _ (args_misread c.args.source.now.names.now c.args.source.now.words.now c.args.rows.now (length c.args.out.now) c.args.scope c.args.name c.args.at (rw (c.marks.ensures.0, c.marks.ensures.1) at c.list.ensures) c.in_err-past.was))
