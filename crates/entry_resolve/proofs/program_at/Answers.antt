-- Numbers 2 and 3, words over among them, or a whole tree. Assumes nothing.
use mathlib.Core.Path.{subst}
use lib.ListN.{length}
use Rattle.tree_stmt.specs.Reader.{program_at}
use Rattle.entry_read.specs.Answered.{ReadTo, answer_read}
use Rattle.std.proofs.lemmas.Result.{err_from_is_err_and}
use Rattle.entry_resolve.proofs.Laws.{stopped, all_over, all_misread}
use Rattle.entry_resolve.proofs.program_at.Goals as goal

pub returns-then-past-source : goal.returns-then-past-source
returns-then-past-source c = stopped _ _ (all_over c.args.source.now.names.now c.args.source.now.words.now c.args.rows.now (length c.args.out.now) (rw (c.marks.ensures.0, c.marks.ensures.1) at c.program.ensures) c.in_ok-past.was c.if-past-source.true)

pub program-requires-2 : goal.program-requires-2
program-requires-2 c = subst (λ k. ReadTo (program_at c.args.source.now.words.now c.args.source.now.names.now (length c.args.source.now.names.now)) k) c.if-past-source.false (answer_read _ (rw (c.marks.ensures.0, c.marks.ensures.1) at c.program.ensures) c.in_ok-past.was)

pub returns-in_err-past : goal.returns-in_err-past
returns-in_err-past c = let p = err_from_is_err_and c.from_residual.result c.from_residual.ensures.1 in rw (p.1, p.2) (stopped _ _ (all_misread c.args.source.now.names.now c.args.source.now.words.now c.args.rows.now (length c.args.out.now) (rw (c.marks.ensures.0, c.marks.ensures.1) at c.program.ensures) c.in_err-past.was))
