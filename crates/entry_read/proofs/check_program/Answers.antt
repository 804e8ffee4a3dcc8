-- `check_program`: what `whole` says of the place where `tree_stmt::program` ended, or the refusal of what was wrong. Assumes nothing.
use Rattle.std.proofs.Common.{◌∙◌}
use Rattle.std.proofs.lemmas.Result.{err_from_is_err_and}
use Rattle.entry_read.specs.Program.{told}
use Rattle.entry_read.proofs.Laws.{program_ok, program_err}
use Rattle.entry_read.proofs.check_program.Goals as goal

pub returns-in_err-end : goal.returns-in_err-end
unfolding told
returns-in_err-end c = let p = err_from_is_err_and c.from_residual.result c.from_residual.ensures.1 in rw (p.1, p.2) (program_err c.args.source.now.names.now c.args.source.now.words.now c.args.erased.now (rw (c.marks.ensures.0, c.marks.ensures.1) at c.program.ensures) c.in_err-end.was)

pub returns : goal.returns
returns c = c.whole.ensures ∙ program_ok c.args.source.now.names.now c.args.source.now.words.now c.args.erased.now (rw (c.marks.ensures.0, c.marks.ensures.1) at c.program.ensures) c.in_ok-end.was
