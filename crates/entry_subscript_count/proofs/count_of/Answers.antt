-- Numbers 2 and 3, or a body that was read. Assumes nothing.
use Rattle.std.proofs.lemmas.Result.{err_from_is_err_and}
use Rattle.entry_subscript_count.specs.Count.{told}
use Rattle.entry_subscript_count.proofs.Laws.{was_read, misread_is}
use Rattle.entry_subscript_count.proofs.count_of.Goals as goal

pub returns-in_err-end : goal.returns-in_err-end
unfolding told
returns-in_err-end c = let p = err_from_is_err_and c.from_residual.result c.from_residual.ensures.1 in rw (p.1, p.2) (misread_is c.args.source.now.names.now c.args.source.now.words.now c.args.name (rw (c.marks.ensures.0, c.marks.ensures.1) at c.program.ensures) c.in_err-end.was)

pub count_in-requires : goal.count_in-requires
count_in-requires c = was_read c.args.source.now.names.now c.args.source.now.words.now c.args.name (rw (c.marks.ensures.0, c.marks.ensures.1) at c.program.ensures) c.in_ok-end.was
