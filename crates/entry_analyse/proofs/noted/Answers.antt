-- 2 or 3, then 4, then 10, and then the run. Assumes nothing.
use Rattle.std.proofs.lemmas.Result.{err_from_is_err_and}
use Rattle.collect_definition.specs.PassedLaws.{passed, not_passed}
use Rattle.entry_analyse.proofs.Laws.{not_accepted, short_tells}
use Rattle.entry_analyse.proofs.noted.Goals as goal

pub returns-then-out-program : goal.returns-then-out-program
returns-then-out-program c = short_tells (passed c.args.program.now.named c.args.program.now.source.few c.check_program_with.ensures.0 c.in_ok-check_program_with.was) c.args.notes.now c.args.rows.now c.args.out.now c.if-out-program.true

pub run-requires : goal.run-requires
run-requires c = (passed c.args.program.now.named c.args.program.now.source.few c.check_program_with.ensures.0 c.in_ok-check_program_with.was, c.if-out-program.false, c.check_program_with.ensures.1.gives c.requires.0, c.requires.1)

pub returns-in_err-check_program_with : goal.returns-in_err-check_program_with
returns-in_err-check_program_with c = let p = err_from_is_err_and c.from_residual.result c.from_residual.ensures.1 in rw (p.1, p.2) (not_accepted c.args.program.now.strings.bytes.now c.args.program.now.strings.ends.now c.args.program.now.erased.now c.args.program.now.source.words.now c.args.notes.now c.args.rows.now c.args.out.now (not_passed c.args.program.now.erased.now c.args.program.now.source.words.now c.args.program.now.named c.check_program_with.ensures.0 c.in_err-check_program_with.was))
