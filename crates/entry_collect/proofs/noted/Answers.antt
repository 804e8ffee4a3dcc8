-- 2 or 3, then 4, then the run. Assumes nothing.
use lib.ListN.{length}
use Rattle.std.proofs.lemmas.Result.{err_from_is_err_and}
use Rattle.collect_definition.specs.PassedLaws.{passed, not_passed}
use Rattle.entry_collect.proofs.Entry.{refused_tells, run_stops, run_refused, run_done}
use Rattle.entry_collect.proofs.noted.Goals as goal

pub returns-in_err-check_program_with : goal.returns-in_err-check_program_with
returns-in_err-check_program_with c = let p = err_from_is_err_and c.from_residual.result c.from_residual.ensures.1 in rw (p.1, p.2) (refused_tells c.args.program.now.strings.bytes.now c.args.program.now.strings.ends.now c.args.program.now.erased.now c.args.program.now.source.words.now (length c.args.b.now) (length c.args.d.now) c.args.b.now c.args.d.now (not_passed c.args.program.now.erased.now c.args.program.now.source.words.now c.args.program.now.named c.check_program_with.ensures.0 c.in_err-check_program_with.was))

pub tables-s-requires : goal.tables-s-requires
tables-s-requires c = (passed c.args.program.now.named c.args.program.now.source.few c.check_program_with.ensures.0 c.in_ok-check_program_with.was, c.check_program_with.ensures.1.gives c.requires)

pub refusal-requires : goal.refusal-requires
refusal-requires c = run_stops (passed c.args.program.now.named c.args.program.now.source.few c.check_program_with.ensures.0 c.in_ok-check_program_with.was) c.tables-s.ensures c.if-s-ne0.true

pub returns-then-s-ne0 : goal.returns-then-s-ne0
returns-then-s-ne0 c = run_refused (passed c.args.program.now.named c.args.program.now.source.few c.check_program_with.ensures.0 c.in_ok-check_program_with.was) c.tables-s.ensures c.if-s-ne0.true c.refusal.ensures

pub returns : goal.returns
returns c = run_done (passed c.args.program.now.named c.args.program.now.source.few c.check_program_with.ensures.0 c.in_ok-check_program_with.was) c.tables-s.ensures c.if-s-ne0.false
