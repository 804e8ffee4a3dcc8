-- `procedure`: five steps in turn. Assumes nothing.
use native.Mathlib.Omega.{arith}
use Rattle.collect_procedure.proofs.Reading.{proc_body}
use Rattle.collect_procedure.proofs.Does.{procedure_acts}
use Rattle.collect_procedure.proofs.procedure.Goals as goal

pub array_params-s4-requires : goal.array_params-s4-requires
array_params-s4-requires c = (c.requires.0, (c.with_marks-s3.ensures c.args.words.now).fit)

pub typed_params-requires : goal.typed_params-requires
typed_params-requires c = (c.requires.0, ((c.array_params-s4.ensures _ (proc_body c.requires.0).there).fit, omega (arith, c.before_entry-s1.ensures.fit.1, c.with_params-s2.ensures.kept, (c.with_marks-s3.ensures c.args.words.now).kept, (c.array_params-s4.ensures _ (proc_body c.requires.0).there).kept)))

pub returns : goal.returns
returns c = procedure_acts c.args.strings.now.bytes.now c.args.strings.now.ends.now c.args.scope c.before_entry-s1.ensures c.with_params-s2.ensures (c.with_marks-s3.ensures c.args.words.now) c.array_params-s4.ensures c.typed_params.ensures
