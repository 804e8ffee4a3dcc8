-- `before_entry`: four steps in turn; none of them moves a row. Assumes nothing.
use Rattle.collect_procedure.proofs.Does.{before_acts}
use Rattle.collect_procedure.proofs.before_entry.Goals as goal

pub returns : goal.returns
returns c = before_acts c.args.strings.now.bytes.now c.args.strings.now.ends.now c.args.scope c.args.p.line c.requires.2.0 c.result_type-s1.ensures c.check_variable_length_strings-s2.ensures c.push_if-s3.ensures c.defined_before.ensures
