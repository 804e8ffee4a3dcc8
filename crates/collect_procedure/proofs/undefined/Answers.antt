-- `undefined`: nothing but for a record's type, and there what the rows say of it. Assumes nothing.
use Rattle.collect_procedure.proofs.Does.{undefined_other, undefined_record}
use Rattle.collect_procedure.proofs.undefined.Goals as goal

pub returns-then-ty-ne45 : goal.returns-then-ty-ne45
returns-then-ty-ne45 c = undefined_other c.args.line c.args.q.name c.if-ty-ne45.true c.requires.1

pub returns : goal.returns
returns c = undefined_record c.args.line c.args.q.name c.args.ty.arg c.if-ty-ne45.false _ c.requires.1.0 c.has-known.ensures c.push_if.ensures
