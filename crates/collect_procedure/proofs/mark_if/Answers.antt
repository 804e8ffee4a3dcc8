-- `mark_if`: a row under a test. Assumes nothing.
use Rattle.collect_procedure.proofs.Does.{mark_yes}
use Rattle.collect_procedure.proofs.mark_if.Goals as goal

pub returns : goal.returns
returns c = mark_yes c.args.kind c.args.name c.args.yes c.if-not-yes.false c.enter.ensures
