-- `param_string`: a diagnostic where the length is not 0. Assumes nothing.
use Rattle.collect_procedure.proofs.Does.{says, param_said}
use Rattle.collect_procedure.proofs.param_string.Goals as goal

pub returns : goal.returns
returns c = says c.push_if.ensures (λ q o. param_said c.args.p.line c.args.p.name q o (c.fixed_length-n.ensures q.ty o.ty))
