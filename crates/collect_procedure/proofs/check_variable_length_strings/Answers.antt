-- `check_variable_length_strings`: the parameters, then the result. Assumes nothing.
use Rattle.collect_procedure.proofs.Does.{strings_says}
use Rattle.collect_procedure.proofs.check_variable_length_strings.Goals as goal

pub returns : goal.returns
returns c = strings_says c.args.p.line _ c.param_strings-t.ensures c.fixed_length-n.ensures c.push_if.ensures
