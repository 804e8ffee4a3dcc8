-- `sub_at`: the words of a SUB, and the flag before its end. Assumes nothing.
use native.Mathlib.Omega.{arith}
use Rattle.collect_procedure.proofs.Reading.{sub_inside, sub_params, sub_few, last_flag, sub_is}
use Rattle.collect_procedure.proofs.sub_at.Goals as goal

pub bounds-words-at : goal.bounds-words-at
bounds-words-at c = omega (arith, sub_inside c.requires)

pub bounds-words-at-2 : goal.bounds-words-at-2
bounds-words-at-2 c = omega (arith, sub_inside c.requires)

pub bounds-words-at-3 : goal.bounds-words-at-3
bounds-words-at-3 c = sub_inside c.requires

pub past_params-body-requires : goal.past_params-body-requires
past_params-body-requires c = sub_params c.requires

pub overflow_sub-end : goal.overflow_sub-end
overflow_sub-end c = (last_flag c.requires).0

pub bounds-words-end : goal.bounds-words-end
bounds-words-end c = (last_flag c.requires).1

pub overflow_sub-result : goal.overflow_sub-result
overflow_sub-result c = (last_flag c.requires).0

pub invariant_of-result : goal.invariant_of-result
invariant_of-result c = record { few = sub_few c.requires c.args.source.now.few }

pub returns : goal.returns
returns c = sub_is c.requires c.past_params-body.ensures _ c.flag-keeps.ensures
