-- `function_at`: the words of a FUNCTION, its AS clause, and the two flags before its end. Assumes nothing.
use native.Mathlib.Omega.{arith}
use Rattle.collect_procedure.proofs.Reading.{function_inside, function_params, function_few, function_clause, last_flags, function_is}
use Rattle.collect_procedure.proofs.function_at.Goals as goal

pub bounds-words-at : goal.bounds-words-at
bounds-words-at c = omega (arith, function_inside c.requires)

pub bounds-words-at-2 : goal.bounds-words-at-2
bounds-words-at-2 c = omega (arith, function_inside c.requires)

pub bounds-words-at-3 : goal.bounds-words-at-3
bounds-words-at-3 c = function_inside c.requires

pub past_params-m-requires : goal.past_params-m-requires
past_params-m-requires c = function_params c.requires

pub as_type-ty-requires : goal.as_type-ty-requires
as_type-ty-requires c = function_clause c.requires c.past_params-m.ensures

pub overflow_sub-end : goal.overflow_sub-end
overflow_sub-end c = (last_flags c.requires).0

pub bounds-words-end : goal.bounds-words-end
bounds-words-end c = omega (arith, last_flags c.requires)

pub overflow_sub-end-2 : goal.overflow_sub-end-2
overflow_sub-end-2 c = omega (arith, last_flags c.requires)

pub bounds-words-end-2 : goal.bounds-words-end-2
bounds-words-end-2 c = (last_flags c.requires).1

pub overflow_sub-result : goal.overflow_sub-result
overflow_sub-result c = (last_flags c.requires).0

pub invariant_of-result : goal.invariant_of-result
invariant_of-result c = record { few = function_few c.requires c.args.source.now.few }

pub returns : goal.returns
returns c = function_is c.requires c.past_params-m.ensures c.as_type-ty.ensures _ _ c.flag-keeps.ensures c.flag-deffn.ensures
