-- `param`: three words, and the AS clause after them. Assumes nothing.
use native.Mathlib.Omega.{arith}
use Rattle.collect_procedure.proofs.Reading.{param_inside, param_clause, param_is}
use Rattle.collect_procedure.proofs.param.Goals as goal

pub bounds-words-at : goal.bounds-words-at
bounds-words-at c = omega (arith, param_inside c.requires)

pub bounds-words-at-2 : goal.bounds-words-at-2
bounds-words-at-2 c = omega (arith, param_inside c.requires)

pub bounds-words-at-3 : goal.bounds-words-at-3
bounds-words-at-3 c = omega (arith, param_inside c.requires)

pub as_type-ty-requires : goal.as_type-ty-requires
as_type-ty-requires c = param_clause c.requires

pub returns : goal.returns
returns c = param_is c.flag-byval.ensures c.flag-array.ensures c.as_type-ty.ensures
