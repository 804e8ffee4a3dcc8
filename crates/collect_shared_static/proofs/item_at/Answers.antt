-- The parts of an item stand one after another. Assumes nothing.
use native.Mathlib.Omega.{arith}
use Rattle.collect_shared_static.proofs.Laws.{item_inside, item_type_lem, item_is}
use Rattle.collect_shared_static.proofs.item_at.Goals as goal

pub bounds-words-at : goal.bounds-words-at
bounds-words-at c = omega (arith, item_inside c.requires)

pub bounds-words-at-2 : goal.bounds-words-at-2
bounds-words-at-2 c = item_inside c.requires

pub as_type-ty-requires : goal.as_type-ty-requires
as_type-ty-requires c = item_type_lem c.requires

pub returns-clause-is : goal.returns-clause-is
returns-clause-is c = item_is c.as_type-ty.ensures
