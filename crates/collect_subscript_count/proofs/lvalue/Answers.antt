-- A target: its field names are skipped. Assumes nothing.
use native.Mathlib.Omega.{arith}
use Rattle.collect_subscript_count.proofs.Targets.{target_there, target_fits, target_done}
use Rattle.collect_subscript_count.proofs.lvalue.Goals as goal

pub indexed-next-requires : goal.indexed-next-requires
indexed-next-requires c = target_there c.requires

pub returns : goal.returns
returns c = target_done c.indexed-next.ensures

pub overflow_add-result : goal.overflow_add-result
overflow_add-result c = omega (arith, target_fits c.requires c.indexed-next.ensures, c.well_formed)

pub offset_bounds-words-next : goal.offset_bounds-words-next
offset_bounds-words-next c = omega (arith, target_fits c.requires c.indexed-next.ensures, c.well_formed)

pub bounds-words-next : goal.bounds-words-next
bounds-words-next c = (target_fits c.requires c.indexed-next.ensures).0

pub overflow_add-result-2 : goal.overflow_add-result-2
overflow_add-result-2 c = omega (arith, target_fits c.requires c.indexed-next.ensures, c.well_formed)
