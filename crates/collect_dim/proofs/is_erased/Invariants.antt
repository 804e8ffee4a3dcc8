-- `is_erased`: what was seen, or what is left, has it as the whole does. Assumes nothing.
use mathlib.Core.Path.{◌≡◌}
use mathlib.Core.Bool.{◌||◌}
use lib.ListN.{drop}
use Rattle.collect_definition.specs.Collect.{member}
use Rattle.collect_dim.proofs.is_erased.Given as goal

abbrev pub invariant-loop-other : goal.invariant-loop-other
invariant-loop-other l = (l.hit || member l.name (drop l.other-index l.erased)) ≡ member l.name l.erased
