-- `erased_right`: the names left, none below `low`, decide. Assumes nothing.
use Rattle.std.proofs.Common.{◌≡◌, drop}
use Rattle.entry_read.specs.Program.{erased_from}
use Rattle.entry_read.proofs.erased_right.Given as goal

abbrev pub invariant-loop-name : goal.invariant-loop-name
invariant-loop-name l = erased_from l.names 0 l.erased ≡ erased_from l.names l.low (drop l.name-index l.erased)
