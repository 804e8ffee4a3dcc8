-- `all_printable`: what was found of the bytes so far, and the bytes that are left, decide. Assumes nothing.
use Rattle.std.proofs.Common.{◌≡◌, ◌&&◌, drop}
use Rattle.base_strings.specs.Table.{all_printable}
use Rattle.base_strings.proofs.all_printable.Given as goal

abbrev pub invariant-loop-b : goal.invariant-loop-b
invariant-loop-b l = all_printable l.s ≡ (l.all && all_printable (drop l.b-index l.s))
