-- `read_full`: no more is read than the buffer has room for, and what is left of it falls.
use Rattle.std.proofs.Common.{length, ◌-◌, ◌≤◌}
use Rattle.base_input.proofs.read_full.Given as goal

abbrev pub invariant-loop-done : goal.invariant-loop-done
invariant-loop-done g l = l.done ≤ length l.b

abbrev pub decreases-loop-done : goal.decreases-loop-done
decreases-loop-done g l = length l.initial.b - l.done
