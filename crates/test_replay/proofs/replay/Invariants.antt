-- `replay`: no more records came out alike than were read.
use Rattle.std.proofs.Common.{◌≤◌}
use Rattle.test_replay.proofs.replay.Given as goal

abbrev pub invariant-loop-all : goal.invariant-loop-all
invariant-loop-all g l = l.right ≤ l.all
