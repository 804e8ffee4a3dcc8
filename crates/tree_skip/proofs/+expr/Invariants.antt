-- What falls from call to call, and what the loop over a list keeps.
use Prim.Native.Nat.{◌-◌, ◌<◌}
use lib.ListN.{length}
use Rattle.tree_skip.proofs.Laws.{Left}
use Rattle.tree_skip.proofs.+expr.Given as goal

abbrev pub decreases-expr : goal.decreases-expr
decreases-expr l = length l.words.now - l.at

abbrev pub invariant-loop : goal.invariant-loop
invariant-loop l =
    (l.at < l.m) × Left l.words l.at l.m (l.s.children - l.counter) l.s.back
