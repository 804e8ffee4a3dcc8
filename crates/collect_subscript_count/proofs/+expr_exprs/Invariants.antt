-- What falls from call to call, and what the loop over a list keeps.
use lib.ListN.{length}
use Rattle.collect_subscript_count.specs.Notes.{mark_at}
use Rattle.collect_subscript_count.proofs.Expressions.{ExprsRead}
use Prim.Native.Nat.{◌+◌, ◌-◌, ◌*◌}
use Rattle.collect_subscript_count.proofs.+expr_exprs.Given as goal

abbrev pub decreases-expr : goal.decreases-expr
decreases-expr l = (length l.words.now - l.at) * 2

abbrev pub decreases-exprs : goal.decreases-exprs
decreases-exprs l = (length l.words.now - l.at) * 2 + 1

abbrev pub invariant-exprs-loop : goal.invariant-exprs-loop
invariant-exprs-loop l =
    ExprsRead l.words l.at l.n l.k (mark_at l.base l.initial.t) (mark_at l.base l.t) l.next l.counter
