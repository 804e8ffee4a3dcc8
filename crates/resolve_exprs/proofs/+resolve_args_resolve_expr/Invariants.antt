-- What falls from call to call, twice the words left, and what the loop over the arguments keeps.
use Prim.Native.Nat.{◌+◌, ◌-◌, ◌*◌}
use lib.ListN.{length}
use Rattle.resolve_definition.specs.Tables.{places, nowhere}
use Rattle.resolve_exprs.proofs.Lists.{Walked}
use Rattle.resolve_exprs.proofs.+resolve_args_resolve_expr.Given as goal

abbrev pub decreases-resolve_args : goal.decreases-resolve_args
decreases-resolve_args l = 2 * (length l.words.now - l.spot.at) + 1

abbrev pub decreases-resolve_expr : goal.decreases-resolve_expr
decreases-resolve_expr l = 2 * (length l.words.now - l.spot.at)

abbrev pub invariant-resolve_args-loop-i : goal.invariant-resolve_args-loop-i
invariant-resolve_args-loop-i l =
    Walked (λ T. places T l.f) l.n l.words l.rows.words.now l.initial.out l.rows.count l.scope l.fn.spot.at l.fn.spot.to l.next.at l.next.to l.i l.out

abbrev pub invariant-resolve_expr-loop : goal.invariant-resolve_expr-loop
invariant-resolve_expr-loop l =
    Walked (λ T. nowhere) l.end l.words l.rows.words.now l.initial.out l.rows.count l.scope l.initial.next.at l.initial.next.to l.next.at l.next.to l.counter l.out
