-- What falls from call to call, the levels left, and what the loop over a list keeps.
use Prim.Native.Nat.{◌+◌, ◌-◌}
use mathlib.Core.Path.{◌≡◌}
use Rattle.tree_expr.specs.Expr.{Strings}
use Rattle.tree_expr.specs.Reader.{exprs_at, expr_at}
use Rattle.tree_expr.specs.Answer.{step_of}
use Rattle.tree_expr.proofs.Cursor.+binary_expr_field_list.Given as goal

abbrev pub decreases-expr : goal.decreases-expr
decreases-expr l = l.left + l.left

abbrev pub decreases-binary : goal.decreases-binary
decreases-binary l = l.left + l.left + 1

abbrev pub decreases-field : goal.decreases-field
decreases-field l = l.left + l.left + 1

abbrev pub decreases-list : goal.decreases-list
decreases-list l = l.left + l.left + 1

abbrev pub invariant-list-loop : goal.invariant-list-loop
invariant-list-loop l =
    let strings : Strings = record { count = l.names.count; names = l.names.marks.now } in
    let sub = expr_at l.words strings l.left in
    step_of (exprs_at l.words strings sub l.count l.initial.c.at) ≡ step_of (exprs_at l.words strings sub (l.count - l.counter) l.c.at)
