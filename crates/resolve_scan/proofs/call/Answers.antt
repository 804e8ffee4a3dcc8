-- A call: the resolver of expressions for a procedure's, else its head. Assumes nothing.
use Prim.Native.Nat.{ℕ, ◌+◌}
use native.Mathlib.Omega.{arith}
use lib.ListN.{get_or}
use Rattle.base_words.specs.Word.{pay_of}
use Rattle.resolve_scan.proofs.Steps.{call_room, ready_call, not_procedure, array_head, call_done, call_head_done}
use Rattle.resolve_scan.proofs.call.Goals as goal

pub bounds-inputs-spot : goal.bounds-inputs-spot
bounds-inputs-spot c = omega (arith, call_room c.requires.0 c.requires.1)

pub resolve_expr-requires : goal.resolve_expr-requires
resolve_expr-requires c = ready_call c.requires.0 c.requires.1

pub returns-then-has : goal.returns-then-has
returns-then-has c = call_done c.requires.1 c.resolve_expr.ensures

pub begin-requires : goal.begin-requires
begin-requires c = call_room c.requires.0 c.requires.1

pub returns : goal.returns
returns c =
    let f : ℕ = pay_of (get_or c.args.inputs.now.source.words.now (c.args.spot.at + 1) 0) in
    let n = not_procedure f c.has.ensures c.if-has.false in
    call_head_done c.requires.1 n (array_head c.args.scope f c.headed-h.ensures c.is_array.ensures n) c.begin.ensures
