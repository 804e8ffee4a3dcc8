-- A CALL: its head, and for a procedure's its arguments. Assumes nothing.
use Prim.Native.Nat.{◌+◌}
use native.Mathlib.Omega.{arith}
use lib.ListN.{get_or}
use Rattle.base_words.specs.Word.{pay_of}
use Rattle.resolve_scan.proofs.Steps.{calling_room, ready_args, not_procedure, calling_done, calling_head_done}
use Rattle.resolve_scan.proofs.calling.Goals as goal

pub bounds-inputs-spot : goal.bounds-inputs-spot
bounds-inputs-spot c = omega (arith, calling_room c.requires.0 c.requires.1)

pub bounds-inputs-spot-2 : goal.bounds-inputs-spot-2
bounds-inputs-spot-2 c = omega (arith, calling_room c.requires.0 c.requires.1)

pub begin-first-requires : goal.begin-first-requires
begin-first-requires c = calling_room c.requires.0 c.requires.1

pub resolve_args-requires : goal.resolve_args-requires
resolve_args-requires c = (ready_args c.requires.0 c.requires.1 c.begin-first.auto.out c.begin-first.ensures.0 c.begin-first.ensures.1, omega arith)

pub returns-then-has : goal.returns-then-has
returns-then-has c = calling_done c.requires.1 c.begin-first.ensures c.resolve_args.ensures

pub returns : goal.returns
returns c = calling_head_done c.requires.1 (not_procedure (pay_of (get_or c.args.inputs.now.source.words.now (c.args.spot.at + 1) 0)) c.has.ensures c.if-has.false) c.begin-first.ensures
