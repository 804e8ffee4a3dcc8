-- `typed_param`: nothing for an array or without a type, else its two steps. Assumes nothing.
use Prim.Native.Nat.{◌+◌}
use Rattle.collect_procedure.proofs.Does.{typed_array, typed_none, typed_some}
use Rattle.collect_procedure.proofs.typed_param.Goals as goal

pub returns-then-q : goal.returns-then-q
returns-then-q c = typed_array (c.args.p.name + 1) c.args.p.line c.args.q c.if-q.true c.requires

pub returns-in_default : goal.returns-in_default
returns-in_default c = typed_none (c.args.p.name + 1) c.args.p.line c.args.q c.in_default.is c.requires

pub returns : goal.returns
returns c = typed_some (c.args.p.name + 1) c.args.p.line c.args.q c.in-Some.is c.undefined-t.ensures c.enter.ensures c.if-q.false
