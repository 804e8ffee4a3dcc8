-- `ranked`: the rank of the first use, or 1 with a mark. Assumes nothing.
use Prim.Native.Nat.{◌+◌}
use Rattle.collect_procedure.proofs.Does.{ranked_some, ranked_none}
use Rattle.collect_procedure.proofs.ranked.Goals as goal

pub returns-in-Some : goal.returns-in-Some
returns-in-Some c = ranked_some (c.args.p.name + 1) c.args.p.line c.args.q.name c.in-Some.is c.enter.ensures

pub returns : goal.returns
returns c = ranked_none (c.args.p.name + 1) c.args.p.line c.args.q.name c.in_default.is c.enter-t.ensures c.enter-2.ensures
