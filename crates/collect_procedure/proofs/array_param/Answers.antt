-- `array_param`: nothing for a parameter that is no array, else the rank that the body gives it. Assumes nothing.
use Prim.Native.Nat.{◌+◌}
use borrow.Author.Tests.{not-true, not-false}
use Rattle.collect_procedure.proofs.Does.{array_no, array_yes}
use Rattle.collect_procedure.proofs.array_param.Goals as goal

pub returns-then-not-q : goal.returns-then-not-q
returns-then-not-q c = λ t B. array_no (c.args.p.name + 1) c.args.p.line (not-true _ c.if-not-q.true) c.requires.2 t

pub returns : goal.returns
returns c = array_yes (c.args.p.name + 1) c.args.p.line _ (not-false _ c.if-not-q.false) c.used-u.ensures c.ranked.ensures
