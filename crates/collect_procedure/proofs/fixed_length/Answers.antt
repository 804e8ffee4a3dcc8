-- `fixed_length`: the argument of a fixed string, else 0. Assumes nothing.
use mathlib.Core.Path.{sym, ◌∙◌}
use native.Mathlib.Omega.{arith}
use Rattle.collect_procedure.proofs.Does.{fixed_yes, fixed_no}
use Rattle.collect_procedure.proofs.fixed_length.Goals as goal

pub returns-then-t-eq44 : goal.returns-then-t-eq44
returns-then-t-eq44 c = λ o e. fixed_yes c.if-t-eq44.true o (sym c.in-Some.is ∙ e)

pub returns-else-t-eq44 : goal.returns-else-t-eq44
returns-else-t-eq44 c = λ o e. fixed_no c.if-t-eq44.false o (sym c.in-Some.is ∙ e)

pub returns-in-None : goal.returns-in-None
returns-in-None c = λ o e. fixed_no (λ z. absurd (omega (arith, z))) o (sym c.in-None.is ∙ e)
