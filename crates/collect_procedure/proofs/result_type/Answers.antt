-- `result_type`: nothing without a type, else a diagnostic where the suffix differs. Assumes nothing.
use mathlib.Core.Path.{sym, ◌∙◌}
use Rattle.collect_procedure.proofs.Does.{says, says_nothing, result_none, result_some}
use Rattle.collect_procedure.proofs.result_type.Goals as goal

pub returns-in_default : goal.returns-in_default
returns-in_default c = says_nothing c.requires.1 (λ o e. result_none c.args.strings.now.bytes.now c.args.strings.now.ends.now c.args.p.line c.args.p.name o (sym c.in_default.is ∙ e))

pub returns : goal.returns
returns c = says c.push_if.ensures (λ o e. result_some c.args.strings.now.bytes.now c.args.strings.now.ends.now c.args.p.line c.args.p.name c.differs-yes.ensures o (sym c.in-Some.is ∙ e))
