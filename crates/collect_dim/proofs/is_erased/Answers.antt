-- `is_erased`: what was seen, or what is left, has it as the whole does. Assumes nothing.
use mathlib.Core.Path.{sym, ◌∙◌}
use Rattle.collect_dim.proofs.Asking.{member_step, member_end, or_none}
use Rattle.collect_dim.proofs.is_erased.Goals as goal

pub loop-other-preserved : goal.loop-other-preserved
loop-other-preserved c = member_step c.args.erased.now c.args.name c.loop-other.hit c.loop-other.other-index c.loop-other-test.true ∙ c.loop-other.invariant

pub returns : goal.returns
returns c = sym (or_none c.loop-other.hit (member_end c.args.erased.now c.args.name c.loop-other.other-index c.loop-other.auto.other-index-end c.loop-other-test.false)) ∙ c.loop-other.invariant
