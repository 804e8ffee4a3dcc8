-- `all_printable`: one more byte decides together with those after it. Assumes nothing.
use Rattle.std.proofs.Common.{arith}
use Rattle.std.proofs.lemmas.Grind.{common_steps}
use Rattle.base_strings.specs.Name.{between}
use Rattle.base_strings.proofs.Laws.{printable_more, printable_none}
use Rattle.base_strings.proofs.all_printable.Goals as goal

pub loop-b-preserved : goal.loop-b-preserved
unfolding between
loop-b-preserved c = let e = printable_more c.args.s.now c.loop-b.b-index (omega arith) in grind (arith, common_steps)

pub returns : goal.returns
returns c = let e = printable_none c.args.s.now c.loop-b.b-index (omega arith) in grind (arith, common_steps)
