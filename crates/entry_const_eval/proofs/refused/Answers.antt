-- A refusal tells its number and leaves the place. Assumes nothing.
use Rattle.entry_const_eval.proofs.Laws.{refused_tells}
use Rattle.entry_const_eval.proofs.refused.Goals as goal

pub returns : goal.returns
returns c = refused_tells c.args.at c.args.r
