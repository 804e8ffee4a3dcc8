-- Words that are not too many, by the test. Assumes nothing.
use native.Mathlib.Omega.{arith}
use Rattle.collect_type.proofs.Turns.{grown_no, grown_yes}
use Rattle.collect_type.proofs.grown.Goals as goal

pub returns-then-words-more : goal.returns-then-words-more
returns-then-words-more c = (grown_no c.args.words c.args.more c.requires c.if-words-more.true, c.requires)

pub returns-else-words-more : goal.returns-else-words-more
returns-else-words-more c = (grown_yes c.args.words c.args.more c.requires c.if-words-more.false, omega (arith, c.if-words-more.false, c.requires))
