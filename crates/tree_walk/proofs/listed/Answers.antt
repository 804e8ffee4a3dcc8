-- `listed`: the head's payload tells how many rows follow, and where they are flat how many words. Assumes nothing.
use Rattle.tree_walk.proofs.Fields.{many_inside, plan_many}
use Rattle.tree_walk.proofs.Plain.{plan_flat}
use Rattle.tree_walk.proofs.listed.Goals as goal

pub bounds-words-at : goal.bounds-words-at
bounds-words-at c = many_inside c.args.words.now c.args.at c.args.r c.requires

pub returns-in-Some : goal.returns-in-Some
returns-in-Some c = plan_flat c.args.words.now c.args.at c.args.r _ c.in-Some.ensures

pub returns-in-None : goal.returns-in-None
returns-in-None c = plan_many c.args.words.now c.args.at c.args.r
