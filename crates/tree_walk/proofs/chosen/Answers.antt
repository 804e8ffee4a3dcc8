-- `chosen`: the head's kind tells which row follows it. Assumes nothing.
use Rattle.tree_walk.proofs.Fields.{choice_inside, plan_choice}
use Rattle.tree_walk.proofs.chosen.Goals as goal

pub bounds-words-at : goal.bounds-words-at
bounds-words-at c = (choice_inside c.args.words.now c.args.at c.args.first c.args.count c.args.r c.requires.0).0

pub overflow_sub-result : goal.overflow_sub-result
overflow_sub-result c = (choice_inside c.args.words.now c.args.at c.args.first c.args.count c.args.r c.requires.0).1

pub returns : goal.returns
returns c = plan_choice c.args.words.now c.args.at c.args.first c.args.count c.args.r c.requires.1
