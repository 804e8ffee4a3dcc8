-- A statement of a kind with targets has a head. Assumes nothing.
use Rattle.tree_walk.proofs.Walk.{head_range}
use Rattle.collect_subscript_count.proofs.by_hand.Goals as goal

pub bounds-words-at : goal.bounds-words-at
bounds-words-at c = (head_range c.requires.0.stands).2
