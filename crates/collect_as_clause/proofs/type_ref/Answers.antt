-- `type_ref`: the head, and where it is 44 or 45 the word after it. Assumes nothing.
use Rattle.collect_as_clause.proofs.Types.{here, type_short, type_long, type_second}
use Rattle.collect_as_clause.proofs.type_ref.Goals as goal

pub bounds-words-at : goal.bounds-words-at
bounds-words-at c = (here c.requires.tree c.requires.stands).inside

pub returns-then-head-lt44 : goal.returns-then-head-lt44
returns-then-head-lt44 c = type_short c.if-head-lt44.true

pub bounds-words-at-2 : goal.bounds-words-at-2
bounds-words-at-2 c = type_second c.if-head-lt44.false c.requires

pub returns : goal.returns
returns c = type_long c.if-head-lt44.false
