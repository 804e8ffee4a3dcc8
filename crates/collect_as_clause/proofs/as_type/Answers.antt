-- `as_type`: absent, or the type there. Assumes nothing.
use Rattle.collect_as_clause.proofs.Types.{as_inside, as_none, as_some, as_inner}
use Rattle.collect_as_clause.proofs.as_type.Goals as goal

pub bounds-words-at : goal.bounds-words-at
bounds-words-at c = as_inside c.requires.tree c.requires.stands

pub returns-then-words-at-eq0 : goal.returns-then-words-at-eq0
returns-then-words-at-eq0 c = as_none c.if-words-at-eq0.true

pub type_ref-next-requires : goal.type_ref-next-requires
type_ref-next-requires c = as_inner c.if-words-at-eq0.false c.requires

pub returns : goal.returns
returns c = as_some c.if-words-at-eq0.false c.type_ref-next.ensures
