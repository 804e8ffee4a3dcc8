-- `lowers`: so many bounds, and whether one of them is written. Assumes nothing.
use Rattle.collect_as_clause.specs.Turns.{turn_some, list_inside, list_rows}
use Rattle.collect_dim.proofs.Reading.{low_start, low_next, low_end}
use Rattle.collect_dim.proofs.lowers.Goals as goal

pub bounds-words-at : goal.bounds-words-at
bounds-words-at c = list_inside c.requires.stands

pub loop-init : goal.loop-init
loop-init c = low_start _ _ _

pub lower-there-requires : goal.lower-there-requires
lower-there-requires c = turn_some c.loop.invariant c.loop-test.true (list_rows c.requires)

pub loop-preserved : goal.loop-preserved
loop-preserved c = low_next c.loop.invariant c.loop-test.true c.lower-there.ensures

pub returns : goal.returns
returns c = low_end c.loop.invariant c.loop-test.false
