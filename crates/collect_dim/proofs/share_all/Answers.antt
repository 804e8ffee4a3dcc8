-- `share_all`: so many declarators, each entered. Assumes nothing.
use Rattle.collect_dim.proofs.Doing.{share_start, share_next, share_end}
use Rattle.collect_as_clause.specs.Turns.{list_inside, list_rows, turn_some}
use mathlib.Core.Path.{refl, ◌∙◌}
use Rattle.collect_dim.proofs.share_all.Goals as goal

pub bounds-words-at : goal.bounds-words-at
bounds-words-at c = list_inside c.requires.1.stands

pub loop-init : goal.loop-init
loop-init c = (share_start _ _ _ c.requires.0, c.requires.0, refl)

pub declarator-v-requires : goal.declarator-v-requires
declarator-v-requires c = turn_some c.loop.invariant.0 c.loop-test.true (list_rows c.requires.1)

pub loop-preserved : goal.loop-preserved
loop-preserved c = (share_next c.loop.invariant.0 c.loop-test.true c.declarator-v.ensures c.is_some.ensures c.bit.ensures.value c.enter-c.ensures, c.enter-c.ensures.fit, c.enter-c.auto.b ∙ c.loop.invariant.2)

pub returns : goal.returns
returns c = share_end c.loop.invariant.0 c.loop-test.false
