-- `past`: so many declarators, each passed. Assumes nothing.
use mathlib.Core.Path.{◌≡◌}
use Rattle.collect_as_clause.specs.Turns.{turn_some, turn_next, turn_end, list_inside, list_rows, list_all}
use Rattle.collect_dim.proofs.Reading.{decl_past}
use Rattle.collect_dim.proofs.past.Goals as goal

pub bounds-words-at : goal.bounds-words-at
bounds-words-at c = list_inside c.requires.stands

pub declarator-m-requires : goal.declarator-m-requires
declarator-m-requires c = turn_some c.loop.invariant c.loop-test.true (list_rows c.requires)

pub loop-preserved : goal.loop-preserved
loop-preserved c = turn_next c.loop.invariant c.loop-test.true (λ l. Unit {0}) c.declarator-m.result.next (λ ns n r end S. (decl_past c.declarator-m.ensures ns n r end S, λ l many p. tt))

pub returns : goal.returns
returns c = list_all (λ r. r) (λ l m. c.loop.m ≡ m) (λ ns n rs end S e. (turn_end c.loop.invariant c.loop-test.false ns n rs end S e).0)
