-- A target's name and its indices. Assumes nothing.
use Rattle.collect_subscript_count.proofs.Targets.{indexed_here, indexed_there, indexed_absent, indexed_done}
use mathlib.Core.Path.{refl}
use Rattle.collect_subscript_count.proofs.indexed.Goals as goal

pub returns-then-words-at-eq0 : goal.returns-then-words-at-eq0
returns-then-words-at-eq0 c = indexed_absent c.if-words-at-eq0.true (λ x. refl)

pub exprs-requires : goal.exprs-requires
exprs-requires c = indexed_there c.if-words-at-eq0.false c.requires

pub returns : goal.returns
returns c = indexed_done c.if-words-at-eq0.false c.note.ensures c.exprs.ensures

pub bounds-words-at : goal.bounds-words-at
bounds-words-at c = indexed_here c.requires
