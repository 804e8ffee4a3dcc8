-- STATIC: outside a procedure a diagnostic, else the items' marks and then their types. Assumes nothing.
use Rattle.collect_shared_static.proofs.Laws.{static_head, static_list, static_outside, static_inside}
use native.Mathlib.Omega.{arith}
use Rattle.collect_shared_static.proofs.statics.Goals as goal

pub bounds-words-at : goal.bounds-words-at
bounds-words-at c = static_head c.requires.0

pub returns-then-scope-eq0 : goal.returns-then-scope-eq0
returns-then-scope-eq0 c = static_outside c.if-scope-eq0.true c.requires.1.0 c.push.ensures

pub enter_items-t-requires : goal.enter_items-t-requires
enter_items-t-requires c = (static_list c.requires.0, c.requires.1.0, omega arith)

pub enter_items-requires : goal.enter_items-requires
enter_items-requires c = (static_list c.requires.0, c.enter_items-t.ensures.room, omega arith)

pub returns : goal.returns
returns c = static_inside c.if-scope-eq0.false c.requires.1.1 c.enter_items-t.ensures c.enter_items.ensures
