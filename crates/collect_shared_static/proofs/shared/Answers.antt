-- SHARED: outside a procedure a diagnostic, else the items' marks. Assumes nothing.
use Rattle.collect_shared_static.proofs.Laws.{shared_head, shared_list, shared_outside, shared_inside}
use native.Mathlib.Omega.{arith}
use Rattle.collect_shared_static.proofs.shared.Goals as goal

pub bounds-words-at : goal.bounds-words-at
bounds-words-at c = shared_head c.requires.0

pub returns-then-scope-eq0 : goal.returns-then-scope-eq0
returns-then-scope-eq0 c = shared_outside c.if-scope-eq0.true c.requires.1.0 c.push.ensures

pub enter_items-requires : goal.enter_items-requires
enter_items-requires c = (shared_list c.requires.0, c.requires.1.0, omega arith)

pub returns : goal.returns
returns c = shared_inside c.if-scope-eq0.false c.requires.1.1 c.enter_items.ensures
