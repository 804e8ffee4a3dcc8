-- All items of a list: the loop's invariant is what is done for those before. Assumes nothing.
use Rattle.collect_shared_static.proofs.Laws.{Going}
use Rattle.collect_shared_static.proofs.enter_items.Given as goal

abbrev pub invariant-loop : goal.invariant-loop
invariant-loop l = Going l.words l.at l.kind l.scope l.initial.t l.initial.b l.t l.b l.p l.counter
