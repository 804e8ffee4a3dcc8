-- The items of PRINT, one after another. Assumes nothing.
use Rattle.collect_subscript_count.specs.Notes.{mark_at}
use Rattle.collect_subscript_count.proofs.Lists.{ItemsRead}
use Rattle.collect_subscript_count.proofs.items.Given as goal

abbrev pub invariant-loop : goal.invariant-loop
invariant-loop l = ItemsRead l.words l.at l.n l.k (mark_at l.base l.initial.t) (mark_at l.base l.t) l.next l.counter
