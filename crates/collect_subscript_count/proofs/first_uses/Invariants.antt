-- The statements of a body, one after another. Assumes nothing.
use Rattle.collect_subscript_count.specs.Notes.{mark_at}
use Rattle.collect_subscript_count.proofs.Bodies.{BodyRead}
use Rattle.collect_subscript_count.proofs.first_uses.Given as goal

abbrev pub invariant-loop : goal.invariant-loop
invariant-loop l = BodyRead l.words l.at l.n (mark_at l.base l.initial.t) (mark_at l.base l.t) l.next l.counter
