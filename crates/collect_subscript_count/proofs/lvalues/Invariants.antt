-- Targets, one after another. Assumes nothing.
use Rattle.collect_subscript_count.specs.Notes.{mark_at}
use Rattle.collect_subscript_count.proofs.Targets.{TargetsRead}
use Rattle.collect_subscript_count.proofs.lvalues.Given as goal

abbrev pub invariant-loop : goal.invariant-loop
invariant-loop l = TargetsRead l.words l.at l.n l.k l.j (mark_at l.base l.initial.t) (mark_at l.base l.t) l.next l.counter
