-- The statements of a body, up to the first use. Assumes nothing.
use mathlib.Core.Path.{◌≡◌}
use lib.ListN.{length}
use Rattle.collect_subscript_count.specs.Notes.{free, mark_at}
use Rattle.collect_subscript_count.proofs.Bodies.{BodyRead}
use Rattle.collect_subscript_count.proofs.subscript_count.Given as goal

abbrev pub invariant-loop : goal.invariant-loop
invariant-loop l = (length l.t ≡ 2) × (mark_at l.name l.initial.t l.name ≡ free) × BodyRead l.words l.at l.n (mark_at l.name l.initial.t) (mark_at l.name l.t) l.next l.counter
