-- The loop of the second pass: what is left to enter does the same as all of it. Assumes nothing.
use mathlib.Core.Path.{◌≡◌}
use lib.ListN.{length}
use Rattle.collect_type.proofs.Entering.{EnteringMid}
use Rattle.collect_type.proofs.enter_fields.Given as goal

abbrev pub invariant-loop : goal.invariant-loop
invariant-loop l = (length l.b ≡ length l.initial.b) × (length l.seen ≡ length l.initial.seen) × EnteringMid l.words l.owner.fields l.owner.count l.owner.name l.initial.c.counts l.initial.b l.c l.at l.counter l.b l.seen
