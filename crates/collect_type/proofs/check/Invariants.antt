-- The loop of the first pass: what is left to look at does the same as all of it. Assumes nothing.
use mathlib.Core.Path.{◌≡◌}
use lib.ListN.{length}
use Rattle.collect_type.specs.Types.{Below}
use Rattle.collect_type.proofs.Checking.{Checking}
use Rattle.collect_type.proofs.check.Given as goal

abbrev pub invariant-loop : goal.invariant-loop
invariant-loop l = (length l.d ≡ length l.initial.d) × (length l.seen ≡ length l.initial.seen) × Below 2 l.seen × Checking l.words l.owner.fields l.owner.count l.owner.line l.owner.name l.initial.c.counts l.b l.initial.d l.c l.at l.counter l.d l.seen
