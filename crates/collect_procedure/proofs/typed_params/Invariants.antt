-- `typed_params`: at each turn the typed ones among the parameters that were read are entered. Assumes nothing.
use Prim.Native.Nat.{◌+◌}
use mathlib.Core.Path.{◌≡◌}
use lib.ListN.{length}
use Rattle.collect_buffers.specs.State.{each}
use Rattle.collect_buffers.specs.Held.{Fit, Does}
use Rattle.collect_definition.specs.Collect.{typed_param}
use Rattle.collect_procedure.specs.Post.{plain}
use Rattle.collect_procedure.proofs.Walk.{Walked}
use Rattle.collect_procedure.proofs.typed_params.Given as goal

abbrev pub invariant-loop : goal.invariant-loop
invariant-loop l =
    (length l.b ≡ length l.initial.b) × (length l.d ≡ length l.initial.d) × Fit l.c (length l.b) (length l.d)
    × Walked (λ ps. Does (λ N D. each (typed_param (plain N D) (l.p.name + 1) l.p.line) ps) l.initial.c l.c l.initial.b l.initial.d l.b l.d) l.words l.p.params l.p.count l.at l.counter
