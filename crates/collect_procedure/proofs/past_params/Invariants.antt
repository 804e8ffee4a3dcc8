-- `past_params`: at each turn those that are left stand at the place. Assumes nothing.
use Rattle.collect_procedure.proofs.Walk.{Walked}
use Rattle.collect_procedure.proofs.past_params.Given as goal

abbrev pub invariant-loop : goal.invariant-loop
invariant-loop l =
    Walked (λ ps. Unit {0}) l.words l.from l.count l.at l.counter
