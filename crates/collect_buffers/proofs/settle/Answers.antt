-- A run that goes on has its rows put in order; of a stopped one nothing is said. Assumes nothing.
use mathlib.Core.Path.{refl}
use Rattle.collect_buffers.proofs.settle.Goals as goal

pub returns-then-s-ne0 : goal.returns-then-s-ne0
returns-then-s-ne0 c = record { long = refl; flat = λ go. absurd (c.if-s-ne0.true go) }

pub returns : goal.returns
returns c = record { long = c.settle.auto.b; flat = λ go. c.settle.ensures }
