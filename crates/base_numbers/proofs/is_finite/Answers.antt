-- `base_numbers::is_finite` meets its contract: what lies strictly between the two infinities is finite. Assumes nothing.
use Rattle.std.proofs.Common.{◌≡◌, true, false, refl}
use lib.Ieee.{Float, nan, inf, fin, lt, neg, of_bits, nan_bits}
use lib.Ieee.Scale.{finite}
use Rattle.base_numbers.specs.SignedLaws.{never}
use Rattle.base_numbers.proofs.is_finite.Goals as goal

top : (x : Float) → lt x (inf false) ≡ false → lt x (inf false) ≡ finite x
unfolding lt
top nan e = refl
top (inf true) e = e
top (inf false) e = refl
top (fin s m k) e = refl

bottom : (x : Float) → lt x (inf false) ≡ true → lt (inf true) x ≡ finite x
unfolding lt
bottom nan e = refl
bottom (inf true) e = refl
bottom (inf false) e = never e
bottom (fin s m k) e = refl

pub float_from_bits-top : goal.float_from_bits-top
unfolding nan_bits
float_from_bits-top c = tt

pub returns-then-x-top : goal.returns-then-x-top
unfolding of_bits neg
returns-then-x-top c = bottom c.args.x c.if-x-top.true

pub returns-else-x-top : goal.returns-else-x-top
unfolding of_bits
returns-else-x-top c = top c.args.x c.if-x-top.false
