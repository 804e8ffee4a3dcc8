-- `test_calls::whole` is safe: it takes the words of a number within 32 bits and a sign alone. Assumes nothing.
use mathlib.Core.Path.{◌≡◌}
use mathlib.Core.Bool.{false}
use Prim.Native.Nat.{◌≤◌, ◌<◌}
use native.Mathlib.Omega.{arith}
use lib.IntN.{ℤ, pos, negsuc, nat_abs}
use lib.Signed.{lt_z}
use borrow.Author.Tests.{ltb-false}
use mir.Syntax.{w64}
use mir.Val.{to_z, of_z}
use Rattle.test_calls.proofs.whole.Goals as goal

small : (z : ℤ) → lt_z z (negsuc 4294967294) ≡ false → lt_z (pos 4294967295) z ≡ false → nat_abs z < 4294967296
small (pos a) l h = let k : a ≤ 4294967295 = ltb-false 4294967295 a h in omega arith
small (negsuc a) l h = let k : a ≤ 4294967294 = ltb-false 4294967294 a l in omega arith

pub whole_words-requires : goal.whole_words-requires
whole_words-requires g c = small (to_z w64 (of_z w64 c.args.z)) c.if-z-ltminus4294967295.false c.if-z-gt4294967295.false
