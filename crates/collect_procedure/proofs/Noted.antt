-- Notes of first uses: the names that they have room for. Assumes nothing.
use Prim.Native.Nat.{ℕ, ◌+◌, ◌*◌, ◌<◌}
use native.Mathlib.Omega.{arith}
use mathlib.Core.Path.{◌≡◌}
use mathlib.Core.Bool.{true}
use mathlib.Core.List.{List, []}
use lib.ListN.{length}
use Rattle.collect_subscript_count.specs.Notes.{room}
use Rattle.collect_subscript_count.specs.Code.{Told}
use Rattle.collect_subscript_count.proofs.Table.{room_there, room_inside}

-- a name whose two words are in the notes has room there
pub room_below : (t : List ℕ) (x : ℕ) → 2 * x + 1 < length t → room 0 t x ≡ true
room_below t x h = room_there 0 t x (omega arith) (omega (arith, h))

no_room : (x : ℕ) → room 0 [] x ≡ true → ⊥
no_room x h = omega (arith, room_inside 0 [] x h)

-- no notes tell of no name
pub told_nothing : (ws : List ℕ) (at : ℕ) → Told ws at 0 []
told_nothing ws at = record { gives = λ ns n v end S x h. absurd (no_room x h) }
