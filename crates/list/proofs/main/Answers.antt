-- main: the listing's length is within its buffer.
use mathlib.Core.Path.{◌≡◌, sym, ap}
use mathlib.Core.List.{List}
use Prim.Native.Nat.{ℕ, ◌≤◌}
use native.Mathlib.Omega.{arith}
use lib.ListN.{length, take, length-take}
use lib.Seq.{length-take-le}
use Rattle.list.proofs.main.Goals as goal

within : (r : ℕ) (text last : List ℕ) → (r ≡ length text) × (take r last ≡ text) → r ≤ length last
within r text last e = omega (arith, e.0, ap length e.1, length-take r last)

pub slice_bounds-out-end : goal.slice_bounds-out-end
slice_bounds-out-end c = within _ _ c.put_whole-k.new.out c.put_whole-k.ensures

pub slice_bounds-write_all-end : goal.slice_bounds-write_all-end
slice_bounds-write_all-end c = sym (length-take-le _ _ (within _ _ c.put_whole-k.new.out c.put_whole-k.ensures))
