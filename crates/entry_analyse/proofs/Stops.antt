-- Collecting and the collision check stop only with numbers that leave zeros. Assumes nothing.
use Prim.Native.Nat.{ℕ}
use mathlib.Core.Path.{◌≡◌, refl, sym, subst}
use mathlib.Core.Logic.{◌⊎◌, inl, inr}
use mathlib.Core.Bool.{true}
use mathlib.Core.List.{List}
use mathlib.Core.Option.{some}
use Rattle.tree_stmt.specs.Tree.{Program}
use Rattle.base_strings.specs.Table.{string_at}
use Rattle.collect_buffers.specs.State.{State, running, stopped}
use Rattle.collect_buffers.specs.Refused.{zeroing}
use Rattle.collect_definition.specs.Collect.{given, analysed}
use Rattle.law_equivalence.specs.Rooms.{Free, runs, nine, Full, seven, eight, full}
use Rattle.law_equivalence.specs.CollectRooms.{analysed_meets}

-- a number that leaves zeros, if any
abbrev pub Zeroing : State → Type 0
Zeroing (running rows notes) = Unit {0}
Zeroing (stopped k) = zeroing k ≡ true

free_zeroing : (st : State) → Free st → Zeroing st
unfolding zeroing
free_zeroing _ runs = tt
free_zeroing _ nine = refl

full_zeroing : (st : State) → Full st → Zeroing st
unfolding zeroing
full_zeroing _ seven = refl
full_zeroing _ eight = refl

either_zeroing : (st t : State) → Free t → (st ≡ t) ⊎ Full st → Zeroing st
either_zeroing st t f (inl e) = subst Zeroing (sym e) (free_zeroing t f)
either_zeroing st t f (inr g) = full_zeroing st g

-- so it is of every program
pub analysed_zeroing : (N D : ℕ) (bytes ends erased : List ℕ) (p : Program) → Zeroing (analysed (given (some N) (some D) bytes ends erased) p)
analysed_zeroing N D bytes ends erased p =
    let m = analysed_meets (λ n. string_at bytes ends n) erased p in
    either_zeroing _ _ m.free (full m N D)
