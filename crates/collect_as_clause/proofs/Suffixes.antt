-- The last byte of a name, and what its suffix says of a type. Assumes nothing.
use Prim.Native.Nat.{ℕ, suc, ◌-◌}
use native.Mathlib.Omega.{arith}
use mathlib.Core.Path.{◌≡◌, refl, ap, ◌∙◌}
use mathlib.Core.Bool.{Bool, not, ◌&&◌}
use mathlib.Core.List.{List, [], ◌∷◌}
use lib.Dec.{eqb}
use lib.ListN.{length, get_or}
use Rattle.base_strings.specs.Name.{suffix}
use Rattle.rows_lookup.specs.Lookup.{from_suffix, from_type_ref}
use Rattle.entry_lookup.specs.Leaves.{last_byte}
use Rattle.tree_views.specs.View.{TypeRef, head}
use Rattle.collect_definition.specs.Collect.{last_of, disagrees}

-- the byte at the last place is the last byte
pub last_of_lem : (s : List ℕ) → last_byte s ≡ last_of s
unfolding last_byte last_of
last_of_lem [] = refl
last_of_lem (b ∷ []) = refl
last_of_lem (b ∷ (c ∷ bs)) =
    let e : length (b ∷ (c ∷ bs)) - 1 ≡ suc (length (c ∷ bs) - 1) = omega arith in
    ap (λ (i : ℕ). get_or (b ∷ (c ∷ bs)) i 0) e ∙ last_of_lem (c ∷ bs)

-- a suffix, and that of another type
pub suffix_disagrees : (s : List ℕ) {last h x y : ℕ} → last ≡ last_byte s → {t : Bool} → t ≡ suffix last → x ≡ from_type_ref h → y ≡ from_suffix last → (ty : TypeRef) → h ≡ head ty
    → (t && not (eqb x y)) ≡ disagrees (last_of s) ty
unfolding disagrees
suffix_disagrees s is told p q ty f = rw (← last_of_lem s, ← is, ← told, ← f, p, q) refl
