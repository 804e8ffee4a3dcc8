-- What the code asks, and what its answers are: the types, the array that was there, the erased names. Assumes nothing.
use Prim.Native.Nat.{ℕ, ◌+◌, ◌<◌, ◌≤◌}
use native.Mathlib.Omega.{arith}
use native.Mathlib.Numerals.{add-one}
use mathlib.Core.Path.{◌≡◌, refl, sym, ◌∙◌}
use mathlib.Core.Bool.{Bool, true, false, not, ◌&&◌, ◌||◌}
use mathlib.Core.List.{List}
use lib.Dec.{eqb}
use lib.ListN.{length, get_or, drop}
use lib.Seq.{drop-cons, drop-length}
use borrow.Author.Tests.{eq-eqb, ne_eqb}
use Rattle.base_words.specs.Word.{pick}
use Rattle.collect_definition.specs.Collect.{member}
use Rattle.collect_dim.specs.declared.Old.{Old}
use Rattle.collect_dim.specs.Declarators.{clash_of}
use Rattle.std.specs.Prelude.{Some, None}

-- ---- tests

-- a test, or one that fails: the test
pub or_none : (t : Bool) {u : Bool} → u ≡ false → (t || u) ≡ t
or_none true e = refl
or_none false e = e

-- ---- erased names

module _ (xs : List ℕ) (x : ℕ) where
  -- those from i on: the one at i, and those after it
  pub member_step : (hit : Bool) (i : ℕ) → i < length xs → ((hit || eqb (get_or xs i 0) x) || member x (drop (i + 1) xs)) ≡ (hit || member x (drop i xs))
  unfolding member
  member_step true i h = refl
  member_step false i h = rw (drop-cons xs i 0 h, add-one i) refl

  -- past the last it is not
  pub member_end : (i : ℕ) → i ≤ length xs → length xs ≤ i → member x (drop i xs) ≡ false
  unfolding member
  member_end i h l =
      let e : i ≡ length xs = omega arith in
      rw (e, drop-length xs) refl

-- ---- what is said of an array that is declared again

module _ (erased : List ℕ) (is_redim preserve : Bool) (name rank : ℕ) (old : Old) where
  -- 19, where it is a DIM of a name that isn't erased
  pub clash_kept : {t : Bool} → t ≡ (not is_redim && not (member name erased)) → t ≡ true → Some (record { code = 19; number = 0 }) ≡ clash_of erased is_redim preserve name rank (Some old)
  unfolding clash_of
  clash_kept k t = rw (sym k ∙ t) refl

  module _ {t : Bool} (k : t ≡ (not is_redim && not (member name erased))) (n : t ≡ false) where
    -- nothing, where it has as many dimensions
    pub clash_same : old.rank ≡ rank → None ≡ clash_of erased is_redim preserve name rank (Some old)
    unfolding clash_of
    clash_same q = rw (sym k ∙ n, eq-eqb old.rank rank q) refl

    -- else 20 with the old rank, where REDIM PRESERVE changes it, or 21
    pub clash_other : (old.rank ≡ rank → ⊥) → {code : ℕ} → code ≡ pick preserve 20 21 → Some (record { code = code; number = old.rank }) ≡ clash_of erased is_redim preserve name rank (Some old)
    unfolding clash_of
    clash_other q e = rw (sym k ∙ n, ne_eqb old.rank rank q, e) refl
