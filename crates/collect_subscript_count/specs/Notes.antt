-- The notes of a walk: of each name the use that comes first so far. These are definitions.
use Rattle.std.specs.Prelude.{ℕ, zero, suc, ◌+◌, ◌-◌, ◌*◌, ◌%◌, ◌<◌, ◌≤◌, ◌≡◌, Bool, ◌&&◌, List, leb, ltb, length, get_or}
use Rattle.std.proofs.Math.Option.{Option, none as nothing, some}
use Rattle.base_words.specs.Word.{pick}

-- no use, or one with so many subscripts, noted at a place
pub data Mark : Type 0 where
  free : Mark
  taken : (place count : ℕ) → Mark

-- a use, if there is one, is noted at k, unless one at k or before is there
unfoldable pub noted : ℕ → Option ℕ → Mark → Mark
noted k nothing m = m
noted k (some c) free = taken k c
noted k (some c) (taken p d) = pick (ltb k p) (taken k c) (taken p d)

-- the use that a mark says
unfoldable pub used : Mark → Option ℕ
used free = nothing
used (taken p c) = some c

-- a mark's two words: its place, and one more than its count
unfoldable pub mark_of : ℕ → ℕ → Mark
mark_of p zero = free
mark_of p (suc c) = taken p (c % 4294967296)

-- whether the notes, which begin with the name `base`, have room for the name x
unfoldable pub room : ℕ → List ℕ → ℕ → Bool
room base t x = leb base x && ltb (2 * (x - base) + 1) (length t)

-- the mark of the name x; where there is no room for it, one that stays
unfoldable pub mark_at : ℕ → List ℕ → ℕ → Mark
mark_at base t x = pick (room base t x) (mark_of (get_or t (2 * (x - base)) 0) (get_or t (2 * (x - base) + 1) 0)) (taken 0 0)

-- the first use in what stands from lo to hi, if there is one, is noted at a place there
pub record Noted (lo hi : ℕ) (o : Option ℕ) (before after : Mark) : Type 0 where
  pub place : ℕ
  pub within : (count : ℕ) → o ≡ some count → (lo ≤ place) × (place < hi)
  pub is : after ≡ noted place o before

-- nothing is noted yet
pub record Blank (t : List ℕ) : Type 0 where
  pub zero_at : (i : ℕ) → get_or t i 0 ≡ 0
