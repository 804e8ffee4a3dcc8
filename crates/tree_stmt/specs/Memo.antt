-- Ends of statements that were read, so that nobody has to read them again. These are definitions.
use Rattle.std.specs.Prelude.{ℕ, zero, suc, ◌+◌, ◌*◌, ◌≤◌, ◌≡◌, refl, List, get_or, replicate}
use Rattle.std.proofs.Common.{arith}
use Rattle.tree_expr.specs.Expr.{Expr}
use Rattle.tree_stmt.specs.Sorts.{stmt}
use Rattle.tree_stmt.specs.Tree.{one, Tree, depth_t}
use Rattle.tree_stmt.specs.Stands.{Stands}

-- Slots of two words: a place plus 1, or 0 for none; and the place past the statement that stands there, if one does.
pub record Remembers (ws ns : List ℕ) (n : ℕ) (memo : List ℕ) : Type 0 where
  pub right : (i at : ℕ) → get_or memo (2 * i) 0 ≡ at + 1 → (v : Tree Expr (one stmt)) (end : ℕ) → Stands ws ns n at v end → end ≡ get_or memo (2 * i + 1) 0

-- ---- what the functions on a memo promise

-- every statement that stands there ends at a place
unfoldable pub EndsAt : List ℕ → List ℕ → ℕ → ℕ → ℕ → Type 0
EndsAt ws ns n at end = (v : Tree Expr (one stmt)) (e : ℕ) → Stands ws ns n at v e → e ≡ end

-- the end of the statement there, whatever the memo remembers
pub record Recalled (memo : List ℕ) (at r : ℕ) : Type 0 where
  pub gives : (ws ns : List ℕ) (n : ℕ) → Remembers ws ns n memo → EndsAt ws ns n at r

-- a right end is remembered with the others
pub record Remembered (before : List ℕ) (at end : ℕ) (after : List ℕ) : Type 0 where
  pub gives : (ws ns : List ℕ) (n : ℕ) → Remembers ws ns n before → EndsAt ws ns n at end → Remembers ws ns n after

-- the end of a field of a sort that is 10, a statement
pub record Noted (sort : ℕ) (before : List ℕ) (at end : ℕ) (after : List ℕ) : Type 0 where
  pub gives : (ws ns : List ℕ) (n : ℕ) → Remembers ws ns n before → (sort ≡ 10 → EndsAt ws ns n at end) → Remembers ws ns n after

-- what a reading leaves in the memo is right, if what it found there was
pub record Keeps (ws ns : List ℕ) (n : ℕ) (before after : List ℕ) : Type 0 where
  pub gives : Remembers ws ns n before → Remembers ws ns n after

-- the place past the statement there, if it is not too deep
pub record Past (ws ns : List ℕ) (n : ℕ) (memo : List ℕ) (at r : ℕ) : Type 0 where
  pub gives : Remembers ws ns n memo → (v : Tree Expr (one stmt)) (end : ℕ) → Stands ws ns n at v end → depth_t v ≤ 100 → r ≡ end

-- ---- a memo of zeros remembers nothing

-- a word of zeros is 0, and so is one past them
pub zero_at : (k i : ℕ) → ◌≡◌ {A = ℕ} (get_or (replicate {A = ℕ} k 0) i 0) 0
zero_at zero i = refl
zero_at (suc k) zero = refl
zero_at (suc k) (suc i) = zero_at k i

-- whatever the words: no slot has a place
pub blank : (ws ns : List ℕ) (n k : ℕ) → Remembers ws ns n (replicate {A = ℕ} k 0)
blank ws ns n k = record { right = λ i at e v end S. absurd (omega (arith, e, zero_at k (2 * i))) }
