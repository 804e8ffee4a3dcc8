-- Demand 3: what it says. Its theorem, `demand_3`, is in proofs/Demand3.antt. Assumes nothing.
--
--   For every two accepted programs with the same strings and the same erased names, each resolved under its own tables, the resolved trees are equal
--   word for word exactly when the second program can be made from the first by a list of steps, perhaps empty, each of one of two kinds under the
--   first one's tables: putting or taking a pair of parentheses anywhere but directly around a whole argument for a known procedure's by-reference
--   parameter that is neither array nor record; and writing a name with its list as a call or as an array element, where that name is a visible array
--   and no procedure. Whenever that is so, the tables and the diagnostics are equal word for word too, and resolving either resolved tree again under
--   those tables gives the same words.
--
-- A program is a list of words. `Accepted bytes ends erased words a` (Analysis) says that the words, with these strings and these erased names, are given
-- no number where the lent buffers have no limit, and that a is what they are given: the tree that they are read as, the rows of `collect`, the
-- diagnostics with the collisions, and the words that `resolve_array_accesses` makes of the tree under these rows. `Steps rows p q` (Step) is a list of
-- steps from the tree p to the tree q under rows; the trees between are of any size and depth.
use Rattle.std.specs.Prelude.{ℕ, ◌↔◌, ◌≡◌, List}
use Rattle.base_words.specs.Told.{gives}
use Rattle.law_equivalence.specs.Analysis.{Analysis, resolution}
use Rattle.law_equivalence.specs.Step.{Steps}

-- the tables and the diagnostics are equal, and either resolved tree, read and resolved again under those tables, gives its own words
pub record Agree (bytes ends : List ℕ) (first second : Analysis) : Type 0 where
  pub rows : first.rows ≡ second.rows
  pub diagnostics : first.diagnostics ≡ second.diagnostics
  pub first_again : (at : ℕ) → resolution first.rows at bytes ends first.resolved ≡ gives first.resolved
  pub second_again : (at : ℕ) → resolution first.rows at bytes ends second.resolved ≡ gives second.resolved

-- both sentences of the demand
pub record Demand3 (bytes ends : List ℕ) (first second : Analysis) : Type 0 where
  pub exactly : (first.resolved ≡ second.resolved) ↔ Steps first.rows first.tree second.tree
  pub whenever : first.resolved ≡ second.resolved → Agree bytes ends first second
