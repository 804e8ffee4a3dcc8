-- A loop over parameters: the first i of them were read, and those that are left stand at the place. `P` is what was done with the ones read.
-- Assumes nothing.
use Prim.Native.Nat.{ℕ, ◌+◌, ◌<◌, ◌≤◌}
use mathlib.Core.Path.{◌≡◌, subst}
use mathlib.Core.List.{List, [], ◌∷◌, ◌++◌}
use lib.ListN.{length}
use Rattle.tree_stmt.specs.Sorts.{Param as ParamRow}
use Rattle.tree_stmt.specs.Tree.{row}
use Rattle.tree_stmt.specs.Stands.{SomeTree}
use Rattle.tree_views.specs.View.{Param, param}
use Rattle.collect_as_clause.specs.Turns.{Turn, turn_some, turn_next, turn_end}
use Rattle.collect_procedure.specs.Post.{ParamOf, ParamIs, ParamsAt, SomeParams}
use Rattle.collect_procedure.specs.declared.read.ParamAt.{ParamAt}

-- i of k parameters read
abbrev pub Walked : (P : List Param → Type 0) (ws : List ℕ) (from k at i : ℕ) → Type 0
Walked P ws from k at i = Turn param P ws from k at i

module _ {P : List Param → Type 0} {ws : List ℕ} {from k at i : ℕ} (W : Turn param P ws from k at i) where
  -- the next parameter stands at the place
  pub walk_place : i < k → SomeParams ws from k → SomeTree (row ParamRow) ws at
  walk_place h S =
      let T = S.there in
      turn_some W h (record { names = T.names; strings = T.strings; tree = T.tree; end = T.end; stands = T.stands; counted = T.counted })

  -- one more was read
  pub walk_next : {r : ParamAt} (Q : List Param → Type 0) → i < k → ParamIs ws at r
      → ((done : List Param) (p : Param) → length done ≡ i → ParamOf r p → P done → Q (done ++ (p ∷ []))) → Turn param Q ws from k r.next (i + 1)
  walk_next {r} Q h I step = turn_next W h Q r.next (λ ns n v end s. let J = I.is ns n v end s in (J.1, λ done many p. step done (param v) many J.0 p))

  -- all were read: P holds of them
  pub walk_end : k ≤ i → (ps : List Param) → ParamsAt ws from k ps → P ps
  walk_end h ps T = subst P T.are (turn_end W h T.names T.strings T.tree T.end T.stands T.counted).1

  -- and the place is past them
  pub walk_at : k ≤ i → (ps : List Param) (T : ParamsAt ws from k ps) → at ≡ T.end
  walk_at h ps T = (turn_end W h T.names T.strings T.tree T.end T.stands T.counted).0
