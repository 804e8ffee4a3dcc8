-- What each arm of the match asks of a statement of its kind, and that what it does is what the statement does. Assumes nothing.
use Prim.Native.Nat.{ℕ, ◌+◌, ◌≤◌}
use native.Mathlib.Omega.{arith}
use mathlib.Core.Path.{◌≡◌, subst}
use mathlib.Core.List.{List}
use lib.ListN.{length, get_or}
use Rattle.base_words.specs.Word.{kind_of}
use Rattle.tree_stmt.specs.Sorts.{stmt, kinds, kind_at, label, label_name, dim, shared, static, redim, sub, function, const, option_base, type_def}
use Rattle.tree_stmt.specs.Tree.{one}
use Rattle.collect_buffers.specs.State.{State, running, stopped}
use Rattle.collect_buffers.specs.Held.{Fit, Held}
use Rattle.collect_buffers.specs.declared.Counts.{Counts}
use Rattle.collect_definition.specs.Code.{StmtAt, Collects, SomeStmt, CollectsAny, Named}
use Rattle.collect_labels_const.specs.Labels.{ConstAt, HeldConsts, ConstsHeld}
use Rattle.collect_type.specs.Types.{SomeType}
use Rattle.collect_dim.specs.Declarators.{ReadyStmt}
use Rattle.law_collected_rows.specs.Good.{Good}
use Rattle.collect_procedure.specs.Post.{StmtTo}
use Rattle.collect_scan.specs.Walk.{Kept, Ready, ReadyProcedure, Stated}
use Rattle.collect_scan.proofs.Heads.{at_kind, of_kind}

-- CONST rows may be folded under
consts_held : {ns : List ℕ} {n : ℕ} {s : Counts} {b d : List ℕ} → Kept ns n s b d → ConstsHeld n s b
consts_held {ns} {n} {s} {b} {d} K go = by K.state K.held K.good
  where
    by : (st : State) → Held K.rows_room K.notes_room st s b d → Good ns n st → HeldConsts n s b
    by (running rows notes) H g = record { rows = rows; holds = H.inside.1; consts = g.consts }
    by (stopped k) H g = absurd (omega (arith, H.inside.0, H.inside.1))

module _ {ws ns bytes ends : List ℕ} {scope at : ℕ} {s : Counts} {b d : List ℕ} (R : Ready (one stmt) ws ns bytes ends scope at s b d) (j : ℕ) (q : kind_of (get_or ws at 0) ≡ 64 + j) where
  there : StmtAt ns (length ends) (kind_at j) ws at
  there = (at_kind j q R.tree).stmt

  abbrev any_there : SomeStmt (kind_at j) ws at
  any_there = record { names = ns; strings = length ends; stmt = there }

  declared_there : ReadyStmt (kind_at j) bytes ends ws at
  declared_there = record { any = any_there; named = R.around.named }

-- ---- the arms

module _ {ws ns bytes ends : List ℕ} {scope at : ℕ} {s : Counts} {b d : List ℕ} (R : Ready (one stmt) ws ns bytes ends scope at s b d) where
  -- what the arm of a line number asks
  pub label_there : kind_of (get_or ws at 0) ≡ 64 → SomeStmt label ws at × Fit s (length b) (length d)
  unfolding kind_at kinds
  label_there q = (any_there R 0 q, R.kept.fit)

  -- what the arm of a label asks
  pub label_name_there : kind_of (get_or ws at 0) ≡ 65 → SomeStmt label_name ws at × Fit s (length b) (length d)
  unfolding kind_at kinds
  label_name_there q = (any_there R 1 q, R.kept.fit)

  -- what the arm of DIM asks
  pub dim_there : kind_of (get_or ws at 0) ≡ 79 → ReadyStmt dim bytes ends ws at × Fit s (length b) (length d)
  unfolding kind_at kinds
  dim_there q = (declared_there R 15 q, R.kept.fit)

  -- what the arm of SHARED asks
  pub shared_there : kind_of (get_or ws at 0) ≡ 81 → SomeStmt shared ws at × Fit s (length b) (length d)
  unfolding kind_at kinds
  shared_there q = (any_there R 17 q, R.kept.fit)

  -- what the arm of STATIC asks
  pub statics_there : kind_of (get_or ws at 0) ≡ 82 → SomeStmt static ws at × Fit s (length b) (length d)
  unfolding kind_at kinds
  statics_there q = (any_there R 18 q, R.kept.fit)

  -- what the arm of REDIM asks
  pub redim_there : kind_of (get_or ws at 0) ≡ 83 → ReadyStmt redim bytes ends ws at × Fit s (length b) (length d)
  unfolding kind_at kinds
  redim_there q = (declared_there R 19 q, R.kept.fit)

  -- what the arm of CONST asks
  pub constant_there : kind_of (get_or ws at 0) ≡ 89 → ConstAt ws at s b × Fit s (length b) (length d)
  unfolding kind_at kinds
  constant_there q = (record { any = any_there R 25 q; held = consts_held R.kept }, R.kept.fit)

  -- what the arm of OPTION BASE asks
  pub option_base_there : kind_of (get_or ws at 0) ≡ 92 → SomeStmt option_base ws at × Fit s (length b) (length d)
  unfolding kind_at kinds
  option_base_there q = (any_there R 28 q, R.kept.fit)

  -- what the arm of TYPE asks
  pub type_def_there : kind_of (get_or ws at 0) ≡ 93 → SomeType ws at × Fit s (length b) (length d)
  unfolding kind_at kinds
  type_def_there q = (record { any = any_there R 29 q; few = omega (arith, R.around.counted, R.around.few) }, R.kept.fit)

-- a procedure, with its end
module _ {ws ns bytes ends : List ℕ} {scope at end : ℕ} {s : Counts} {b d : List ℕ} (P : ReadyProcedure ws ns bytes ends scope at end s b d) where
  -- of the kind j
  ending : (j : ℕ) → kind_of (get_or ws at 0) ≡ 64 + j → StmtTo ns (length ends) (kind_at j) ws at end
  ending j q = subst (StmtTo ns (length ends) (kind_at j) ws at) P.over_at_lem (at_kind j q P.ready.tree)

  -- what the arm of SUB asks
  pub sub_there : kind_of (get_or ws at 0) ≡ 84 → StmtTo ns (length ends) sub ws at end × Named bytes ends ns × (length ends ≤ 1024) × Fit s (length b) (length d)
  unfolding kind_at kinds
  sub_there q = (ending 20 q, P.ready.around.named, P.ready.around.few, P.ready.kept.fit)

  -- a procedure that is no SUB is a FUNCTION
  pub function_kind_lem : (kind_of (get_or ws at 0) ≡ 84 → ⊥) → kind_of (get_or ws at 0) ≡ 85
  function_kind_lem f = omega (arith, P.from, P.upto)

  -- what the arm of FUNCTION asks
  pub function_there : kind_of (get_or ws at 0) ≡ 85 → StmtTo ns (length ends) function ws at end × Named bytes ends ns × (length ends ≤ 1024) × Fit s (length b) (length d)
  unfolding kind_at kinds
  function_there q = (ending 21 q, P.ready.around.named, P.ready.around.few, P.ready.kept.fit)

-- what the arm of the kind j does
module _ {ws ns bytes ends erased : List ℕ} {n scope at : ℕ} {s r : Counts} {b d b' d' : List ℕ} where
  -- what the arm of a line number did is what the statement does
  pub label_done : kind_of (get_or ws at 0) ≡ 64 → CollectsAny label ws scope at s r b d b' d' → Stated ws ns n bytes ends erased scope at s r b d b' d'
  unfolding kind_at kinds
  label_done q c = of_kind 0 q (c.all ns n bytes ends erased)

  -- what the arm of a label did is what the statement does
  pub label_name_done : kind_of (get_or ws at 0) ≡ 65 → CollectsAny label_name ws scope at s r b d b' d' → Stated ws ns n bytes ends erased scope at s r b d b' d'
  unfolding kind_at kinds
  label_name_done q c = of_kind 1 q (c.all ns n bytes ends erased)

  -- what the arm of DIM did is what the statement does
  pub dim_done : kind_of (get_or ws at 0) ≡ 79 → ((ns : List ℕ) (n : ℕ) → Collects ns n dim ws bytes ends erased scope at s r b d b' d') → Stated ws ns n bytes ends erased scope at s r b d b' d'
  unfolding kind_at kinds
  dim_done q c = of_kind 15 q (c ns n)

  -- what the arm of SHARED did is what the statement does
  pub shared_done : kind_of (get_or ws at 0) ≡ 81 → CollectsAny shared ws scope at s r b d b' d' → Stated ws ns n bytes ends erased scope at s r b d b' d'
  unfolding kind_at kinds
  shared_done q c = of_kind 17 q (c.all ns n bytes ends erased)

  -- what the arm of STATIC did is what the statement does
  pub statics_done : kind_of (get_or ws at 0) ≡ 82 → CollectsAny static ws scope at s r b d b' d' → Stated ws ns n bytes ends erased scope at s r b d b' d'
  unfolding kind_at kinds
  statics_done q c = of_kind 18 q (c.all ns n bytes ends erased)

  -- what the arm of REDIM did is what the statement does
  pub redim_done : kind_of (get_or ws at 0) ≡ 83 → ((ns : List ℕ) (n : ℕ) → Collects ns n redim ws bytes ends erased scope at s r b d b' d') → Stated ws ns n bytes ends erased scope at s r b d b' d'
  unfolding kind_at kinds
  redim_done q c = of_kind 19 q (c ns n)

  -- what the arm of SUB did is what the statement does
  pub sub_done : kind_of (get_or ws at 0) ≡ 84 → ((erased : List ℕ) → Collects ns n sub ws bytes ends erased scope at s r b d b' d') → Stated ws ns n bytes ends erased scope at s r b d b' d'
  unfolding kind_at kinds
  sub_done q c = of_kind 20 q (c erased)

  -- what the arm of FUNCTION did is what the statement does
  pub function_done : kind_of (get_or ws at 0) ≡ 85 → ((erased : List ℕ) → Collects ns n function ws bytes ends erased scope at s r b d b' d') → Stated ws ns n bytes ends erased scope at s r b d b' d'
  unfolding kind_at kinds
  function_done q c = of_kind 21 q (c erased)

  -- what the arm of CONST did is what the statement does
  pub constant_done : kind_of (get_or ws at 0) ≡ 89 → ((scope : ℕ) → CollectsAny const ws scope at s r b d b' d') → Stated ws ns n bytes ends erased scope at s r b d b' d'
  unfolding kind_at kinds
  constant_done q c = of_kind 25 q ((c scope).all ns n bytes ends erased)

  -- what the arm of OPTION BASE did is what the statement does
  pub option_base_done : kind_of (get_or ws at 0) ≡ 92 → ((scope : ℕ) → CollectsAny option_base ws scope at s r b d b' d') → Stated ws ns n bytes ends erased scope at s r b d b' d'
  unfolding kind_at kinds
  option_base_done q c = of_kind 28 q ((c scope).all ns n bytes ends erased)

  -- what the arm of TYPE did is what the statement does
  pub type_def_done : kind_of (get_or ws at 0) ≡ 93 → CollectsAny type_def ws scope at s r b d b' d' → Stated ws ns n bytes ends erased scope at s r b d b' d'
  unfolding kind_at kinds
  type_def_done q c = of_kind 29 q (c.all ns n bytes ends erased)
