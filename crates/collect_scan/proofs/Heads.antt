-- A statement by its head word: which one it is, and that those of no arm of the match do nothing. Assumes nothing.
use Prim.Native.Nat.{ℕ, ◌+◌, ◌≤◌}
use native.Mathlib.Omega.{arith}
use mathlib.Core.Path.{◌≡◌, refl, sym, ap, subst}
use mathlib.Core.Bool.{true}
use mathlib.Core.List.{List}
use mathlib.Core.Option.{some}
use lib.ListN.{length, get_or}
use borrow.Author.Tests.{ne_eqb}
use Rattle.base_words.specs.Word.{kind_of}
use Rattle.tree_expr.specs.Expr.{Expr}
use Rattle.tree_stmt.specs.Sorts.{stmt, Kind, sorts, kind_at, number_of}
use Rattle.tree_stmt.specs.KindLaws.{none_of}
use Rattle.tree_stmt.specs.Tree.{one, row, Tree, Stmt, depth_t, over}
use Rattle.tree_stmt.specs.Stands.{Stands}
use Rattle.tree_views.specs.View.{View, view}
use Rattle.tree_views.specs.KindLaws.{view_kinds, view_other}
use Rattle.collect_buffers.specs.State.{State}
use Rattle.collect_buffers.specs.Held.{Fit}
use Rattle.collect_buffers.proofs.Compose.{same, nothing_does}
use Rattle.collect_buffers.specs.declared.Counts.{Counts}
use Rattle.collect_definition.specs.Seen.{Seen, see}
use Rattle.collect_definition.specs.Collect.{Given, given, statement}
use Rattle.collect_definition.specs.Code.{Collects}
use Rattle.collect_procedure.specs.Post.{StmtTo}
use Rattle.tree_walk.specs.Plans.{Shallow}
use Rattle.tree_walk.proofs.Walk.{head_kind, of_number}
use Rattle.collect_scan.specs.Walk.{Idle, Stated}

-- ---- which statement it is

-- a statement of the kind j stands there
pub at_kind : {ns : List ℕ} {n : ℕ} {ws : List ℕ} {at : ℕ} (j : ℕ) → kind_of (get_or ws at 0) ≡ 64 + j → (t : Shallow (one stmt) ns n 100 ws at) → StmtTo ns n (kind_at j) ws at t.end
unfolding depth_t
at_kind {ns} {n} {ws} {at} j q t = go t.tree t.stands t.shallow
  where
    go : (v : Tree Expr (one stmt)) → Stands ws ns n at v t.end → depth_t v ≤ 100 → StmtTo ns n (kind_at j) ws at t.end
    go (Stmt k line r) s h = subst (λ (k : Kind). StmtTo ns n k ws at t.end) (of_number k j (omega (arith, head_kind s, q))) (record { stmt = record { line = line; fields = r; end = t.end; stands = s; shallow = omega arith }; ends = refl })

-- what its code did is what its definition says
pub of_kind : {ns : List ℕ} {n : ℕ} {ws bytes ends erased : List ℕ} {scope at : ℕ} {s r : Counts} {b d b' d' : List ℕ} (j : ℕ) → kind_of (get_or ws at 0) ≡ 64 + j
    → Collects ns n (kind_at j) ws bytes ends erased scope at s r b d b' d' → Stated ws ns n bytes ends erased scope at s r b d b' d'
of_kind {ns} {n} {ws} {bytes} {ends} {erased} {scope} {at} {s} {r} {b} {d} {b'} {d'} j q c = record {
  does = λ k line f end h. (subst (λ (k : Kind). Collects ns n k ws bytes ends erased scope at s r b d b' d') (sym (of_number k j (omega (arith, head_kind h, q)))) c).does line f end h;
}

-- ---- the kinds that do nothing

-- the j-th kind has no arm in the match
pub record Quiet (j : ℕ) : Type 0 where
  pub no_label : j ≡ 0 → ⊥
  pub no_label_name : j ≡ 1 → ⊥
  pub no_dim : j ≡ 15 → ⊥
  pub no_shared : j ≡ 17 → ⊥
  pub no_static : j ≡ 18 → ⊥
  pub no_redim : j ≡ 19 → ⊥
  pub no_sub : j ≡ 20 → ⊥
  pub no_function : j ≡ 21 → ⊥
  pub no_const : j ≡ 25 → ⊥
  pub no_option_base : j ≡ 28 → ⊥
  pub no_type_def : j ≡ 29 → ⊥

none_shown : (k : Kind) → Quiet (number_of k) → none_of view_kinds k ≡ true
unfolding none_of view_kinds number_of
none_shown k q = rw (ne_eqb (number_of k) 0 q.no_label, ne_eqb (number_of k) 1 q.no_label_name, ne_eqb (number_of k) 15 q.no_dim, ne_eqb (number_of k) 17 q.no_shared, ne_eqb (number_of k) 18 q.no_static, ne_eqb (number_of k) 19 q.no_redim, ne_eqb (number_of k) 20 q.no_sub, ne_eqb (number_of k) 21 q.no_function, ne_eqb (number_of k) 25 q.no_const, ne_eqb (number_of k) 28 q.no_option_base, ne_eqb (number_of k) 29 q.no_type_def) refl

-- a statement of such a kind leaves the state
pub quiet : (G : Given) (scope line : ℕ) (k : Kind) (r : Tree Expr (row (sorts k))) → Quiet (number_of k) → (st : State) → st ≡ statement G scope line (view k (over see r)) st
unfolding statement
quiet G scope line k r q st = ap (λ (v : View Seen). statement G scope line v st) (sym (view_other k (none_shown k q) (over see r)))

-- the kind of such a head is one of them
pub idle_quiet : {k j : ℕ} → Idle k → k ≡ 64 + j → Quiet j
idle_quiet I q = record { no_label = λ e. I.no_label (omega arith); no_label_name = λ e. I.no_label_name (omega arith); no_dim = λ e. I.no_dim (omega arith); no_shared = λ e. I.no_shared (omega arith); no_static = λ e. I.no_static (omega arith); no_redim = λ e. I.no_redim (omega arith); no_sub = λ e. I.no_sub (omega arith); no_function = λ e. I.no_function (omega arith); no_const = λ e. I.no_const (omega arith); no_option_base = λ e. I.no_option_base (omega arith); no_type_def = λ e. I.no_type_def (omega arith) }

-- so nothing needs to be done for it
pub nothing_said : {ws ns : List ℕ} {n : ℕ} {bytes ends erased : List ℕ} {scope at : ℕ} {s : Counts} {b d : List ℕ} → Fit s (length b) (length d) → Idle (kind_of (get_or ws at 0)) → Stated ws ns n bytes ends erased scope at s s b d b d
nothing_said {bytes = bytes} {ends} {erased} {scope} fit I = record {
  does = λ k line f end h.
      same (λ N D. statement (given (some N) (some D) bytes ends erased) scope line (view k (over see f))) (λ N D st. quiet (given (some N) (some D) bytes ends erased) scope line k f (idle_quiet I (head_kind h)) st) (nothing_does fit);
}
