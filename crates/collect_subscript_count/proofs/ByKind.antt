-- Kinds of statements: those in which no statement stands, and the uses of those without targets. Assumes nothing.
use Prim.Native.Nat.{ℕ, ◌+◌}
use native.Mathlib.Omega.{arith}
use mathlib.Core.Path.{◌≡◌, refl, sym, ap, ap₂, subst, ◌∙◌}
use mathlib.Core.Bool.{Bool, true, false, not, ◌&&◌, false≢true}
use mathlib.Mathlib.Data.Bool.Basic.{and_elim_left, and_elim_right}
use mathlib.Core.List.{List}
use mathlib.Core.Option.{Option, none as nothing}
use lib.ListN.{get_or}
use Rattle.base_words.specs.Word.{kind_of}
use Rattle.base_words.specs.Each.{tuple}
use Rattle.tree_expr.specs.Expr.{Expr}
use Rattle.tree_stmt.specs.Sorts.{Sort, leaf, expr, stmt, many, group, either, never, Sorts, nil, ◌&◌, Kind, sorts, number_of, kind_at, kinds}
use Rattle.tree_stmt.specs.KindLaws.{none_of, same_kinds}
use Rattle.tree_stmt.specs.Tree.{Shape, one, row, rows, Tree, word, value, Stmt, list, part, this, that, done, cons, none, more}
use Rattle.tree_stmt.specs.Stands.{Stands}
use Rattle.tree_walk.proofs.Walk.{head_kind, of_number, fields}
use Rattle.tree_views.specs.Uses.{plain, uses}
use Rattle.tree_views.specs.KindLaws.{target_kinds, uses_plain}
use Rattle.collect_subscript_count.specs.Subscripts.{or_else, in_expr, in_stmt, subscript_count}
use Rattle.collect_subscript_count.specs.Code.{targeted}
use Rattle.collect_subscript_count.proofs.Expressions.{or_else_none}

-- the use of a name in an expression
abbrev pub used_in : ℕ → Expr → Option ℕ
used_in name e = in_expr name e

-- ---- sorts in which no statement stands

unfoldable mutual
  -- of a field's sort
  pub quiet_s : Sort → Bool
  quiet_s (leaf l) = true
  quiet_s expr = true
  quiet_s stmt = false
  quiet_s (many ss) = quiet_r ss
  quiet_s (group ss) = quiet_r ss
  quiet_s (either k ss s) = quiet_r ss && quiet_s s
  quiet_s never = true

  -- of a row's
  pub quiet_r : Sorts → Bool
  quiet_r nil = true
  quiet_r (s & ss) = quiet_s s && quiet_r ss

quiet : Shape → Bool
quiet (one s) = quiet_s s
quiet (row ss) = quiet_r ss
quiet (rows ss) = quiet_r ss

quiet_none : (name : ℕ) {i : Shape} (v : Tree Expr i) → quiet i ≡ true → subscript_count used_in name v ≡ nothing
unfolding subscript_count quiet quiet_s quiet_r or_else
quiet_none name (word x) q = refl
quiet_none name (value e) q = refl
quiet_none name (Stmt k line r) q = absurd (false≢true q)
quiet_none name (list rs) q = quiet_none name rs q
quiet_none name (part r) q = quiet_none name r q
quiet_none name (this {k} {ss} {s} r) q = quiet_none name r (and_elim_left (quiet_r ss) (quiet_s s) q)
quiet_none name (that {k} {ss} {s} v) q = quiet_none name v (and_elim_right (quiet_r ss) (quiet_s s) q)
quiet_none name done q = refl
quiet_none name (cons {s} {ss} v r) q = ap₂ or_else (quiet_none name v (and_elim_left (quiet_s s) (quiet_r ss) q)) (quiet_none name r (and_elim_right (quiet_s s) (quiet_r ss) q))
quiet_none name none q = refl
quiet_none name (more r rs) q = ap₂ or_else (quiet_none name r q) (quiet_none name rs q)

-- a statement without statements in it
pub stmt_quiet : (name : ℕ) (k : Kind) (line : ℕ) (r : Tree Expr (row (sorts k))) → quiet_r (sorts k) ≡ true → subscript_count used_in name (Stmt k line r) ≡ in_stmt used_in name (uses k r)
unfolding subscript_count quiet
stmt_quiet name k line r q = ap (or_else (in_stmt used_in name (uses k r))) (quiet_none name r q) ∙ or_else_none (in_stmt used_in name (uses k r))

-- ---- a statement of a kind

module _ {ws ns : List ℕ} {n at end : ℕ} where
  -- what holds of every statement of a kind holds of one whose head says it
  pub of_kind : (j : ℕ) (C : Tree Expr (one stmt) → Type 0) → ((line : ℕ) (r : Tree Expr (row (sorts (kind_at j)))) → Stands ws ns n (at + 1) r end → C (Stmt (kind_at j) line r)) → kind_of (get_or ws at 0) ≡ 64 + j → {v : Tree Expr (one stmt)} → Stands ws ns n at v end → C v
  of_kind j C f q {v = Stmt k line r} s = subst (λ (k : Kind). (r : Tree Expr (row (sorts k))) → Stands ws ns n (at + 1) r end → C (Stmt k line r)) (sym (of_number k j (omega (arith, head_kind s, q)))) (λ r t. f line r t) r (fields s)

-- ---- all other kinds

-- they have no such targets, and their expressions stand in the words' order
pub plain_uses : (k : Kind) (r : Tree Expr (row (sorts k))) → targeted (64 + number_of k) ≡ false → uses k r ≡ plain r
unfolding tuple kinds none_of target_kinds targeted number_of
plain_uses k r z = uses_plain k (same_kinds (λ k. Bool) (none_of target_kinds) (λ k. not (targeted (64 + number_of k))) refl k ∙ ap not z) r
