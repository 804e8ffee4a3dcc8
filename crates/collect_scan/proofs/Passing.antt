-- Words that say nothing: a scan may go past them. Assumes nothing.
use Prim.Native.Nat.{ℕ, ◌+◌, ◌≤◌, ◌<◌}
use native.Mathlib.Omega.{arith}
use mathlib.Core.Path.{◌≡◌, refl, sym, ap, ◌∙◌}
use mathlib.Core.List.{List, [], ◌∷◌, append-nil}
use Rattle.std.specs.Prelude.{Option, Some}
use lib.ListN.{get_or}
use Rattle.base_words.specs.Word.{kind_of}
use Rattle.tree_expr.specs.Expr.{Expr}
use Rattle.tree_stmt.specs.Sorts.{Kind, sorts, number_of}
use Rattle.tree_stmt.specs.Tree.{Shape, row, Tree, word, value, Stmt, list, part, this, that, done, cons, none, more, over}
use Rattle.tree_views.specs.View.{view, inner, walk}
use Rattle.collect_buffers.specs.State.{State, each}
use Rattle.collect_buffers.proofs.Compose.{each_append}
use Rattle.collect_definition.specs.Seen.{see}
use Rattle.collect_definition.specs.Collect.{Given, statement}
use Rattle.tree_walk.specs.Pieces.{Piece, stmt_piece}
use Rattle.tree_walk.specs.Items.{Item, expr_item, tree_item, StandsAll, outer, outer_i, outer_is}
use Rattle.tree_walk.proofs.Scopes.{inner_other}
use Rattle.tree_walk.proofs.Walk.{head_kind}
use Rattle.tree_walk.proofs.Front.{call_parts, WordsAt, StmtAt, FrontAt, over_at, word_at, raw_at, raws_at, paren_at, call_at, stmt_at, front_at, at_raw, at_raws}
use Rattle.collect_scan.specs.Walk.{Idle, Takes, two, three, single, doing, SomeItems, Past, Passes, piece}
use Rattle.collect_scan.proofs.Heads.{quiet, idle_quiet}

-- ---- the walk is the outer statements in turn

walk_outer : {i : Shape} (G : Given) (scope : ℕ) (v : Tree Expr i) (st : State) → each (piece G scope) (outer v) st ≡ walk (statement G) scope (over see v) st
unfolding walk over outer each piece
walk_outer G scope (word x) st = refl
walk_outer G scope (value e) st = refl
walk_outer G scope (Stmt k line r) st = refl
walk_outer G scope (list rs) st = walk_outer G scope rs st
walk_outer G scope (part r) st = walk_outer G scope r st
walk_outer G scope (this r) st = walk_outer G scope r st
walk_outer G scope (that v) st = walk_outer G scope v st
walk_outer G scope done st = refl
walk_outer G scope (cons v r) st = each_append (piece G scope) (outer v) (outer r) st ∙ walk_outer G scope r (each (piece G scope) (outer v) st) ∙ ap (walk (statement G) scope (over see r)) (walk_outer G scope v st)
walk_outer G scope none st = refl
walk_outer G scope (more r rs) st = each_append (piece G scope) (outer r) (outer rs) st ∙ walk_outer G scope rs (each (piece G scope) (outer r) st) ∙ ap (walk (statement G) scope (over see rs)) (walk_outer G scope r st)

-- a statement that opens no scope: its head, and then the statements in its fields
pub opened : (G : Given) (scope : ℕ) (k : Kind) (line : ℕ) (r : Tree Expr (row (sorts k))) (rest : List Item) (st : State) → scope ≡ inner scope (view k (over see r))
    → each (piece G scope) (outer_is (tree_item r ∷ rest)) (statement G scope line (view k (over see r)) st) ≡ each (piece G scope) (stmt_piece k line r ∷ outer_is rest) st
unfolding each piece outer_i outer_is
opened G scope k line r rest st e =
    let st' : State = statement G scope line (view k (over see r)) st in
    each_append (piece G scope) (outer r) (outer_is rest) st'
    ∙ ap (each (piece G scope) (outer_is rest)) (walk_outer G scope r st' ∙ ap (λ (x : ℕ). walk (statement G) x (over see r) st') e)

-- one with a scope of its own: its head, its bodies in that scope, and then what follows
pub closed : (G : Given) (scope within : ℕ) (k : Kind) (line : ℕ) (r : Tree Expr (row (sorts k))) (rest : List Item) (st : State) → within ≡ inner scope (view k (over see r))
    → each (piece G scope) (outer_is rest) (each (piece G within) (outer_is (tree_item r ∷ [])) (statement G scope line (view k (over see r)) st)) ≡ each (piece G scope) (stmt_piece k line r ∷ outer_is rest) st
unfolding each piece outer_i outer_is
closed G scope within k line r rest st e =
    let st' : State = statement G scope line (view k (over see r)) st in
    ap (each (piece G scope) (outer_is rest)) (ap (λ (l : List (Piece Expr)). each (piece G within) l st') (append-nil (outer r)) ∙ walk_outer G within r st' ∙ ap (λ (x : ℕ). walk (statement G) x (over see r) st') e)

-- one tree alone
pub alone : {i : Shape} (G : Given) (scope : ℕ) (v : Tree Expr i) (st : State) → each (piece G scope) (outer_is (tree_item v ∷ [])) st ≡ walk (statement G) scope (over see v) st
unfolding outer_i outer_is
alone G scope v st = ap (λ (l : List (Piece Expr)). each (piece G scope) l st) (append-nil (outer v)) ∙ walk_outer G scope v st

-- ---- kinds that do nothing

-- below the statements
pub idle_low : {k : ℕ} → k < 64 → Idle k
idle_low h = record { no_label = λ e. omega arith; no_label_name = λ e. omega arith; no_dim = λ e. omega arith; no_shared = λ e. omega arith; no_static = λ e. omega arith; no_redim = λ e. omega arith; no_sub = λ e. omega arith; no_function = λ e. omega arith; no_const = λ e. omega arith; no_option_base = λ e. omega arith; no_type_def = λ e. omega arith }

-- from LET to DECLARE, but for DIM
pub idle_middle : {k : ℕ} → 66 ≤ k → k < 81 → (k ≡ 79 → ⊥) → Idle k
idle_middle l u n = record { no_label = λ e. omega arith; no_label_name = λ e. omega arith; no_dim = n; no_shared = λ e. omega arith; no_static = λ e. omega arith; no_redim = λ e. omega arith; no_sub = λ e. omega arith; no_function = λ e. omega arith; no_const = λ e. omega arith; no_option_base = λ e. omega arith; no_type_def = λ e. omega arith }

-- from CALL to EXIT SUB, but for CONST
pub idle_high : {k : ℕ} → 86 ≤ k → k < 92 → (k ≡ 89 → ⊥) → Idle k
idle_high l u n = record { no_label = λ e. omega arith; no_label_name = λ e. omega arith; no_dim = λ e. omega arith; no_shared = λ e. omega arith; no_static = λ e. omega arith; no_redim = λ e. omega arith; no_sub = λ e. omega arith; no_function = λ e. omega arith; no_const = n; no_option_base = λ e. omega arith; no_type_def = λ e. omega arith }

-- all after TYPE
pub idle_top : {k : ℕ} → 94 ≤ k → Idle k
idle_top h = record { no_label = λ e. omega arith; no_label_name = λ e. omega arith; no_dim = λ e. omega arith; no_shared = λ e. omega arith; no_static = λ e. omega arith; no_redim = λ e. omega arith; no_sub = λ e. omega arith; no_function = λ e. omega arith; no_const = λ e. omega arith; no_option_base = λ e. omega arith; no_type_def = λ e. omega arith }

-- ---- one word on: what stands there opens by its first word

-- items with the same statements
past_same : {ws ns : List ℕ} {n at to : ℕ} {xs : List Item} (ys : List Item) → StandsAll ws ns n 100 at ys to → outer_is xs ≡ outer_is ys → Past ws ns n at to xs
past_same ys h q = record { items = ys; there = h; alike = λ G scope st. ap (λ (l : List (Piece Expr)). each (piece G scope) l st) (sym q) }

module _ {ws ns : List ℕ} {n at to : ℕ} {xs : List Item} where
  past_words : {c : ℕ} → WordsAt ws ns n 100 at xs to c → Past ws ns n (at + c) to xs
  past_words W = past_same W.rest W.there W.stmts

  -- a statement that does nothing
  past_stmt : StmtAt ws ns n 100 at xs to → Idle (kind_of (get_or ws at 0)) → Past ws ns n (at + 1) to xs
  past_stmt M I =
      let k = M.kind in
      let r = M.fields in
      let e : kind_of (get_or ws at 0) ≡ 64 + number_of k = head_kind M.whole in
      record {
        items = tree_item r ∷ M.rest;
        there = M.there;
        alike = λ G scope st.
            let q : scope ≡ inner scope (view k (over see r)) = inner_other scope k (over see r) (λ p. I.no_sub (omega arith)) (λ p. I.no_function (omega arith)) in
            ap (each (piece G scope) (outer_is (tree_item r ∷ M.rest))) (quiet G scope M.line k r (idle_quiet I e) st)
            ∙ opened G scope k M.line r M.rest st q
            ∙ ap (λ (l : List (Piece Expr)). each (piece G scope) l st) (sym M.stmts);
      }

  past_single : StandsAll ws ns n 100 at xs to → at < to → (24 ≤ kind_of (get_or ws at 0) → kind_of (get_or ws at 0) ≤ 27 → ⊥) → Idle (kind_of (get_or ws at 0)) → Past ws ns n (at + 1) to xs
  unfolding outer_i outer_is
  past_single h z o I = go (front_at h)
    where
      go : FrontAt ws ns n 100 at xs to → Past ws ns n (at + 1) to xs
      go (over_at p q r) = absurd (omega arith)
      go (word_at k W) = past_words W
      go (raw_at l u W) = absurd (o (omega arith) (omega arith))
      go (raws_at l u W) = absurd (o (omega arith) (omega arith))
      go (paren_at k W) = past_same (expr_item W.inner ∷ W.rest) W.there W.stmts
      go (call_at k W) = past_same (call_parts W.name W.args W.rest) W.there W.stmts
      go (stmt_at l u M) = past_stmt M I

-- ---- nothing is said from a place up to another

-- one stretch after another
pub passes_then : {ws : List ℕ} {a b c to : ℕ} → Passes ws a b to → Passes ws b c to → Passes ws a c to
passes_then P Q = record {
  ahead = omega (arith, P.ahead, Q.ahead);
  past = λ ns n xs h.
      let p = P.past ns n xs h in
      let q = Q.past ns n p.items p.there in
      record { items = q.items; there = q.there; alike = λ G scope st. q.alike G scope st ∙ p.alike G scope st };
}

module _ {ws : List ℕ} {at to : ℕ} (z : at < to) where
  -- one word that is no literal's head with raw words, and of such a kind
  pub pass_single : (24 ≤ kind_of (get_or ws at 0) → kind_of (get_or ws at 0) ≤ 27 → ⊥) → Idle (kind_of (get_or ws at 0)) → Passes ws at (at + 1) to
  pass_single o I = record { ahead = omega arith; past = λ ns n xs h. past_single h z o I }

  -- as many words as are taken at once
  pub pass : {r : Option ℕ} {n : ℕ} → Takes (kind_of (get_or ws at 0)) r → r ≡ Some n → Passes ws at (at + n) to
  pass {r} {n} (two l u e) f = let q : n ≡ 2 = cc in rw q record { ahead = omega arith; past = λ ns n xs h. past_words (at_raw h z l u) }
  pass {r} {n} (three l u e) f = let q : n ≡ 3 = cc in rw q record { ahead = omega arith; past = λ ns n xs h. past_words (at_raws h z l u) }
  pass {r} {n} (single o I e) f = let q : n ≡ 1 = cc in rw q (pass_single o I)
  pass {r} {n} (doing D e) f = cc

-- one to three words are taken at once
pub few_taken : {k n : ℕ} {r : Option ℕ} → Takes k r → r ≡ Some n → (0 < n) × (n ≤ 3)
few_taken {k} {n} (two l u e) f = let q : n ≡ 2 = cc in omega arith
few_taken {k} {n} (three l u e) f = let q : n ≡ 3 = cc in omega arith
few_taken {k} {n} (single o I e) f = let q : n ≡ 1 = cc in omega arith
few_taken {k} {n} (doing D e) f = let q : n ≡ 1 = cc in omega arith

-- ---- some items

-- past words that say nothing some items stand
pub some_on : {ws : List ℕ} {from at to : ℕ} → SomeItems ws from to → Passes ws from at to → SomeItems ws at to
some_on S P = let p = P.past S.names S.strings S.items S.there in record { names = S.names; strings = S.strings; items = p.items; there = p.there }
