-- What the walk over statements by the table of fields notes, part by part. Assumes nothing.
use Prim.Native.Nat.{ℕ, ◌+◌, ◌-◌, ◌<◌, ◌≤◌}
use native.Mathlib.Omega.{arith}
use mathlib.Core.Path.{◌≡◌, refl, sym, ap, ap₂, subst, ◌∙◌}
use mathlib.Core.Bool.{false}
use mathlib.Core.List.{List, [], ◌∷◌, ◌++◌}
use mathlib.Core.Option.{Option, none as nothing}
use lib.ListN.{get_or}
use Rattle.base_words.specs.Word.{kind_of}
use Rattle.tree_expr.specs.Expr.{Expr}
use Rattle.tree_stmt.specs.Sorts.{Sort, expr, stmt, Sorts, number_of}
use Rattle.tree_stmt.specs.Tree.{strings, Shape, one, row, Tree, word, value, Stmt, list, part, this, that, done, cons, none, more}
use Rattle.tree_stmt.specs.Stands.{Stands, SomeTree}
use Rattle.tree_stmt.specs.Codes.{codes, sort_at, row_of}
use Rattle.tree_skip.specs.Shape.{SomeExpr}
use Rattle.tree_walk.specs.Pieces.{Piece, expr_piece, stmt_piece, pieces}
use Rattle.tree_walk.specs.Plans.{Planned, Walks, WalksRows}
use Rattle.tree_walk.proofs.Walk.{walks_as, in_value, value_done, open_done, WalkedRows, rows_step, WalkedRow, row_step, head_kind, stmt_row, fields}
use Rattle.tree_views.specs.Uses.{own, plain, uses}
use Rattle.collect_subscript_count.specs.Subscripts.{or_else, first_of, in_expr, in_stmt, subscript_count}
use Rattle.collect_subscript_count.specs.Notes.{Mark, noted, Noted}
use Rattle.collect_subscript_count.specs.Code.{Marks, NotesExpr, NotesStmt, targeted, own_use, nested_use, Counted}
use Rattle.collect_subscript_count.proofs.Marks.{noted_same, noted_as, noted_not, noted_wide, noted_join, noted_under, noted_both}
use Rattle.collect_subscript_count.proofs.Expressions.{or_else_assoc, or_else_none, first_of_append}
use Rattle.collect_subscript_count.proofs.ByKind.{used_in, plain_uses}

-- ---- on pieces as on the tree

own_append : (name : ℕ) (xs ys : List (Piece Expr)) → own_use name (xs ++ ys) ≡ or_else (own_use name xs) (own_use name ys)
unfolding own_use or_else
own_append name [] ys = refl
own_append name (expr_piece e ∷ xs) ys = ap (or_else (in_expr name e)) (own_append name xs ys) ∙ sym (or_else_assoc (in_expr name e) (own_use name xs) (own_use name ys))
own_append name (stmt_piece k line r ∷ xs) ys = own_append name xs ys

nested_append : (name : ℕ) (xs ys : List (Piece Expr)) → nested_use name (xs ++ ys) ≡ or_else (nested_use name xs) (nested_use name ys)
unfolding nested_use or_else
nested_append name [] ys = refl
nested_append name (expr_piece e ∷ xs) ys = nested_append name xs ys
nested_append name (stmt_piece k line r ∷ xs) ys = ap (or_else (subscript_count used_in name (Stmt k line r))) (nested_append name xs ys) ∙ sym (or_else_assoc (subscript_count used_in name (Stmt k line r)) (nested_use name xs) (nested_use name ys))

own_pieces : (name : ℕ) {i : Shape} (v : Tree Expr i) → own_use name (pieces v) ≡ first_of (in_expr name) (own v)
unfolding pieces own own_use first_of
own_pieces name (word x) = refl
own_pieces name (value e) = refl
own_pieces name (Stmt k line r) = refl
own_pieces name (list rs) = own_pieces name rs
own_pieces name (part r) = own_pieces name r
own_pieces name (this r) = own_pieces name r
own_pieces name (that v) = own_pieces name v
own_pieces name done = refl
own_pieces name (cons v r) = own_append name (pieces v) (pieces r) ∙ ap₂ or_else (own_pieces name v) (own_pieces name r) ∙ sym (first_of_append (in_expr name) (own v) (own r))
own_pieces name none = refl
own_pieces name (more r rs) = own_append name (pieces r) (pieces rs) ∙ ap₂ or_else (own_pieces name r) (own_pieces name rs) ∙ sym (first_of_append (in_expr name) (own r) (own rs))

nested_pieces : (name : ℕ) {i : Shape} (v : Tree Expr i) → nested_use name (pieces v) ≡ subscript_count used_in name v
unfolding pieces nested_use subscript_count
nested_pieces name (word x) = refl
nested_pieces name (value e) = refl
nested_pieces name (Stmt k line r) = or_else_none (or_else (in_stmt used_in name (uses k r)) (subscript_count used_in name r))
nested_pieces name (list rs) = nested_pieces name rs
nested_pieces name (part r) = nested_pieces name r
nested_pieces name (this r) = nested_pieces name r
nested_pieces name (that v) = nested_pieces name v
nested_pieces name done = refl
nested_pieces name (cons v r) = nested_append name (pieces v) (pieces r) ∙ ap₂ or_else (nested_pieces name v) (nested_pieces name r)
nested_pieces name none = refl
nested_pieces name (more r rs) = nested_append name (pieces r) (pieces rs) ∙ ap₂ or_else (nested_pieces name r) (nested_pieces name rs)

-- ---- parts, one after another

-- the same, the mark before told otherwise
noted_from : {lo hi : ℕ} {o : Option ℕ} {before before' after : Mark} → before ≡ before' → Noted lo hi o before after → Noted lo hi o before' after
noted_from {lo} {hi} {o} {after = after} q p = subst (λ (m : Mark). Noted lo hi o m after) q p

-- before the first part nothing is noted
pub counted_none : (k at : ℕ) (before : Marks) (ns : List ℕ) (n : ℕ) → Counted k at at before before ns n []
unfolding own_use nested_use noted
counted_none k at before ns n = record { span = omega arith; marks = λ h x. noted_not at at (before x) }

counted_join : {k lo mid hi : ℕ} {m₀ m₁ m₂ : Marks} (ns : List ℕ) (n : ℕ) (xs ys : List (Piece Expr)) → Counted k lo mid m₀ m₁ ns n xs → Counted k mid hi m₁ m₂ ns n ys → Counted k lo hi m₀ m₂ ns n (xs ++ ys)
counted_join {k} {lo} {mid} {hi} {m₀} {m₁} {m₂} ns n xs ys p q = record {
  span = omega (arith, p.span, q.span);
  marks = λ h x.
      let a = noted_under (own_use x ys) h (p.marks h x) in
      let b = q.marks (omega (arith, h, p.span)) x in
      let own_is = noted_same k (own_use x xs) (own_use x ys) (m₀ x) ∙ ap (λ (o : Option ℕ). noted k o (m₀ x)) (sym (own_append x xs ys)) in
      noted_as (sym (nested_append x xs ys)) (noted_from own_is (noted_join p.span q.span a b));
}

-- one row more
pub each_step : {ss : Sorts} {c : ℕ} {ws : List ℕ} {at a a' i k : ℕ} {before now after : Marks} → WalkedRows ss c ws at a i (Counted k at a before now) → i < c → Walks (row ss) ws a a' (Counted k a a' now after) → WalkedRows ss c ws at a' (i + 1) (Counted k at a' before after)
each_step {at = at} {a} {a'} {k = k} {before} {now} {after} W h M = rows_step {P = Counted k at a before now} {Q = Counted k a a' now after} {P' = Counted k at a' before after} W h M (λ ns n xs ys p q. counted_join ns n xs ys p q)

-- one field more
pub field_step : {r : ℕ} {ws : List ℕ} {at a a' i sort k : ℕ} {before now after : Marks} → WalkedRow r ws at a i (Counted k at a before now) → sort ≡ get_or (codes r) i 0 → (sort ≡ 0 → ⊥) → Walks (one (sort_at sort)) ws a a' (Counted k a a' now after) → WalkedRow r ws at a' (i + 1) (Counted k at a' before after)
field_step {at = at} {a} {a'} {k = k} {before} {now} {after} W e z M = row_step {P = Counted k at a before now} {Q = Counted k a a' now after} {P' = Counted k at a' before after} W e z M (λ ns n xs ys p q. counted_join ns n xs ys p q)

-- a field that is some words and then rows
pub rows_walked : {s : Sort} {ws : List ℕ} {at to c r m k : ℕ} {before after : Marks} → Planned s ws at c r m → WalksRows (row_of r) m ws (at + c) to (Counted k (at + c) to before after) → Walks (one s) ws at to (Counted k at to before after)
rows_walked {ws = ws} {at} {to} {c} {k = k} {before} {after} p w = record {
  gives = λ ns n v end s.
      let g = (open_done {P = Counted k (at + c) to before after} p w).gives ns n v end s in
      let d = g.1 in
      (g.0, record { span = omega (arith, d.span); marks = λ h x. noted_wide (omega arith) (omega arith) (d.marks (omega (arith, h)) x) });
}

-- ---- an expression, a statement

-- an expression stands there
pub value_some : {ws : List ℕ} {at : ℕ} → SomeTree (one expr) ws at → SomeExpr ws at
value_some A = let x = in_value A.stands in record { strings = strings A.names A.strings; expr = x.expression; end = A.end; stands = x.there }

-- an expression: its first uses are own ones
pub value_walked : {ws : List ℕ} {at k next : ℕ} {before after : Marks} → NotesExpr ws at k before after next → Walks (one expr) ws at next (Counted k at next before after)
unfolding own_use nested_use
value_walked {at = at} {k} {next} {before} {after} E = value_done {P = Counted k at next before after} (λ ns n e end s.
    let g = E.gives (strings ns n) e end s in (
      g.1,
      record {
        span = omega (arith, g.1, s.wrote.span);
        marks = λ h x. noted_from (g.0 x ∙ ap (λ (o : Option ℕ). noted k o (before x)) (sym (or_else_none (in_expr x e)))) (noted_not at next (after x));
      },
    ))

own_stmt : (name : ℕ) (v : Tree Expr (one stmt)) → nothing ≡ first_of (in_expr name) (own v)
unfolding own first_of
own_stmt name (Stmt k line r) = refl

-- a statement: its first uses are nested ones
pub stmt_walked : {ws : List ℕ} {at k next : ℕ} {before after : Marks} → NotesStmt ws at before after next → Walks (one stmt) ws at next (Counted k at next before after)
unfolding noted
stmt_walked {k = k} {next} {before} S = record {
  gives = λ ns n v end t.
      let g = S.gives ns n v end t in (
        g.1,
        record {
          span = omega (arith, g.1, t.wrote.span);
          marks = λ h x.
              noted_from (ap (λ (o : Option ℕ). noted k o (before x)) (own_stmt x v ∙ sym (own_pieces x v))) (noted_as (sym (nested_pieces x v)) (noted_wide (omega arith) (omega (arith, g.1)) (g.0 x)));
        },
      );
}

-- a statement by its fields
pub stmt_done : {ws : List ℕ} {at next : ℕ} {before after : Marks} → targeted (kind_of (get_or ws at 0)) ≡ false → Walks (row (row_of (kind_of (get_or ws at 0) - 64 + 39))) ws (at + 1) next (Counted at (at + 1) next before after) → NotesStmt ws at before after next
unfolding subscript_count in_stmt plain first_of or_else
stmt_done {ws} {at} {next} {before} {after} z W = record { gives = λ ns n v end s. go ns n v end s }
  where
    go : (ns : List ℕ) (n : ℕ) (v : Tree Expr (one stmt)) (end : ℕ) → Stands ws ns n at v end → ((x : ℕ) → Noted at end (subscript_count used_in x v) (before x) (after x)) × (next ≡ end)
    go ns n (Stmt k line r) end s =
        let g = (walks_as {P = Counted at (at + 1) next before after} (ap row (sym (stmt_row s))) W).gives ns n r end (fields s) in
        let d = g.1 in
        let t : targeted (64 + number_of k) ≡ false = ap targeted (sym (head_kind s)) ∙ z in
        let p : (x : ℕ) → in_stmt used_in x (uses k r) ≡ first_of (in_expr x) (own r) = λ x. ap (in_stmt used_in x) (plain_uses k r t) in
        let q : at + 1 ≤ next = d.span in (
          λ x. noted_as (ap₂ or_else (own_pieces x r ∙ sym (p x)) (nested_pieces x r)) (noted_wide (omega arith) (omega (arith, g.0)) (noted_both (own_use x (pieces r)) (omega arith) q (d.marks (omega arith) x))),
          g.0,
        )
