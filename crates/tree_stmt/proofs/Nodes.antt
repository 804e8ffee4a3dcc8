-- What stands at a place, by what its words say: how a later pass finds the parts of a tree. Assumes nothing.
use Prim.Native.Nat.{ℕ, ◌+◌, ◌<◌}
use mathlib.Core.Path.{◌≡◌, refl, sym, ap, ◌∙◌}
use mathlib.Core.List.{List, append-nil}
use native.Mathlib.Omega.{arith}
use lib.ListN.{length, get_or}
use Rattle.tree_expr.specs.Expr.{Expr}
use Rattle.base_words.specs.Word.{pay_of}
use Rattle.tree_expr.specs.Stands as W
use Rattle.tree_expr.proofs.Parts.{wrote_first, wrote_left, wrote_right, pay_is}
use Rattle.tree_stmt.specs.Sorts.{Sort, many, Sorts, Kind, sorts, number_of}
use Rattle.tree_stmt.specs.Tree.{strings, one, row, rows, Tree, value, Stmt, list, part, done, cons, none, more, count, words_t, Right}
use Rattle.tree_stmt.specs.Stands.{Stands}

module _ {ws ns : List ℕ} {n : ℕ} where
  -- ---- the parts of a row

  -- the first field of a row stands where the row does
  pub cons_left : {s : Sort} {ss : Sorts} {v : Tree Expr (one s)} {t : Tree Expr (row ss)} {a end : ℕ} → Stands ws ns n a (cons v t) end → Stands ws ns n a v (a + length (words_t v))
  unfolding words_t Right
  cons_left {v = v} {t} h = record { wrote = wrote_left (words_t v) (words_t t) h.wrote; valid = h.valid.0 }

  -- the other fields stand where the first ends
  pub cons_right : {s : Sort} {ss : Sorts} {v : Tree Expr (one s)} {t : Tree Expr (row ss)} {a end : ℕ} → Stands ws ns n a (cons v t) end → Stands ws ns n (a + length (words_t v)) t end
  unfolding words_t Right
  cons_right {v = v} h = record { wrote = wrote_right (words_t v) h.wrote; valid = h.valid.1 }

  -- a row of one field ends where its field does
  pub cons_last : {s : Sort} {v : Tree Expr (one s)} {a end : ℕ} → Stands ws ns n a (cons v done) end → Stands ws ns n a v end
  unfolding words_t Right
  cons_last {v = v} h = let w = h.wrote in record { wrote = rw (append-nil (words_t v)) at w; valid = h.valid.0 }

  -- the row of a struct stands where the struct does
  pub part_row : {ss : Sorts} {r : Tree Expr (row ss)} {a end : ℕ} → Stands ws ns n a (part r) end → Stands ws ns n a r end
  unfolding words_t Right
  part_row h = record { wrote = h.wrote; valid = h.valid }

  -- the expression of a field stands where the field does
  pub value_there : {e : Expr} {a end : ℕ} → Stands ws ns n a (value e) end → W.Stands ws (strings ns n) a e end
  unfolding words_t Right
  value_there h = record { wrote = h.wrote; valid = h.valid }

  -- a statement: its line, and then its fields
  pub stmt_line : {k : Kind} {line at end : ℕ} {r : Tree Expr (row (sorts k))} → Stands ws ns n at (Stmt k line r) end → (at < length ws) × (pay_of (get_or ws at 0) ≡ line) × Stands ws ns n (at + 1) r end
  unfolding words_t Right
  stmt_line {k} {line} s =
      let f = wrote_first s.wrote in
      (f.inside, ap pay_of f.is ∙ pay_is (64 + number_of k) line s.valid.0, record { wrote = f.rest; valid = s.valid.1 })

-- ---- lists

module _ (ws ns : List ℕ) (n : ℕ) where
  -- a list: its rows, as many as its head says
  pub record InList {ss : Sorts} (at : ℕ) (v : Tree Expr (one (many ss))) (end : ℕ) : Type 0 where
    pub items : Tree Expr (rows ss)
    pub counted : count items ≡ pay_of (get_or ws at 0)
    pub there : Stands ws ns n (at + 1) items end
    pub is : v ≡ list items

  -- a list: its count in the head, its rows after it
  pub in_list : {ss : Sorts} {at end : ℕ} {v : Tree Expr (one (many ss))} → Stands ws ns n at v end → InList at v end
  unfolding words_t Right
  in_list {v = list rs} h =
      let f = wrote_first h.wrote in
      record { items = rs; counted = sym (ap pay_of f.is ∙ pay_is 1 (count rs) h.valid.0); there = record { wrote = f.rest; valid = h.valid.1 }; is = refl }

  -- rows that are left: the first and the others
  pub record InMore {ss : Sorts} (at : ℕ) (rs : Tree Expr (rows ss)) (end : ℕ) : Type 0 where
    pub head : Tree Expr (row ss)
    pub mid : ℕ
    pub tail : Tree Expr (rows ss)
    pub there : Stands ws ns n at head mid
    pub next : Stands ws ns n mid tail end
    pub counted : count rs ≡ count tail + 1
    pub is : rs ≡ more head tail

  -- rows: the first, and then the others
  pub in_more : {ss : Sorts} {at end : ℕ} {rs : Tree Expr (rows ss)} → 0 < count rs → Stands ws ns n at rs end → InMore at rs end
  unfolding words_t Right count
  in_more {rs = none} z h = absurd (omega arith)
  in_more {rs = more r t} z h = record { head = r; mid = _; tail = t; there = record { wrote = wrote_left (words_t r) (words_t t) h.wrote; valid = h.valid.0 }; next = record { wrote = wrote_right (words_t r) h.wrote; valid = h.valid.1 }; counted = refl; is = refl }
