-- What the parts of a declarator are, by what its words say. No line here knows the code. Assumes nothing.
use Prim.Native.Nat.{ℕ, ◌+◌, ◌<◌, ◌≤◌}
use native.Mathlib.Omega.{arith}
use mathlib.Core.Path.{◌≡◌, refl, sym, ap, subst, ◌∙◌}
use mathlib.Core.Bool.{Bool, true, false, ◌||◌, or-false}
use mathlib.Core.List.{List, [], ◌∷◌, ◌++◌, append-nil}
use mathlib.Core.Option.{Option}
use lib.Dec.{eqb, lit<}
use lib.ListN.{length, get_or}
use Rattle.base_words.specs.Word.{kind_of, pay_of}
use Rattle.tree_expr.specs.Expr.{Expr, Strings, Lit, Var, Elem, Unary, Binary, Call, Field, Paren, kind_e, words}
use Rattle.tree_expr.specs.Stands as W
use Rattle.tree_expr.proofs.Parts.{wrote_first, wrote_left, wrote_right, pay_is}
use Rattle.tree_expr.proofs.Nodes.{kind_of_lem, within}
use Rattle.tree_stmt.specs.Sorts.{Sorts, expr, exprs, many, opt, nil, ◌&◌, named, TypeRef as TypeSort, Declarator as DeclaratorRow}
use Rattle.tree_stmt.specs.Tree.{Tree, one, row, rows, word, value, list, part, this, that, done, cons, count, over, strings, words_t, Right}
use Rattle.tree_stmt.specs.Stands.{Stands, SomeTree}
use Rattle.tree_stmt.proofs.Nodes.{cons_last, value_there}
use Rattle.tree_skip.specs.Shape.{SomeExpr}
use Rattle.tree_views.specs.View.{optional, items, expression, expressions, lower, declarator, as_type}
use Rattle.collect_definition.specs.Seen.{Seen, see}
use Rattle.base_builtins.specs.Builtins.{is_some}
use Rattle.collect_definition.specs.Collect.{any_some}
use Rattle.rows_lookup.specs.declared.Typed.{Typed}
use Rattle.collect_as_clause.specs.Parts.{AsTypeIs, written_if, arg_word}
use Rattle.collect_as_clause.specs.Over.{rows_length, count_over, items_over, as_over}
use Rattle.collect_as_clause.specs.Turns.{SomeRows, Turn, turn_start, turn_next, turn_end, list_rows, list_all}
use Rattle.std.specs.Prelude.{Option as RustOption, None, Some}
use Rattle.collect_dim.specs.declared.decl.Decl.{Decl}
use Rattle.collect_dim.specs.Declarators.{rank_of, DimsIs, LowerIs, LowersIs, Is, DeclIs}

-- ---- one expression in a row

-- an expression stands there
pub some_expr : {ws : List ℕ} {at : ℕ} → SomeTree (row (expr & nil)) ws at → SomeExpr ws at
some_expr {ws} {at} S = go S.tree S.stands
  where
    go : (r : Tree Expr (row (expr & nil))) → Stands ws S.names S.strings at r S.end → SomeExpr ws at
    go (cons (value e) done) T = record { strings = strings S.names S.strings; expr = e; end = S.end; stands = value_there (cons_last T) }

-- the place past it
abbrev Skips : (ws : List ℕ) (at m : ℕ) → Type 0
Skips ws at m = (n : Strings) (e : Expr) (end : ℕ) → W.Stands ws n at e end → m ≡ end

-- the row ends where its expression ends
pub row_past : {ws : List ℕ} {at m : ℕ} → Skips ws at m → (ns : List ℕ) (n : ℕ) (r : Tree Expr (row (expr & nil))) (end : ℕ) → Stands ws ns n at r end → m ≡ end
row_past F ns n (cons (value e) done) end S = F (strings ns n) e end (value_there (cons_last S))

-- rows that are only passed
abbrev pub Passing : (ss : Sorts) (ws : List ℕ) (from total at i : ℕ) → Type 0
Passing ss ws from total at i = Turn {A = Tree Expr (row ss)} {ss = ss} (λ r. r) (λ l. Unit {0}) ws from total at i

-- ---- the dimensions: the word 0, or the count of a list

module _ {ws : List ℕ} {at : ℕ} where
  -- that word is within the words
  pub dims_inside : SomeTree (one (opt (exprs & nil))) ws at → at < length ws
  unfolding words_t Right
  dims_inside S = go S.tree S.stands
    where
      go : (v : Tree Expr (one (opt (exprs & nil)))) → Stands ws S.names S.strings at v S.end → at < length ws
      go (this done) T = (wrote_first T.wrote).inside
      go (that (part (cons (list rs) done))) T = (wrote_first T.wrote).inside

  -- it is 0: no array
  pub dims_absent : get_or ws at 0 ≡ 0 → DimsIs ws at None (at + 1)
  unfolding words_t Right optional over
  dims_absent z = record { is = go }
    where
      go : (ns : List ℕ) (n : ℕ) (v : Tree Expr (one (opt (exprs & nil)))) (end : ℕ) → Stands ws ns n at v end
          → (rank_of (optional expressions (over see v)) ≡ None) × (at + 1 ≡ end)
      go ns n (this done) end T = (refl, omega (arith, T.wrote.span))
      go ns n (that (part (cons (list rs) done))) end T = absurd (omega (arith, (wrote_first T.wrote).is))

  -- it is a count: so many expressions follow
  pub dims_rows : (get_or ws at 0 ≡ 0 → ⊥) → SomeTree (one (opt (exprs & nil))) ws at → SomeRows (expr & nil) (pay_of (get_or ws at 0)) ws (at + 1)
  unfolding words_t Right
  dims_rows z S = go S.tree S.stands
    where
      go : (v : Tree Expr (one (opt (exprs & nil)))) → Stands ws S.names S.strings at v S.end → SomeRows (expr & nil) (pay_of (get_or ws at 0)) ws (at + 1)
      go (this done) T = absurd (z (wrote_first T.wrote).is)
      go (that (part (cons v done))) T =
          list_rows (record { names = S.names; strings = S.strings; tree = v; end = S.end; stands = cons_last {v = v} (record { wrote = T.wrote; valid = T.valid }) })

  -- an array with so many dimensions, which ends after them
  pub dims_present : (get_or ws at 0 ≡ 0 → ⊥) → {m : ℕ}
      → ((ns : List ℕ) (n : ℕ) (rs : Tree Expr (rows (expr & nil))) (end : ℕ) → Stands ws ns n (at + 1) rs end → count rs ≡ pay_of (get_or ws at 0) → m ≡ end)
      → DimsIs ws at (Some (pay_of (get_or ws at 0))) m
  unfolding words_t Right optional expressions items over
  dims_present z {m} F = record { is = go }
    where
      go : (ns : List ℕ) (n : ℕ) (v : Tree Expr (one (opt (exprs & nil)))) (end : ℕ) → Stands ws ns n at v end
          → (rank_of (optional expressions (over see v)) ≡ Some (pay_of (get_or ws at 0))) × (m ≡ end)
      go ns n (this done) end T = absurd (z (wrote_first T.wrote).is)
      go ns n (that (part (cons (list rs) done))) end T =
          let f = wrote_first T.wrote in
          let r = f.rest in
          let k : count rs ≡ pay_of (get_or ws at 0) = sym (ap pay_of f.is ∙ pay_is 1 (count rs) T.valid.0.0) in
          (ap Some (rows_length expression (over see rs) ∙ count_over see rs ∙ k), F ns n rs end (record { wrote = rw (append-nil (words_t rs)) at r; valid = T.valid.0.1 }) k)

-- ---- a lower bound: the word 0, or an expression

kind_some : (e : Expr) → 0 < kind_e e
unfolding kind_e
kind_some (Lit l) = lit< tt
kind_some (Var x) = lit< tt
kind_some (Elem x es) = lit< tt
kind_some (Unary o e) = lit< tt
kind_some (Binary o l r) = lit< tt
kind_some (Call x es) = lit< tt
kind_some (Field e x) = lit< tt
kind_some (Paren e) = lit< tt

module _ {ws : List ℕ} {at : ℕ} where
  -- that word is within the words
  pub lower_inside : SomeTree (row (opt (expr & nil) & nil)) ws at → at < length ws
  unfolding words_t Right
  lower_inside S = go S.tree S.stands
    where
      go : (v : Tree Expr (row (opt (expr & nil) & nil))) → Stands ws S.names S.strings at v S.end → at < length ws
      go (cons (this done) done) T = (wrote_first T.wrote).inside
      go (cons (that (part (cons (value e) done))) done) T =
          let w = within (record { wrote = rw (append-nil (words e), append-nil (words e)) at T.wrote; valid = T.valid.0.0 }) in
          omega (arith, w.moves, w.inside)

  -- it is 0: no bound
  pub lower_absent : get_or ws at 0 ≡ 0 → LowerIs ws at false (at + 1)
  unfolding words_t Right optional lower over
  lower_absent z = record { is = go }
    where
      go : (ns : List ℕ) (n : ℕ) (v : Tree Expr (row (opt (expr & nil) & nil))) (end : ℕ) → Stands ws ns n at v end → (is_some (lower (over see v)) ≡ false) × (at + 1 ≡ end)
      go ns n (cons (this done) done) end T = (refl, omega (arith, T.wrote.span))
      go ns n (cons (that (part (cons (value e) done))) done) end T =
          let w : W.Stands ws (strings ns n) at e end = record { wrote = rw (append-nil (words e), append-nil (words e)) at T.wrote; valid = T.valid.0.0 } in
          absurd (omega (arith, kind_some e, kind_of_lem w, ap kind_of z))

  -- it isn't: an expression stands there
  pub lower_expr : (get_or ws at 0 ≡ 0 → ⊥) → SomeTree (row (opt (expr & nil) & nil)) ws at → SomeExpr ws at
  unfolding words_t Right
  lower_expr z S = go S.tree S.stands
    where
      go : (v : Tree Expr (row (opt (expr & nil) & nil))) → Stands ws S.names S.strings at v S.end → SomeExpr ws at
      go (cons (this done) done) T = absurd (z (wrote_first T.wrote).is)
      go (cons (that (part (cons (value e) done))) done) T =
          record { strings = strings S.names S.strings; expr = e; end = S.end; stands = record { wrote = rw (append-nil (words e), append-nil (words e)) at T.wrote; valid = T.valid.0.0 } }

  -- a bound, which ends after it
  pub lower_present : (get_or ws at 0 ≡ 0 → ⊥) → {m : ℕ} → Skips ws at m → LowerIs ws at true m
  unfolding words_t Right optional lower over
  lower_present z {m} F = record { is = go }
    where
      go : (ns : List ℕ) (n : ℕ) (v : Tree Expr (row (opt (expr & nil) & nil))) (end : ℕ) → Stands ws ns n at v end → (is_some (lower (over see v)) ≡ true) × (m ≡ end)
      go ns n (cons (this done) done) end T = absurd (z (wrote_first T.wrote).is)
      go ns n (cons (that (part (cons (value e) done))) done) end T =
          (refl, F (strings ns n) e end (record { wrote = rw (append-nil (words e), append-nil (words e)) at T.wrote; valid = T.valid.0.0 }))

-- ---- the list of lower bounds

-- a lower bound as collecting sees it
abbrev pub low : Tree Expr (row (opt (expr & nil) & nil)) → Option Seen
low r = lower (over see r)

any_snoc : (l : List (Option Seen)) (x : Option Seen) → any_some (l ++ (x ∷ [])) ≡ (any_some l || is_some x)
unfolding any_some
any_snoc [] x = or-false (is_some x)
any_snoc (y ∷ ys) x = go (is_some y) (any_snoc ys x)
  where
    go : (t : Bool) → any_some (ys ++ (x ∷ [])) ≡ (any_some ys || is_some x) → (t || any_some (ys ++ (x ∷ []))) ≡ ((t || any_some ys) || is_some x)
    go true e = refl
    go false e = e

-- i were read, and whether one of them is written
abbrev pub Lowering : (ws : List ℕ) (from total i : ℕ) → Bool → ℕ → Type 0
Lowering ws from total i any m = Turn low (λ l. any_some l ≡ any) ws from total m i

-- none was read
pub low_start : (ws : List ℕ) (from total : ℕ) → Lowering ws from total 0 false from
unfolding any_some
low_start ws from total = turn_start (λ l. any_some l ≡ false) refl ws from total

-- one more was read
pub low_next : {ws : List ℕ} {from total i m next : ℕ} {any there : Bool} → Lowering ws from total i any m → i < total → LowerIs ws m there next → Lowering ws from total (i + 1) (any || there) next
low_next {next = next} {any = any} {there = there} T h L =
    turn_next T h (λ l. any_some l ≡ (any || there)) next (λ ns n r end S. ((L.is ns n r end S).1, λ l many p. any_snoc l (low r) ∙ ap (λ (x : Bool). x || is_some (low r)) p ∙ ap (λ (x : Bool). any || x) (L.is ns n r end S).0))

-- all were read
pub low_end : {ws : List ℕ} {at i m : ℕ} {any : Bool} → Lowering ws (at + 1) (pay_of (get_or ws at 0)) i any m → pay_of (get_or ws at 0) ≤ i → LowersIs ws at any m
low_end {ws} {at} {i} {m} {any} T z = record {
  is = λ ns n v end S.
      let p = list_all low (λ l e. (any_some l ≡ any) × (m ≡ e)) (λ ns n rs end S c. let q = turn_end T z ns n rs end S c in (q.1, q.0)) ns n v end S in
      (ap any_some (items_over see lower low (λ r. refl) v) ∙ p.0, p.1);
}

-- ---- a declarator: its name, the dimensions, the lower bounds, the type

-- its parts, where the words have them
pub record InDecl (ws ns : List ℕ) (n at : ℕ) (v : Tree Expr (row DeclaratorRow)) (end : ℕ) : Type 0 where
  pub name : ℕ
  pub dims : Tree Expr (one (opt (exprs & nil)))
  pub lows : Tree Expr (one (many (opt (expr & nil) & nil)))
  pub type : Tree Expr (one (opt (TypeSort & nil)))
  pub mid : ℕ
  pub last : ℕ
  pub inside : at < length ws
  pub name_is : pay_of (get_or ws at 0) ≡ name
  pub named : eqb (get_or ns name 0) 1 ≡ true
  pub first : Stands ws ns n (at + 1) dims mid
  pub second : Stands ws ns n mid lows last
  pub third : Stands ws ns n last type end
  pub is : v ≡ cons (word name) (cons dims (cons lows (cons type done)))

-- what stands there, part by part
pub in_decl : {ws ns : List ℕ} {n at end : ℕ} (v : Tree Expr (row DeclaratorRow)) → Stands ws ns n at v end → InDecl ws ns n at v end
unfolding words_t Right
in_decl {ws} {ns} {n} {at} {end} (cons (word x) (cons ds (cons ls (cons t done)))) S =
    let f = wrote_first S.wrote in
    let r = wrote_right (words_t ds) f.rest in
    let q = wrote_right (words_t ls) r in
    record {
      name = x;
      dims = ds;
      lows = ls;
      type = t;
      mid = _;
      last = _;
      inside = f.inside;
      name_is = ap pay_of f.is ∙ pay_is 2 x S.valid.0.1;
      named = S.valid.0.0;
      first = record { wrote = wrote_left (words_t ds) (words_t ls ++ (words_t t ++ [])) f.rest; valid = S.valid.1.0 };
      second = record { wrote = wrote_left (words_t ls) (words_t t ++ []) r; valid = S.valid.1.1.0 };
      third = record { wrote = rw (append-nil (words_t t)) at q; valid = S.valid.1.1.1.0 };
      is = refl;
    }

module _ {ws : List ℕ} {at : ℕ} (S : SomeTree (row DeclaratorRow) ws at) where
  here : InDecl ws S.names S.strings at S.tree S.end
  here = in_decl S.tree S.stands

  -- its name is within the words
  pub decl_inside : at < length ws
  decl_inside = here.inside

  -- its dimensions stand after the name
  pub decl_dims : SomeTree (one (opt (exprs & nil))) ws (at + 1)
  decl_dims = record { names = S.names; strings = S.strings; tree = here.dims; end = here.mid; stands = here.first }

  -- its lower bounds after them
  pub decl_lows : {rank : RustOption ℕ} {d : ℕ} → DimsIs ws (at + 1) rank d → SomeTree (one (many (opt (expr & nil) & nil))) ws d
  decl_lows D =
      let e = (D.is S.names S.strings here.dims here.mid here.first).1 in
      record { names = S.names; strings = S.strings; tree = here.lows; end = here.last; stands = subst (λ (m : ℕ). Stands ws S.names S.strings m here.lows here.last) (sym e) here.second }

  -- its type after these
  pub decl_type : {rank : RustOption ℕ} {low : Bool} {d l : ℕ} → DimsIs ws (at + 1) rank d → LowersIs ws d low l → SomeTree (one (opt (TypeSort & nil))) ws l
  decl_type D L =
      let T = decl_lows D in
      let e = (D.is S.names S.strings here.dims here.mid here.first).1 in
      let f = (L.is S.names S.strings here.lows here.last (subst (λ (m : ℕ). Stands ws S.names S.strings m here.lows here.last) (sym e) here.second)).1 in
      record { names = S.names; strings = S.strings; tree = here.type; end = S.end; stands = subst (λ (m : ℕ). Stands ws S.names S.strings m here.type S.end) (sym f) here.third }

declarator_is : (x : ℕ) (ds : Tree Expr (one (opt (exprs & nil)))) (ls : Tree Expr (one (many (opt (expr & nil) & nil)))) (t : Tree Expr (one (opt (TypeSort & nil))))
    → declarator (over see (cons {s = named} (word x) (cons ds (cons ls (cons t done))))) ≡ record { name = x; dimensions = optional expressions (over see ds); lowers = items lower (over see ls); ty = optional as_type (over see t) }
unfolding declarator over
declarator_is x ds ls t = refl

-- the code's declarator, from its parts
pub decl_is : {ws : List ℕ} {at : ℕ} {rank : RustOption ℕ} {low : Bool} {ty : RustOption Typed} {d l next : ℕ} → DimsIs ws (at + 1) rank d → LowersIs ws d low l → AsTypeIs ws l ty next
    → {k : (pay_of (get_or ws at 0) < 16777216) × (arg_word ty < 16777216)} → DeclIs ws at (record { name = pay_of (get_or ws at 0); rank = rank; lower = low; ty = ty; next = next; small = k })
decl_is {ws} {at} {rank} {low} {ty} {d} {l} {next} D L T {k} = record { is = by; small = k }
  where
    by : (ns : List ℕ) (n : ℕ) (v : Tree Expr (row DeclaratorRow)) (end : ℕ) → Stands ws ns n at v end
        → Is (record { name = pay_of (get_or ws at 0); rank = rank; lower = low; ty = ty; next = next; small = k }) (declarator (over see v)) × (next ≡ end) × (eqb (get_or ns (pay_of (get_or ws at 0)) 0) 1 ≡ true)
    by ns n v end S =
        let p = in_decl v S in
        let a = D.is ns n p.dims p.mid p.first in
        let b = L.is ns n p.lows p.last (subst (λ (m : ℕ). Stands ws ns n m p.lows p.last) (sym a.1) p.second) in
        let c = T.is ns n p.type end (subst (λ (m : ℕ). Stands ws ns n m p.type end) (sym b.1) p.third) in
        let i : declarator (over see v) ≡ record { name = p.name; dimensions = optional expressions (over see p.dims); lowers = items lower (over see p.lows); ty = optional as_type (over see p.type) } =
        ap (λ (y : Tree Expr (row DeclaratorRow)). declarator (over see y)) p.is ∙ declarator_is p.name p.dims p.lows p.type in
        let o = as_over see p.type in
        (rw i (record { name = sym p.name_is; rank = a.0; lower = b.0; ty = ap written_if o ∙ sym c.0 }), c.1, rw p.name_is p.named)

-- ---- a list of declarators that is only passed

-- it ends at the place past it
pub decl_past : {ws : List ℕ} {at : ℕ} {r : Decl} → DeclIs ws at r → (ns : List ℕ) (n : ℕ) (v : Tree Expr (row DeclaratorRow)) (end : ℕ) → Stands ws ns n at v end → r.next ≡ end
decl_past D ns n v end S = (D.is ns n v end S).1
