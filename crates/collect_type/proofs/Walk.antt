-- Going through the fields of a TYPE, for whatever tree stands there. Assumes nothing.
use Prim.Native.Nat.{ℕ, ◌+◌, ◌≤◌, ◌<◌}
use mathlib.Core.Path.{◌≡◌, refl, sym, ap, ◌∙◌, subst}
use mathlib.Core.List.{List, [], ◌∷◌, ◌++◌, append-nil}
use native.Mathlib.Omega.{arith}
use lib.Dec.{lit<}
use lib.ListN.{length, get_or, length-append}
use lib.Seq.{append_snoc}
use Rattle.base_words.specs.Word.{pay_of}
use Rattle.tree_expr.specs.Expr.{Expr}
use Rattle.tree_expr.proofs.Parts.{wrote_first, pay_is}
use Rattle.tree_stmt.specs.Sorts.{TypeRef as TypeSort, FieldDecl as FieldRow}
use Rattle.tree_stmt.specs.Tree.{Tree, one, row as one_row, rows as many_rows, word, this, that, done, cons, none, more, count, words_t, Right}
use Rattle.tree_stmt.specs.Stands.{Stands, SomeTree}
use Rattle.tree_stmt.proofs.Nodes.{in_more}
use Rattle.tree_views.specs.View.{head, arg, FieldDecl, rows_of, type_ref, field_decl}
use Rattle.rows_lent.specs.RuleLaws.{name_below as marked_below}
use Rattle.rows_lookup.specs.declared.Typed.{Typed}
use Rattle.collect_as_clause.specs.Parts.{TypeIs}
use Rattle.collect_type.specs.Types.{FieldIs}
use Rattle.collect_type.specs.declared.read.FieldAt.{FieldAt}
use Rattle.collect_type.proofs.Alike.{Small}

-- ---- one field

-- its name and its type, where the words have them
pub record FieldParts (ws ns : List ℕ) (n at : ℕ) (v : Tree Expr (one_row FieldRow)) (end : ℕ) : Type 0 where
  pub type : Tree Expr (one TypeSort)
  pub inside : at < length ws
  pub name_is : pay_of (get_or ws at 0) ≡ (field_decl v).name
  pub name_below : (field_decl v).name < length ns
  pub there : Stands ws ns n (at + 1) type end
  pub type_is : type_ref type ≡ (field_decl v).ty

-- its name, and then its type
pub field_parts : {ws ns : List ℕ} {n at end : ℕ} (v : Tree Expr (one_row FieldRow)) → Stands ws ns n at v end → FieldParts ws ns n at v end
unfolding words_t Right field_decl
field_parts {ws} {ns} {n} {at} {end} (cons (word x) (cons t done)) s =
    let f = wrote_first s.wrote in
    let q = f.rest in
    record { type = t; inside = f.inside; name_is = ap pay_of f.is ∙ pay_is 2 x s.valid.0.1; name_below = marked_below ns x s.valid.0.0; there = record { wrote = rw (append-nil (words_t t)) at q; valid = s.valid.1.0 }; type_is = refl }

module _ {ws : List ℕ} {at : ℕ} where
  -- its name is within the words
  pub field_inside : SomeTree (one_row FieldRow) ws at → at < length ws
  field_inside S = (field_parts S.tree S.stands).inside

  -- its type stands after the name
  pub field_type : SomeTree (one_row FieldRow) ws at → SomeTree (one TypeSort) ws (at + 1)
  field_type S =
      let p = field_parts S.tree S.stands in
      record { names = S.names; strings = S.strings; tree = p.type; end = S.end; stands = p.there }

  -- so the field is read from these words
  pub field_is : {t : Typed} {next : ℕ} → TypeIs ws (at + 1) t next → {k : (pay_of (get_or ws at 0) < 16777216) × (t.arg < 16777216)}
      → FieldIs ws at (record { name = pay_of (get_or ws at 0); ty = t; next = next; small = k })
  field_is T =
      record {
        is = λ ns n v end s.
            let p = field_parts v s in
            let q = T.is ns n p.type end p.there in
            (p.name_is, ap (λ (x : Typed). x.head) q.0 ∙ ap head p.type_is, ap (λ (x : Typed). x.arg) q.0 ∙ ap arg p.type_is, q.1);
        name_small = omega arith;
        arg_small = T.small;
      }

-- ---- all of them

type_small : (ns : List ℕ) (n : ℕ) (t : Tree Expr (one TypeSort)) → Right ns n t → arg (type_ref t) < 16777216
unfolding Right type_ref
type_small ns n (this done) r = lit< tt
type_small ns n (that (this done)) r = lit< tt
type_small ns n (that (that (this done))) r = lit< tt
type_small ns n (that (that (that (this done)))) r = lit< tt
type_small ns n (that (that (that (that (this (cons (word k) done)))))) r = r.0.1
type_small ns n (that (that (that (that (that (this (cons (word x) done))))))) r = r.0.1
type_small ns n (that (that (that (that (that (that x)))))) r = elim x [ ]

-- right fields have small arguments
pub rows_small : (ns : List ℕ) (n : ℕ) (v : Tree Expr (many_rows FieldRow)) → Right ns n v → Small (rows_of field_decl v)
unfolding Right rows_of field_decl
rows_small ns n none r = tt
rows_small ns n (more (cons (word x) (cons t done)) rs) r = (type_small ns n t r.0.1.0, rows_small ns n rs r.1)

-- the field that stands there first, and those after it
pub record Next (ws ns : List ℕ) (m a : ℕ) (rest : Tree Expr (many_rows FieldRow)) (end : ℕ) : Type 0 where
  pub field : Tree Expr (one_row FieldRow)
  pub mid : ℕ
  pub tail : Tree Expr (many_rows FieldRow)
  pub here : Stands ws ns m a field mid
  pub next : Stands ws ns m mid tail end
  pub items : rows_of field_decl rest ≡ field_decl field ∷ rows_of field_decl tail
  pub counted : count rest ≡ count tail + 1

-- where fields are left, there is a first one
pub next_of : {ws ns : List ℕ} {m a end : ℕ} (rest : Tree Expr (many_rows FieldRow)) → 0 < count rest → Stands ws ns m a rest end → Next ws ns m a rest end
unfolding rows_of
next_of {ws} {ns} {m} rest h S =
    let q = in_more ws ns m h S in
    record { field = q.head; mid = q.mid; tail = q.tail; here = q.there; next = q.next; items = ap (rows_of field_decl) q.is; counted = q.counted }

nothing_left : (t : Tree Expr (many_rows FieldRow)) → count t ≡ 0 → rows_of field_decl t ≡ []
unfolding count rows_of
nothing_left none z = refl
nothing_left (more r rs) z = absurd (omega (arith, z))

-- the first of fields that are left, of at most 1,024 strings: what was read of its name is below 1,024
pub next_name : {ws ns : List ℕ} {m a end : ℕ} (rest : Tree Expr (many_rows FieldRow)) → Next ws ns m a rest end → length ns ≤ 1024 → (f : FieldAt) → FieldIs ws a f → f.name < 1024
next_name {ws} {ns} {m} rest q few f F = omega (arith, few, (F.is ns m q.field q.mid q.here).0, (field_parts q.field q.here).name_below)

-- after i of them
pub record Rest (ws ns : List ℕ) (m : ℕ) (v : Tree Expr (many_rows FieldRow)) (end a i : ℕ) : Type 0 where
  pub before : List FieldDecl
  pub rest : Tree Expr (many_rows FieldRow)
  pub there : Stands ws ns m a rest end
  pub is : rows_of field_decl v ≡ before ++ rows_of field_decl rest
  pub passed : length before ≡ i
  pub counted : i + count rest ≡ count v

module _ {ws ns : List ℕ} {m : ℕ} {v : Tree Expr (many_rows FieldRow)} {end : ℕ} where
  -- before the first all are left
  abbrev pub rest_all : {at : ℕ} → Stands ws ns m at v end → Rest ws ns m v end at 0
  rest_all S = record { before = []; rest = v; there = S; is = refl; passed = refl; counted = omega arith }

  -- after one more
  abbrev pub rest_next : {a i : ℕ} (p : Rest ws ns m v end a i) → (q : Next ws ns m a p.rest end) → (a' : ℕ) → a' ≡ q.mid → Rest ws ns m v end a' (i + 1)
  rest_next {a} {i} p q a' e =
      record {
        before = p.before ++ (field_decl q.field ∷ []);
        rest = q.tail;
        there = subst (λ (k : ℕ). Stands ws ns m k q.tail end) (sym e) q.next;
        is = p.is ∙ ap (λ (l : List FieldDecl). p.before ++ l) q.items ∙ sym (append_snoc p.before (field_decl q.field) (rows_of field_decl q.tail));
        passed = length-append p.before (field_decl q.field ∷ []) ∙ ap (λ (k : ℕ). k + 1) p.passed;
        counted = omega (arith, p.counted, q.counted);
      }

  -- past the last there are none
  pub rest_none : {a i : ℕ} (p : Rest ws ns m v end a i) → count v ≡ i → rows_of field_decl p.rest ≡ []
  rest_none {a} {i} p e = nothing_left p.rest (omega (arith, p.counted))
