-- What a right statement shows to collecting: names' numbers, small counts, types in order, constants that a row may hold. Assumes nothing.
use Rattle.std.specs.Prelude.{ℕ, ◌+◌, ◌-◌, ◌<◌, ◌≤◌, ◌≡◌, true, List, length}
use Rattle.std.proofs.Math.Path.{refl, subst}
use Rattle.std.proofs.Common.{sym}
use Rattle.std.proofs.Math.Option.{Option, none as absent, some}
use native.Mathlib.Omega.{arith}
use borrow.Author.Tests.{lt-ltb, ne_eqb}
use Rattle.base_words.specs.Each.{Each}
use Rattle.tree_expr.specs.Expr.{Expr, Named}
use Rattle.tree_expr.specs.Stands.{Wrote}
use Rattle.tree_expr.proofs.Parts.{wrote_first, wrote_left, wrote_right}
use Rattle.tree_stmt.specs.Sorts.{Sorts, nil, ◌&◌, opt, body, name, many, TypeRef as TypeSort, Declarator as DeclaratorRow, Param as ParamRow, ScopeItem as ScopeRow, FieldDecl as FieldRow, Kind, sorts, label, label_name, dim, shared, static, redim, sub, function, const, option_base, type_def}
use Rattle.tree_stmt.specs.KindLaws.{by_kind}
use Rattle.tree_stmt.specs.Tree.{strings, Shape, one, row, rows, Tree, word, value, Stmt, list, part, this, that, done, cons, none, more, ok_l, words_t, Right, over}
use Rattle.tree_stmt.specs.Stands.{Stands}
use Rattle.tree_views.specs.View.{TypeRef, Integer, Long, Single, Double, FixedString, Record, head, arg, head_of, arg_of, Declarator, Param, ScopeItem, FieldDecl, optional, rows_of, items, type_ref, as_type, declarator, param, scope_item, field_decl, View, Label, LabelName, OptionBase, TypeDef, Const, Shared, Static, Dim, Redim, Sub, Function, Other, view, inner}
use Rattle.tree_views.specs.KindLaws.{view_kinds, view_other}
use Rattle.collect_subscript_count.specs.Subscripts.{indexed, subscript_count}
use Rattle.rows_table.specs.Rows.{Row}
use Rattle.fold_values.proofs.FoldLaws.{RowFold}
use Rattle.rows_lent.specs.Rules.{is_marked, type_ok, scope_ok}
use Rattle.rows_lent.specs.Valid.{type_or_none}
use Rattle.fold_const_eval.specs.ConstEval.{const_eval}
use Rattle.fold_const_eval.specs.Evaluates.{Consts}
use Rattle.fold_const_eval.specs.EvalLaws.{Words32, const_row_lem}
use Rattle.collect_definition.specs.Seen.{Seen, see}
use Rattle.law_collected_rows.specs.Uses.{Small, length_rows, optional_small, subscripts_small}
use Rattle.fold_values.specs.Value.{Fold}

-- ---- definitions

module _ (n : ℕ) where
  -- what an expression folds to may stand in a CONST row
  abbrev pub Folds : (List Row → Fold) → Type 0
  Folds f = (rows : List Row) → Consts n rows → RowFold n (f rows)

  -- so does each expression of a tree
  unfoldable pub Known : {i : Shape} → Tree Expr i → Type 0
  Known (word x) = Unit {0}
  Known (value e) = Folds (λ rows. const_eval rows e)
  Known (Stmt k line r) = Known r
  Known (list rs) = Known rs
  Known (part r) = Known r
  Known (this r) = Known r
  Known (that v) = Known v
  Known done = Unit {0}
  Known (cons v r) = Known v × Known r
  Known none = Unit {0}
  Known (more r rs) = Known r × Known rs

-- which is so where the tree stands in words of 32 bits
module _ (ws ns : List ℕ) (n : ℕ) (W : Words32 ws) where
  known : {i : Shape} (v : Tree Expr i) {at end : ℕ} → Wrote ws at (words_t v) end → Right ns n v → Known n v
  unfolding Known words_t Right
  known (word x) w h = tt
  known (value e) w h = λ rows C. const_row_lem {n = strings ns n} W C (record { wrote = w; valid = h })
  known (Stmt k line r) w h = known r (wrote_first w).rest h.1
  known (list rs) w h = known rs (wrote_first w).rest h.1
  known (part r) w h = known r w h
  known (this r) w h = known r (wrote_first w).rest h
  known (that v) w h = known v w h
  known done w h = tt
  known (cons v r) w h = (known v (wrote_left (words_t v) (words_t r) w) h.0, known r (wrote_right (words_t v) w) h.1)
  known none w h = tt
  known (more r rs) w h = (known r (wrote_left (words_t r) (words_t rs) w) h.0, known rs (wrote_right (words_t r) w) h.1)

-- a tree in words of 32 bits folds to values that a row may hold
pub stands_known : {ws ns : List ℕ} {n : ℕ} {i : Shape} {v : Tree Expr i} {at end : ℕ} → Words32 ws → Stands ws ns n at v end → Known n v
stands_known {ws} {ns} {n} {v = v} W s = known ws ns n W v s.wrote s.valid

module _ (ns : List ℕ) (n : ℕ) where
  -- 0 for the module, else a name's number plus 1
  pub record Scope (scope : ℕ) : Type 0 where
    pub ok : scope_ok ns scope ≡ true
    pub fits : scope ≤ 16777216

  -- a type that a row may have
  abbrev pub TypeFine : TypeRef → Type 0
  TypeFine t = type_ok ns (head t) (arg t) ≡ true

  -- such a type or none
  abbrev pub OptFine : Option TypeRef → Type 0
  OptFine absent = Unit {0}
  OptFine (some t) = TypeFine t

  -- a field with a name's number and a type in order
  pub record FineField (f : FieldDecl) : Type 0 where
    pub name : Named ns f.name
    pub ty : TypeFine f.ty

  -- an item with a name's number and a type in order or none
  pub record FineItem (i : ScopeItem) : Type 0 where
    pub name : Named ns i.name
    pub ty : OptFine i.ty

  -- a parameter, the same
  pub record FineParam (p : Param) : Type 0 where
    pub name : Named ns p.name
    pub ty : OptFine p.ty

  -- a declarator, the same, whose dimensions are few
  pub record FineDecl (d : Declarator Seen) : Type 0 where
    pub name : Named ns d.name
    pub dims : Small (indexed d.dimensions)
    pub ty : OptFine d.ty

  -- parameters, and the body that uses them
  pub record FineParams (ps : List Param) (b : Tree Seen (one body)) : Type 0 where
    pub all : Each FineParam ps
    pub few : length ps < 16777216
    pub rank : (name : ℕ) → Small (subscript_count (λ name (e : Seen). e.use_under name) name b)

  -- what a statement shows is in order, kind by kind
  abbrev pub FineView : View Seen → Type 0
  FineView (Label x) = x < 16777216
  FineView (LabelName x) = Named ns x
  FineView (OptionBase x) = x < 16777216
  FineView (TypeDef x fs) = Named ns x × Each FineField fs × (length fs < 16777216)
  FineView (Const x e) = Named ns x × Folds n e.folds_to
  FineView (Shared is) = Each FineItem is
  FineView (Static is) = Each FineItem is
  FineView (Dim ds s) = Each FineDecl ds
  FineView (Redim ds p) = Each FineDecl ds
  FineView (Sub x ps b s) = Named ns x × FineParams ps b
  FineView (Function x ps t b s d) = Named ns x × FineParams ps b × OptFine t
  FineView Other = Unit {0}

  -- ---- laws

  -- such a type or none passes the rule of a row
  pub type_or_none_lem : (t : Option TypeRef) → OptFine t → type_or_none ns (head_of t) (arg_of t) ≡ true
  type_or_none_lem absent h = refl
  type_or_none_lem (some Integer) h = h
  type_or_none_lem (some Long) h = h
  type_or_none_lem (some Single) h = h
  type_or_none_lem (some Double) h = h
  type_or_none_lem (some (FixedString k)) h = h
  type_or_none_lem (some (Record x)) h = h

  -- a name's number plus 1 is a scope
  pub marked_scope : (x : ℕ) → is_marked ns x ≡ true → scope_ok ns (x + 1) ≡ true
  unfolding scope_ok
  marked_scope x h =
      let k : x + 1 - 1 ≡ x = omega arith in
      rw (ne_eqb (x + 1) 0 (λ e. omega arith), k) h

  -- the scope of a procedure's own
  pub own_scope : (x : ℕ) → Named ns x → Scope (x + 1)
  own_scope x h = record { ok = marked_scope x h.named; fits = omega (arith, h.fits) }

  -- the module's scope
  pub module_scope : Scope 0
  unfolding scope_ok
  module_scope = record { ok = refl; fits = omega arith }

  -- a statement's bodies stand in a scope
  pub inner_scope : {scope : ℕ} (v : View Seen) → Scope scope → FineView v → Scope (inner scope v)
  unfolding inner
  inner_scope (Label x) s h = s
  inner_scope (LabelName x) s h = s
  inner_scope (OptionBase x) s h = s
  inner_scope (TypeDef x fs) s h = s
  inner_scope (Const x e) s h = s
  inner_scope (Shared is) s h = s
  inner_scope (Static is) s h = s
  inner_scope (Dim ds x) s h = s
  inner_scope (Redim ds p) s h = s
  inner_scope (Sub x ps b st) s h = own_scope x h.0
  inner_scope (Function x ps t b st d) s h = own_scope x h.0
  inner_scope Other s h = s

  named_is : (x : ℕ) → (ok_l ns n name x ≡ true) × (x < 16777216) → Named ns x
  named_is x h = record { named = h.0; fits = h.1 }

  rows_each : {A : Type 0} {ss : Sorts} (f : Tree Seen (row ss) → A) (P : A → Type 0) → ((r : Tree Expr (row ss)) → Right ns n r → P (f (over see r))) → (rs : Tree Expr (rows ss)) → Right ns n rs → Each P (rows_of f (over see rs))
  unfolding rows_of over Right Each
  rows_each f P q none h = tt
  rows_each f P q (more r rs) h = (q r h.0, rows_each f P q rs h.1)

  items_each : {A : Type 0} {ss : Sorts} (f : Tree Seen (row ss) → A) (P : A → Type 0) → ((r : Tree Expr (row ss)) → Right ns n r → P (f (over see r))) → (v : Tree Expr (one (many ss))) → Right ns n v → Each P (items f (over see v))
  unfolding items over Right
  items_each f P q (list rs) h = rows_each f P q rs h.1

  items_few : {A : Type 0} {ss : Sorts} (f : Tree Seen (row ss) → A) (v : Tree Expr (one (many ss))) → Right ns n v → length (items f (over see v)) < 16777216
  unfolding items over Right
  items_few f (list rs) h = subst (λ (k : ℕ). k < 16777216) (sym (length_rows f rs)) h.0

  type_fine : (v : Tree Expr (one TypeSort)) → Right ns n v → TypeFine (type_ref (over see v))
  unfolding type_ref over Right type_ok
  type_fine (this r) h = refl
  type_fine (that (this r)) h = refl
  type_fine (that (that (this r))) h = refl
  type_fine (that (that (that (this r)))) h = refl
  type_fine (that (that (that (that (this (cons (word k) done)))))) h = lt-ltb k 16777216 h.0.1
  type_fine (that (that (that (that (that (this (cons (word x) done))))))) h = h.0.0
  type_fine (that (that (that (that (that (that x)))))) h = elim x [ ]

  as_type_fine : (v : Tree Expr (one (opt (TypeSort & nil)))) → Right ns n v → OptFine (optional as_type (over see v))
  unfolding optional as_type over Right
  as_type_fine (this r) h = tt
  as_type_fine (that (part (cons t done))) h = type_fine t h.0

  field_fine : (r : Tree Expr (row FieldRow)) → Right ns n r → FineField (field_decl (over see r))
  unfolding field_decl over Right
  field_fine (cons (word x) (cons t done)) h = record { name = named_is x h.0; ty = type_fine t h.1.0 }

  item_fine : (r : Tree Expr (row ScopeRow)) → Right ns n r → FineItem (scope_item (over see r))
  unfolding scope_item over Right
  item_fine (cons (word x) (cons a (cons t done))) h = record { name = named_is x h.0; ty = as_type_fine t h.1.1.0 }

  param_fine : (r : Tree Expr (row ParamRow)) → Right ns n r → FineParam (param (over see r))
  unfolding param over Right
  param_fine (cons (word x) (cons v (cons a (cons t done)))) h = record { name = named_is x h.0; ty = as_type_fine t h.1.1.1.0 }

  decl_fine : (r : Tree Expr (row DeclaratorRow)) → Right ns n r → FineDecl (declarator (over see r))
  unfolding declarator over Right
  decl_fine (cons (word x) (cons ds (cons ls (cons t done)))) h = record { name = named_is x h.0; dims = optional_small ns n ds h.1.0; ty = as_type_fine t h.1.1.1.0 }

  -- what a statement of the kind shows is fine
  abbrev FineKind : Kind → Type 0
  FineKind k = (r : Tree Expr (row (sorts k))) → Right ns n r → Known n r → FineView (view k (over see r))

  label_fine : FineKind label
  unfolding sorts view over Right
  label_fine (cons (word x) done) h q = h.0.1

  label_name_fine : FineKind label_name
  unfolding sorts view over Right
  label_name_fine (cons (word x) done) h q = named_is x h.0

  dim_fine : FineKind dim
  unfolding sorts view over Right
  dim_fine (cons ds (cons s done)) h q = items_each declarator FineDecl decl_fine ds h.0

  shared_fine : FineKind shared
  unfolding sorts view over Right
  shared_fine (cons is done) h q = items_each scope_item FineItem item_fine is h.0

  static_fine : FineKind static
  unfolding sorts view over Right
  static_fine (cons is done) h q = items_each scope_item FineItem item_fine is h.0

  redim_fine : FineKind redim
  unfolding sorts view over Right
  redim_fine (cons ds (cons s done)) h q = items_each declarator FineDecl decl_fine ds h.0

  sub_fine : FineKind sub
  unfolding sorts view over Right
  sub_fine (cons (word x) (cons ps (cons b (cons s done)))) h q = (named_is x h.0, record { all = items_each param FineParam param_fine ps h.1.0; few = items_few param ps h.1.0; rank = λ name. subscripts_small ns n name b h.1.1.0 })

  function_fine : FineKind function
  unfolding sorts view over Right
  function_fine (cons (word x) (cons ps (cons t (cons b (cons s (cons d done)))))) h q = (named_is x h.0, record { all = items_each param FineParam param_fine ps h.1.0; few = items_few param ps h.1.0; rank = λ name. subscripts_small ns n name b h.1.1.1.0 }, as_type_fine t h.1.1.0)

  const_fine : FineKind const
  unfolding sorts view over Right Known see
  const_fine (cons (word x) (cons (value e) done)) h q = (named_is x h.0, q.1.0)

  option_base_fine : FineKind option_base
  unfolding sorts view over Right
  option_base_fine (cons (word x) done) h q = h.0.1

  type_def_fine : FineKind type_def
  unfolding sorts view over Right
  type_def_fine (cons (word x) (cons fs done)) h q = (named_is x h.0, items_each (field_decl) FineField field_fine fs h.1.0, items_few field_decl fs h.1.0)

  -- a right statement shows what is in order
  pub view_fine : (k : Kind) (r : Tree Expr (row (sorts k))) → Right ns n r → Known n r → FineView (view k (over see r))
  unfolding Each view_kinds
  view_fine k =
      by_kind FineKind view_kinds (label_fine, (label_name_fine, (dim_fine, (shared_fine, (static_fine, (redim_fine, (sub_fine, (function_fine, (const_fine, (option_base_fine, (type_def_fine, tt))))))))))) k
      (λ o r h q. subst FineView (sym (view_other k o (over see r))) tt)
