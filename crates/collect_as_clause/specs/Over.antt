-- What views read where they read no expression: the same after every expression is replaced. Assumes nothing.
use Rattle.std.specs.Prelude.{suc, ◌+◌, ◌≡◌, length}
use Rattle.std.proofs.Common.{add-one, sym, ◌∙◌}
use Rattle.std.proofs.Math.Path.{refl, ap}
use mathlib.Core.List.{List, ◌∷◌}
use Rattle.std.proofs.Math.Option.{some}
use Rattle.tree_stmt.specs.Sorts.{Sorts, nil, ◌&◌, many, flag, opt, TypeRef as TypeSort, Param as ParamRow, ScopeItem as ScopeRow, FieldDecl as FieldRow}
use Rattle.tree_stmt.specs.Tree.{Tree, one, row, rows, word, list, part, this, that, done, cons, none, more, count, over}
use Rattle.tree_views.specs.View.{optional, rows_of, items, is_set, type_ref, as_type, param, scope_item, field_decl}

-- as many as there are rows
pub rows_length : {E A : Type 0} {ss : Sorts} (f : Tree E (row ss) → A) (rs : Tree E (rows ss)) → length (rows_of f rs) ≡ count rs
unfolding rows_of count
rows_length f none = refl
rows_length f (more r rs) = ap suc (rows_length f rs) ∙ sym (add-one (count rs))

module _ {E F : Type 0} (g : E → F) where
  -- a list keeps its count
  pub count_over : {ss : Sorts} (rs : Tree E (rows ss)) → count (over g rs) ≡ count rs
  unfolding count over
  count_over none = refl
  count_over (more r rs) = ap (λ n. n + 1) (count_over rs)

  -- a flag is read as before
  pub set_over : (v : Tree E (one flag)) → is_set (over g v) ≡ is_set v
  unfolding is_set over
  set_over (word x) = refl

  -- so is a type
  pub type_over : (v : Tree E (one TypeSort)) → type_ref (over g v) ≡ type_ref v
  unfolding type_ref over
  type_over (this r) = refl
  type_over (that (this r)) = refl
  type_over (that (that (this r))) = refl
  type_over (that (that (that (this r)))) = refl
  type_over (that (that (that (that (this (cons (word n) done)))))) = refl
  type_over (that (that (that (that (that (this (cons (word x) done))))))) = refl
  type_over (that (that (that (that (that (that x)))))) = elim x [ ]

  -- so is a type that is a row's one field
  pub as_type_over : (v : Tree E (row (TypeSort & nil))) → as_type (over g v) ≡ as_type v
  unfolding as_type over
  as_type_over (cons t done) = type_over t

  -- an option, a list: by what its rows are
  pub optional_over : {A : Type 0} {ss : Sorts} (f : Tree F (row ss) → A) (h : Tree E (row ss) → A) → ((r : Tree E (row ss)) → f (over g r) ≡ h r)
      → (v : Tree E (one (opt ss))) → optional f (over g v) ≡ optional h v
  unfolding optional over
  optional_over f h e (this r) = refl
  optional_over f h e (that (part r)) = ap some (e r)

  -- the rows of a list: the same
  pub rows_over : {A : Type 0} {ss : Sorts} (f : Tree F (row ss) → A) (h : Tree E (row ss) → A) → ((r : Tree E (row ss)) → f (over g r) ≡ h r)
      → (rs : Tree E (rows ss)) → rows_of f (over g rs) ≡ rows_of h rs
  unfolding rows_of over
  rows_over f h e none = refl
  rows_over {A} f h e (more r rs) = ap (λ (x : A). x ∷ rows_of f (over g rs)) (e r) ∙ ap (λ (l : List A). h r ∷ l) (rows_over f h e rs)

  -- a whole list: the same
  pub items_over : {A : Type 0} {ss : Sorts} (f : Tree F (row ss) → A) (h : Tree E (row ss) → A) → ((r : Tree E (row ss)) → f (over g r) ≡ h r)
      → (v : Tree E (one (many ss))) → items f (over g v) ≡ items h v
  unfolding items over
  items_over f h e (list rs) = rows_over f h e rs

  -- an AS clause
  pub as_over : (v : Tree E (one (opt (TypeSort & nil)))) → optional as_type (over g v) ≡ optional as_type v
  as_over v = optional_over as_type as_type as_type_over v

  -- a parameter, an item, a field
  pub param_over : (r : Tree E (row ParamRow)) → param (over g r) ≡ param r
  unfolding param over
  param_over (cons (word x) (cons v (cons a (cons t done)))) = rw (set_over v, set_over a, as_over t)

  -- an item is read as before
  pub scope_item_over : (r : Tree E (row ScopeRow)) → scope_item (over g r) ≡ scope_item r
  unfolding scope_item over
  scope_item_over (cons (word x) (cons a (cons t done))) = rw (set_over a, as_over t)

  -- so is a field
  pub field_decl_over : (r : Tree E (row FieldRow)) → field_decl (over g r) ≡ field_decl r
  unfolding field_decl over
  field_decl_over (cons (word x) (cons t done)) = rw (type_over t)

  -- so is a list of items
  pub scope_items_over : (v : Tree E (one (many ScopeRow))) → items scope_item (over g v) ≡ items scope_item v
  scope_items_over v = items_over scope_item scope_item scope_item_over v

  -- so are parameters
  pub param_rows_over : (rs : Tree E (rows ParamRow)) → rows_of param (over g rs) ≡ rows_of param rs
  param_rows_over rs = rows_over param param param_over rs

  -- and fields
  pub field_rows_over : (rs : Tree E (rows FieldRow)) → rows_of field_decl (over g rs) ≡ rows_of field_decl rs
  field_rows_over rs = rows_over field_decl field_decl field_decl_over rs
