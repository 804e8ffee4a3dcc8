-- Every expression replaced: what a statement's targets and its own expressions are then.
use Rattle.std.specs.Prelude.{◌≡◌}
use Rattle.std.proofs.Math.Path.{refl, sym, ap, ap₂}
use Rattle.std.proofs.Common.{◌∙◌}
use mathlib.Core.List.{List, [], ◌∷◌, ◌++◌, map}
use Rattle.std.proofs.Math.Option.{Option, none as absent, some}
use Rattle.base_words.specs.Each.{Each}
use Rattle.tree_stmt.specs.Sorts.{Sorts, nil, ◌&◌, expr, opt, many, exprs, LValue as LValueRow, Kind, sorts, let', print, input, line_input, swap, read}
use Rattle.tree_stmt.specs.Tree.{Shape, one, row, rows, Tree, word, value, Stmt, list, part, this, that, done, cons, none, more, over}
use Rattle.tree_views.specs.View.{LValue, lvalue, optional, rows_of, items, expression, expressions}
use Rattle.tree_stmt.specs.KindLaws.{by_kind}
use Rattle.tree_views.specs.Uses.{own, Uses, plain, uses}
use Rattle.tree_views.specs.KindLaws.{target_kinds, uses_plain}

module _ {E F : Type 0} (g : E → F) where
  -- ---- expressions, targets

  -- the indices, where there is a list
  unfoldable pub over_indices : Option (List E) → Option (List F)
  over_indices absent = absent
  over_indices (some es) = some (map g es)

  -- a target with its indices replaced
  unfoldable pub over_target : LValue E → LValue F
  unfolding over_indices
  over_target v = record { name = v.name; indices = over_indices v.indices }

  -- targets and expressions replaced
  unfoldable pub over_uses : Uses E → Uses F
  unfolding over_target
  over_uses u = record { targets = map over_target u.targets; exprs = map g u.exprs }

  map_append : (xs ys : List E) → map g (xs ++ ys) ≡ map g xs ++ map g ys
  map_append [] ys = refl
  map_append (x ∷ xs) ys = ap (λ (l : List F). g x ∷ l) (map_append xs ys)

  -- the own expressions of a tree under g are its own expressions, each by g
  pub own_over : {i : Shape} (t : Tree E i) → own (over g t) ≡ map g (own t)
  unfolding over own
  own_over (word x) = refl
  own_over (value e) = refl
  own_over (Stmt k line r) = refl
  own_over (list rs) = own_over rs
  own_over (part r) = own_over r
  own_over (this r) = own_over r
  own_over (that v) = own_over v
  own_over done = refl
  own_over (cons v r) = ap₂ ◌++◌ (own_over v) (own_over r) ∙ sym (map_append (own v) (own r))
  own_over none = refl
  own_over (more r rs) = ap₂ ◌++◌ (own_over r) (own_over rs) ∙ sym (map_append (own r) (own rs))

  own_two : {i j : Shape} (a : Tree E i) (b : Tree E j) → own (over g a) ++ own (over g b) ≡ map g (own a ++ own b)
  own_two a b = ap₂ ◌++◌ (own_over a) (own_over b) ∙ sym (map_append (own a) (own b))

  expressions_of : (rs : Tree E (rows (expr & nil))) → rows_of expression (over g rs) ≡ map g (rows_of expression rs)
  unfolding over rows_of expression
  expressions_of none = refl
  expressions_of (more (cons (value e) done) rs) = ap (λ (l : List F). g e ∷ l) (expressions_of rs)

  -- so are those of a list
  pub expressions_over : (r : Tree E (row (exprs & nil))) → expressions (over g r) ≡ map g (expressions r)
  unfolding over expressions items
  expressions_over (cons (list rs) done) = expressions_of rs

  -- so are a target's indices
  pub indices_over : (is : Tree E (one (opt (exprs & nil)))) → optional expressions (over g is) ≡ over_indices (optional expressions is)
  unfolding over optional over_indices
  indices_over (this r) = refl
  indices_over (that (part r)) = ap some (expressions_over r)

  -- a target's tree under g is its target under g
  pub lvalue_over : (r : Tree E (row LValueRow)) → lvalue (over g r) ≡ over_target (lvalue r)
  unfolding over lvalue over_target
  lvalue_over (cons (word x) (cons is (cons fs done))) = ap (λ (o : Option (List F)). record { name = x; indices = o }) (indices_over is)

  lvalues_of : (rs : Tree E (rows LValueRow)) → rows_of lvalue (over g rs) ≡ map over_target (rows_of lvalue rs)
  unfolding over rows_of
  lvalues_of none = refl
  lvalues_of (more r rs) = ap₂ ◌∷◌ (lvalue_over r) (lvalues_of rs)

  -- so are several targets
  pub items_over : (v : Tree E (one (many LValueRow))) → items lvalue (over g v) ≡ map over_target (items lvalue v)
  unfolding over items
  items_over (list rs) = lvalues_of rs

  -- ---- a statement

  both : {t t' : List (LValue F)} {e e' : List F} → t ≡ t' → e ≡ e' → ◌≡◌ {A = Uses F} (record { targets = t; exprs = e }) (record { targets = t'; exprs = e' })
  both p q = ap₂ (λ (t : List (LValue F)) (e : List F). record { targets = t; exprs = e }) p q

  plain_over : {ss : Sorts} (r : Tree E (row ss)) → plain (over g r) ≡ over_uses (plain r)
  unfolding plain over_uses
  plain_over r = both refl (own_over r)

  -- what is to be shown of a kind
  abbrev Over : Kind → Type 0
  Over k = (r : Tree E (row (sorts k))) → uses k (over g r) ≡ over_uses (uses k r)

  let_over : Over let'
  unfolding sorts uses over over_uses over_target
  let_over (cons (word x) (cons is e)) = both (ap (λ (o : Option (List F)). record { name = x; indices = o } ∷ []) (indices_over is)) (own_two is e)

  print_over : Over print
  unfolding sorts uses over over_uses
  print_over (cons file (cons its (cons (word newline) (cons using' (cons (word write) done))))) = both refl (ap₂ ◌++◌ (own_over file) (own_two using' its) ∙ sym (map_append (own file) (own using' ++ own its)))

  input_over : Over input
  unfolding sorts uses over over_uses
  input_over (cons prompt (cons (word query) (cons vars (cons file done)))) = both (items_over vars) (own_two file vars)

  line_input_over : Over line_input
  unfolding sorts uses over over_uses
  line_input_over (cons prompt (cons (part var) (cons file done))) = both (ap (λ (v : LValue F). v ∷ []) (lvalue_over var)) (own_two file var)

  swap_over : Over swap
  unfolding sorts uses over over_uses
  swap_over (cons (part a) (cons (part b) done)) = both (ap₂ (λ (v w : LValue F). v ∷ w ∷ []) (lvalue_over a) (lvalue_over b)) (own_two a b)

  read_over : Over read
  unfolding sorts uses over over_uses
  read_over (cons vars done) = both (items_over vars) (own_over vars)

  -- what a statement uses under g is what it uses, each by g
  pub uses_over : (k : Kind) (r : Tree E (row (sorts k))) → uses k (over g r) ≡ over_uses (uses k r)
  unfolding Each target_kinds
  uses_over k = by_kind Over target_kinds (let_over, (print_over, (input_over, (line_input_over, (swap_over, (read_over, tt)))))) k (λ o r. uses_plain k o (over g r) ∙ plain_over r ∙ ap over_uses (sym (uses_plain k o r)))
