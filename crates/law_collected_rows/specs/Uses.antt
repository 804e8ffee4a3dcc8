-- How many subscripts a body gives a name is below 16,777,216, for so are the counts of lists. By induction on the tree. Assumes nothing.
use Rattle.std.specs.Prelude.{ℕ, zero, suc, ◌<◌, ◌≡◌, refl, Bool, List, [], ◌∷◌, ◌++◌, eqb, length}
use Rattle.std.proofs.Common.{sym, arith}
use Rattle.std.proofs.Math.Path.{subst}
use Rattle.std.proofs.Math.Bool.{true, false}
use Rattle.std.proofs.Math.Option.{Option, none as nothing, some}
use Rattle.base_words.specs.Word.{pick}
use Rattle.base_words.specs.Each.{Each}
use Rattle.tree_expr.specs.Expr.{Expr, Exprs, Lit, Var, Elem, Unary, Binary, Call, Field, Paren, none, more, many, Valid, Valids}
use Rattle.tree_stmt.specs.Sorts.{Sorts, ◌&◌, nil, opt, exprs, LValue as LValueRow, many as many_of, Kind, sorts, let', print, input, line_input, swap, read}
use Rattle.tree_stmt.specs.KindLaws.{by_kind}
use Rattle.tree_stmt.specs.Tree.{strings, Shape, one, row, rows, Tree, word, value, Stmt, list, part, this, that, done, cons, none as no_rows, more as add_row, count, Right, over}
use Rattle.tree_views.specs.View.{LValue, lvalue, optional, expression, expressions, items, rows_of}
use Rattle.tree_views.specs.Uses.{own, plain, uses}
use Rattle.tree_views.specs.KindLaws.{target_kinds, uses_plain}
use Rattle.collect_subscript_count.specs.Subscripts.{or_else, first_of, subscripted, in_expr, in_exprs, indexed, in_lvalue, in_stmt, subscript_count}
use Rattle.collect_definition.specs.Seen.{Seen, see}
use Rattle.law_collected_rows.specs.Good.{each_append}

-- none, or a number below 16,777,216
abbrev pub Small : Option ℕ → Type 0
Small nothing = Unit {0}
Small (some k) = k < 16777216

abbrev FineExpr : Seen → Type 0
FineExpr e = (name : ℕ) → Small (e.use_under name)

abbrev FineTarget : LValue Seen → Type 0
FineTarget v = Small (indexed v.indices)

else_small : (a b : Option ℕ) → Small a → Small b → Small (or_else a b)
unfolding or_else
else_small nothing b h k = k
else_small (some x) b h k = h

first_small : {A : Type 0} {P : A → Type 0} (f : A → Option ℕ) → ((x : A) → P x → Small (f x)) → (xs : List A) → Each P xs → Small (first_of f xs)
unfolding first_of Each
first_small f h [] a = tt
first_small f h (x ∷ xs) a = else_small (f x) (first_of f xs) (h x a.0) (first_small f h xs a.1)

subscripted_small : (b : Bool) (k : ℕ) → k < 16777216 → Small (subscripted b k)
unfolding subscripted
subscripted_small true zero h = tt
subscripted_small true (suc k) h = h
subscripted_small false k h = tt

-- as many as there are rows
pub length_rows : {A : Type 0} {ss : Sorts} (f : Tree Seen (row ss) → A) (rs : Tree Expr (rows ss)) → length (rows_of f (over see rs)) ≡ count rs
unfolding rows_of over count
length_rows f no_rows = refl
length_rows f (add_row r rs) =
    let e = length_rows f rs in
    omega arith

module _ (ns : List ℕ) (n : ℕ) where
  mutual
    unfolding in_expr in_exprs Valid Valids

    expr_small : (name : ℕ) (e : Expr) → Valid (strings ns n) e → Small (in_expr name e)
    expr_small name (Lit l) h = tt
    expr_small name (Var x) h = tt
    expr_small name (Elem x es) h = else_small (subscripted (eqb x name) (many es)) (in_exprs name es) (subscripted_small (eqb x name) (many es) h.1) (exprs_small name es h.2)
    expr_small name (Unary o e) h = expr_small name e h.1
    expr_small name (Binary o l r) h = else_small (in_expr name l) (in_expr name r) (expr_small name l h.1) (expr_small name r h.2)
    expr_small name (Call x es) h = else_small (subscripted (eqb x name) (many es)) (in_exprs name es) (subscripted_small (eqb x name) (many es) h.1) (exprs_small name es h.2)
    expr_small name (Field e x) h = expr_small name e h.0
    expr_small name (Paren e) h = expr_small name e h

    exprs_small : (name : ℕ) (es : Exprs) → Valids (strings ns n) es → Small (in_exprs name es)
    exprs_small name none h = tt
    exprs_small name (more e es) h = else_small (in_expr name e) (in_exprs name es) (expr_small name e h.0) (exprs_small name es h.1)

  own_small : {i : Shape} (v : Tree Expr i) → Right ns n v → Each FineExpr (own (over see v))
  unfolding own over Right Each see
  own_small (word x) h = tt
  own_small (value e) h = (λ name. expr_small name e h, tt)
  own_small (Stmt k line r) h = tt
  own_small (list rs) h = own_small rs h.1
  own_small (part r) h = own_small r h
  own_small (this r) h = own_small r h
  own_small (that v) h = own_small v h
  own_small done h = tt
  own_small (cons v r) h = each_append FineExpr (own (over see v)) (own (over see r)) (own_small v h.0) (own_small r h.1)
  own_small no_rows h = tt
  own_small (add_row r rs) h = each_append FineExpr (own (over see r)) (own (over see rs)) (own_small r h.0) (own_small rs h.1)

  -- the count of a target's indices, where it has a list
  pub optional_small : (v : Tree Expr (one (opt (exprs & nil)))) → Right ns n v → Small (indexed (optional expressions (over see v)))
  unfolding indexed optional expressions items over Right
  optional_small (this r) h = tt
  optional_small (that (part (cons (list rs) done))) h = subst (λ (k : ℕ). k < 16777216) (sym (length_rows expression rs)) h.0.0

  target_small : (r : Tree Expr (row LValueRow)) → Right ns n r → FineTarget (lvalue (over see r))
  unfolding lvalue over Right
  target_small (cons (word x) (cons is (cons fs done))) h = optional_small is h.1.0

  rows_small : (rs : Tree Expr (rows LValueRow)) → Right ns n rs → Each FineTarget (rows_of lvalue (over see rs))
  unfolding rows_of over Right Each
  rows_small no_rows h = tt
  rows_small (add_row r rs) h = (target_small r h.0, rows_small rs h.1)

  targets_small : (v : Tree Expr (one (many_of LValueRow))) → Right ns n v → Each FineTarget (items lvalue (over see v))
  unfolding items over Right
  targets_small (list rs) h = rows_small rs h.1

  plain_small : {ss : Sorts} (r : Tree Expr (row ss)) → Right ns n r → Each FineTarget (plain (over see r)).targets × Each FineExpr (plain (over see r)).exprs
  unfolding plain Each
  plain_small r h = (tt, own_small r h)

  -- the uses of a statement of the kind
  abbrev SmallUses : Kind → Type 0
  SmallUses k = (r : Tree Expr (row (sorts k))) → Right ns n r → Each FineTarget (uses k (over see r)).targets × Each FineExpr (uses k (over see r)).exprs

  let_small : SmallUses let'
  unfolding sorts uses over Right Each
  let_small (cons (word x) (cons is e)) h = (((optional_small is h.1.0), tt), each_append FineExpr (own (over see is)) (own (over see e)) (own_small is h.1.0) (own_small e h.1.1))

  print_small : SmallUses print
  unfolding sorts uses over Right Each
  print_small (cons file (cons its (cons (word newline) (cons using' (cons (word write) done))))) h = (tt, each_append FineExpr (own (over see file)) (own (over see using') ++ own (over see its)) (own_small file h.0) (each_append FineExpr (own (over see using')) (own (over see its)) (own_small using' h.1.1.1.0) (own_small its h.1.0)))

  input_small : SmallUses input
  unfolding sorts uses over Right Each
  input_small (cons prompt (cons (word query) (cons vars (cons file done)))) h = (targets_small vars h.1.1.0, each_append FineExpr (own (over see file)) (own (over see vars)) (own_small file h.1.1.1.0) (own_small vars h.1.1.0))

  line_input_small : SmallUses line_input
  unfolding sorts uses over Right Each
  line_input_small (cons prompt (cons (part var) (cons file done))) h = ((target_small var h.1.0, tt), each_append FineExpr (own (over see file)) (own (over see var)) (own_small file h.1.1.0) (own_small var h.1.0))

  swap_small : SmallUses swap
  unfolding sorts uses over Right Each
  swap_small (cons (part a) (cons (part b) done)) h = ((target_small a h.0, (target_small b h.1.0, tt)), each_append FineExpr (own (over see a)) (own (over see b)) (own_small a h.0) (own_small b h.1.0))

  read_small : SmallUses read
  unfolding sorts uses over Right Each
  read_small (cons vars done) h = (targets_small vars h.0, own_small vars h.0)

  uses_small : (k : Kind) → SmallUses k
  unfolding Each target_kinds
  uses_small k = by_kind SmallUses target_kinds (let_small, (print_small, (input_small, (line_input_small, (swap_small, (read_small, tt)))))) k (λ o r h. rw (uses_plain k o (over see r)) (plain_small r h))

  lvalue_small : (name : ℕ) (v : LValue Seen) → FineTarget v → Small (in_lvalue name v)
  unfolding in_lvalue
  lvalue_small name v h = go (eqb v.name name)
    where
      go : (b : Bool) → Small (pick b (indexed v.indices) nothing)
      go true = h
      go false = tt

  -- THE LAW
  pub subscripts_small : {i : Shape} (name : ℕ) (v : Tree Expr i) → Right ns n v → Small (subscript_count (λ name (e : Seen). e.use_under name) name (over see v))
  unfolding subscript_count in_stmt over Right
  subscripts_small name (word x) h = tt
  subscripts_small name (value e) h = tt
  subscripts_small name (Stmt k line r) h =
      let u = uses_small k r h.1 in
      let targets : Small (first_of (in_lvalue name) (uses k (over see r)).targets) = first_small (in_lvalue name) (lvalue_small name) (uses k (over see r)).targets u.0 in
      let exprs : Small (first_of (λ (e : Seen). e.use_under name) (uses k (over see r)).exprs) = first_small (λ (e : Seen). e.use_under name) (λ e q. q name) (uses k (over see r)).exprs u.1 in
      else_small _ _ (else_small _ _ targets exprs) (subscripts_small name r h.1)
  subscripts_small name (list rs) h = subscripts_small name rs h.1
  subscripts_small name (part r) h = subscripts_small name r h
  subscripts_small name (this r) h = subscripts_small name r h
  subscripts_small name (that v) h = subscripts_small name v h
  subscripts_small name done h = tt
  subscripts_small name (cons v r) h = else_small _ _ (subscripts_small name v h.0) (subscripts_small name r h.1)
  subscripts_small name no_rows h = tt
  subscripts_small name (add_row r rs) h = else_small _ _ (subscripts_small name r h.0) (subscripts_small name rs h.1)
