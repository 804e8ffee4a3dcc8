-- Resolving in a second shape, for proofs: each expression has a flag that says whether it is a whole argument by reference. It is the
-- same function as the first. Assumes nothing.
use Rattle.std.specs.Prelude.{ℕ, ◌≡◌, refl, Bool, true, false}
use Rattle.std.proofs.Common.{ap, ap₂, ◌∙◌}
use Rattle.base_words.specs.Word.{pick}
use Rattle.tree_expr.specs.Expr.{Expr, Lit, Var, Elem, Unary, Binary, Call, Field, Paren, Exprs, none, more}
use Rattle.tree_stmt.specs.Tree.{Shape, Tree, word, value, Stmt, list, part, this, that, done, cons, none as nothing, more as add}
use Rattle.resolve_definition.specs.Tables.{Tables, Places, nowhere, places, after, element}
use Rattle.resolve_definition.specs.Resolve.{passed, called, resolve_expr, resolve_args, first, inside, argued, resolve_tree}

-- what stood in parentheses: a whole argument by reference keeps one pair, any other keeps none
unfoldable pub keep : Bool → Expr → Expr
keep true e = Paren e
keep false e = e

unfoldable mutual
  -- an expression resolved, by its flag
  pub res_e : Tables → ℕ → Bool → Expr → Expr
  res_e T σ k (Lit l) = Lit l
  res_e T σ k (Var n) = Var n
  res_e T σ k (Elem f es) = Elem f (res_l T σ nowhere es)
  res_e T σ k (Unary o e) = Unary o (res_e T σ false e)
  res_e T σ k (Binary o e d) = Binary o (res_e T σ false e) (res_e T σ false d)
  res_e T σ k (Call f es) = called (element T σ f) f (res_l T σ (places T f) es)
  res_e T σ k (Field e n) = Field (res_e T σ false e) n
  res_e T σ k (Paren e) = keep k (res_e T σ false e)

  -- a list resolved: m tells each member's flag by its position
  pub res_l : Tables → ℕ → Places → Exprs → Exprs
  res_l T σ m none = none
  res_l T σ m (more e es) = more (res_e T σ (m 0) e) (res_l T σ (after m) es)

-- no argument by reference: as it is
pub passed_false : (e r : Expr) → passed false e r ≡ r
unfolding passed
passed_false (Lit l) r = refl
passed_false (Var n) r = refl
passed_false (Elem f es) r = refl
passed_false (Unary o e) r = refl
passed_false (Binary o e d) r = refl
passed_false (Call f es) r = refl
passed_false (Field e n) r = refl
passed_false (Paren e) r = refl

keep_is : (k : Bool) (e : Expr) → keep k e ≡ pick k (Paren e) e
unfolding keep
keep_is true e = refl
keep_is false e = refl

mutual
  unfolding res_e res_l resolve_expr resolve_args passed

  -- an expression: what the first shape makes of it, with the pair that an argument by reference keeps
  pub res_e_is : (T : Tables) (σ : ℕ) (k : Bool) (e : Expr) → res_e T σ k e ≡ passed k e (resolve_expr T σ e)
  res_e_is T σ k (Lit l) = refl
  res_e_is T σ k (Var n) = refl
  res_e_is T σ k (Elem f es) = ap (Elem f) (res_l_is T σ nowhere es)
  res_e_is T σ k (Unary o e) = ap (Unary o) (res_e_is T σ false e ∙ passed_false e (resolve_expr T σ e))
  res_e_is T σ k (Binary o e d) = ap₂ (Binary o) (res_e_is T σ false e ∙ passed_false e (resolve_expr T σ e)) (res_e_is T σ false d ∙ passed_false d (resolve_expr T σ d))
  res_e_is T σ k (Call f es) = ap (called (element T σ f) f) (res_l_is T σ (places T f) es)
  res_e_is T σ k (Field e n) = ap (λ x. Field x n) (res_e_is T σ false e ∙ passed_false e (resolve_expr T σ e))
  res_e_is T σ k (Paren e) = ap (keep k) (res_e_is T σ false e ∙ passed_false e (resolve_expr T σ e)) ∙ keep_is k (resolve_expr T σ e)

  -- a list: what the first shape makes of it
  pub res_l_is : (T : Tables) (σ : ℕ) (m : Places) (es : Exprs) → res_l T σ m es ≡ resolve_args T σ m es
  res_l_is T σ m none = refl
  res_l_is T σ m (more e es) = ap₂ more (res_e_is T σ (m 0) e) (res_l_is T σ (after m) es)

-- an expression that is no argument by reference
pub res_e_plain : (T : Tables) (σ : ℕ) (e : Expr) → res_e T σ false e ≡ resolve_expr T σ e
res_e_plain T σ e = res_e_is T σ false e ∙ passed_false e (resolve_expr T σ e)

-- a tree of any shape resolved
unfoldable pub res : Tables → ℕ → Places → {i : Shape} → Tree Expr i → Tree Expr i
res T σ m (word x) = word x
res T σ m (value e) = value (res_e T σ (m 0) e)
res T σ m (Stmt k line r) = Stmt k line (res T (inside σ k (first r)) (argued T k (first r)) r)
res T σ m (list rs) = list (res T σ m rs)
res T σ m (part r) = part (res T σ m r)
res T σ m (this r) = this (res T σ m r)
res T σ m (that v) = that (res T σ m v)
res T σ m done = done
res T σ m (cons v r) = cons (res T σ m v) (res T σ m r)
res T σ m nothing = nothing
res T σ m (add r rs) = add (res T σ m r) (res T σ (after m) rs)

-- a tree: what the first shape makes of it
pub res_is : (T : Tables) (σ : ℕ) (m : Places) {i : Shape} (v : Tree Expr i) → res T σ m v ≡ resolve_tree T σ m v
unfolding res resolve_tree
res_is T σ m (word x) = refl
res_is T σ m (value e) = ap value (res_e_is T σ (m 0) e)
res_is T σ m (Stmt k line r) = ap (Stmt k line) (res_is T (inside σ k (first r)) (argued T k (first r)) r)
res_is T σ m (list rs) = ap list (res_is T σ m rs)
res_is T σ m (part r) = ap part (res_is T σ m r)
res_is T σ m (this r) = ap this (res_is T σ m r)
res_is T σ m (that v) = ap that (res_is T σ m v)
res_is T σ m done = refl
res_is T σ m (cons v r) = ap₂ cons (res_is T σ m v) (res_is T σ m r)
res_is T σ m nothing = refl
res_is T σ m (add r rs) = ap₂ add (res_is T σ m r) (res_is T σ (after m) rs)
