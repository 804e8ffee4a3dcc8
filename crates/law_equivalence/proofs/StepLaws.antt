-- What links steps and resolving: a step can be undone and changes nothing that resolving gives, a list of steps leads from a program to what
-- resolving makes of it, and resolving changes nothing that stripping leaves. Assumes nothing.
use Rattle.std.specs.Prelude.{ℕ, ◌≡◌, refl, Bool, true, false, ◌&&◌, not}
use Rattle.std.proofs.Common.{sym, ap, ap₂, subst, ◌∙◌}
use Rattle.std.proofs.Math.Path.{fun_ext}
use Rattle.std.proofs.lemmas.Bool.{false≢true}
use Rattle.tree_expr.specs.Expr.{Expr, Lit, Var, Elem, Unary, Binary, Call, Field, Paren, Exprs, none, more}
use Rattle.tree_stmt.specs.Sorts.{stmt, Kind, sorts}
use Rattle.tree_stmt.specs.Tree.{Shape, one, row, Tree, word, value, Stmt, list, part, this, that, done, cons, none as nothing, more as add, over}
use Rattle.tree_views.specs.Strip.{strip_e, strip_l, strip}
use Rattle.resolve_definition.specs.Tables.{Tables, Places, nowhere, places, after, element}
use Rattle.resolve_definition.specs.Resolve.{called, first, inside, argued}
use Rattle.resolve_definition.specs.Flags.{keep, res_e, res_l, res}
use Rattle.law_equivalence.specs.Chain.{Chain, empty, more as step_on, single, then, under}
use Rattle.law_equivalence.specs.Step.{StepE, put, take, to_element, to_call, in_elem, in_unary, in_left, in_right, in_call, in_field, in_paren, StepL, here, there, Step, in_value, in_statement, in_list, in_part, in_this, in_that, in_head, in_tail, in_row, past_row}

-- an array that is no procedure has no argument places
no_places : (T : Tables) (σ f : ℕ) → element T σ f ≡ true → places T f ≡ nowhere
unfolding element places nowhere
no_places T σ f h = fun_ext (λ i. go (T.procedure f) h i)
  where
    go : (b : Bool) → (not b && T.array σ f) ≡ true → (i : ℕ) → (b && T.reference f i) ≡ false
    go false e i = refl
    go true e i = absurd (false≢true e)

-- ---- expressions

mutual
  -- a step in an expression can be undone
  pub undo_e : {T : Tables} {σ : ℕ} {k : Bool} {e d : Expr} → StepE T σ k e d → StepE T σ k d e
  undo_e put = take
  undo_e take = put
  undo_e (to_element h) = to_call h
  undo_e (to_call h) = to_element h
  undo_e (in_elem s) = in_elem (undo_l s)
  undo_e (in_unary s) = in_unary (undo_e s)
  undo_e (in_left s) = in_left (undo_e s)
  undo_e (in_right s) = in_right (undo_e s)
  undo_e (in_call s) = in_call (undo_l s)
  undo_e (in_field s) = in_field (undo_e s)
  undo_e (in_paren s) = in_paren (undo_e s)

  -- so can one in a list
  pub undo_l : {T : Tables} {σ : ℕ} {m : Places} {es ds : Exprs} → StepL T σ m es ds → StepL T σ m ds es
  undo_l (here s) = here (undo_e s)
  undo_l (there s) = there (undo_l s)

mutual
  unfolding res_e res_l keep called

  -- a step leaves what resolving makes of an expression
  pub step_e : {T : Tables} {σ : ℕ} {k : Bool} {e d : Expr} → StepE T σ k e d → res_e T σ k e ≡ res_e T σ k d
  step_e put = refl
  step_e take = refl
  step_e {T} {σ} (to_element {f = f} {es = es} h) = rw (h, no_places T σ f h)
  step_e {T} {σ} (to_call {f = f} {es = es} h) = rw (h, no_places T σ f h)
  step_e (in_elem {f = f} s) = ap (Elem f) (step_l s)
  step_e (in_unary {o = o} s) = ap (Unary o) (step_e s)
  step_e {T} {σ} (in_left {o = o} {c = c} s) = ap (λ x. Binary o x (res_e T σ false c)) (step_e s)
  step_e {T} {σ} (in_right {o = o} {c = c} s) = ap (Binary o (res_e T σ false c)) (step_e s)
  step_e {T} {σ} (in_call {f = f} s) = ap (called (element T σ f) f) (step_l s)
  step_e (in_field {n = n} s) = ap (λ x. Field x n) (step_e s)
  step_e {k} (in_paren s) = ap (keep k) (step_e s)

  -- and what it makes of a list
  pub step_l : {T : Tables} {σ : ℕ} {m : Places} {es ds : Exprs} → StepL T σ m es ds → res_l T σ m es ≡ res_l T σ m ds
  step_l {T} {σ} {m} (here {es = es} s) = ap (λ x. more x (res_l T σ (after m) es)) (step_e s)
  step_l {T} {σ} {m} (there {e = e} s) = ap (more (res_e T σ (m 0) e)) (step_l s)

close : {T : Tables} {σ : ℕ} {k : Bool} (f : ℕ) (es : Exprs) (b : Bool) → element T σ f ≡ b → Chain (StepE T σ k) (Call f es) (called b f es)
unfolding called
close f es true h = single (to_element h)
close f es false h = empty

unwrap : {T : Tables} {σ : ℕ} (k : Bool) {e d : Expr} → Chain (StepE T σ false) e d → Chain (StepE T σ k) (Paren e) (keep k d)
unfolding keep
unwrap true s = under Paren (λ x y r. in_paren r) s
unwrap false s = then (single take) s

mutual
  unfolding res_e res_l

  -- steps lead from an expression to what resolving makes of it
  pub reach_e : (T : Tables) (σ : ℕ) (k : Bool) (e : Expr) → Chain (StepE T σ k) e (res_e T σ k e)
  reach_e T σ k (Lit l) = empty
  reach_e T σ k (Var n) = empty
  reach_e T σ k (Elem f es) = under (Elem f) (λ x y r. in_elem r) (reach_l T σ nowhere es)
  reach_e T σ k (Unary o e) = under (Unary o) (λ x y r. in_unary r) (reach_e T σ false e)
  reach_e T σ k (Binary o e d) = then (under (λ x. Binary o x d) (λ x y r. in_left r) (reach_e T σ false e)) (under (Binary o (res_e T σ false e)) (λ x y r. in_right r) (reach_e T σ false d))
  reach_e T σ k (Call f es) = then (under (Call f) (λ x y r. in_call r) (reach_l T σ (places T f) es)) (close f (res_l T σ (places T f) es) (element T σ f) refl)
  reach_e T σ k (Field e n) = under (λ x. Field x n) (λ x y r. in_field r) (reach_e T σ false e)
  reach_e T σ k (Paren e) = unwrap k (reach_e T σ false e)

  -- and from a list to what it makes of it
  pub reach_l : (T : Tables) (σ : ℕ) (m : Places) (es : Exprs) → Chain (StepL T σ m) es (res_l T σ m es)
  reach_l T σ m none = empty
  reach_l T σ m (more e es) = then (under (λ x. more x es) (λ x y r. here r) (reach_e T σ (m 0) e)) (under (more (res_e T σ (m 0) e)) (λ x y r. there r) (reach_l T σ (after m) es))

-- ---- trees of any shape

-- no step changes a statement's name
first_step : {T : Tables} {σ : ℕ} {m : Places} {i : Shape} {v u : Tree Expr i} → Step T σ m i v u → first v ≡ first u
unfolding first
first_step (in_value s) = refl
first_step (in_statement s) = refl
first_step (in_list s) = refl
first_step (in_part s) = refl
first_step (in_this s) = refl
first_step (in_that s) = refl
first_step (in_head s) = first_step s
first_step (in_tail s) = refl
first_step (in_row s) = refl
first_step (past_row s) = refl

-- a step can be undone
pub undo : {T : Tables} {σ : ℕ} {m : Places} {i : Shape} {v u : Tree Expr i} → Step T σ m i v u → Step T σ m i u v
undo (in_value s) = in_value (undo_e s)
undo {T} {σ} (in_statement {k = k} {r = r} {t = t} s) = in_statement (subst (λ x. Step T (inside σ k x) (argued T k x) (row (sorts k)) t r) (first_step s) (undo s))
undo (in_list s) = in_list (undo s)
undo (in_part s) = in_part (undo s)
undo (in_this s) = in_this (undo s)
undo (in_that s) = in_that (undo s)
undo (in_head s) = in_head (undo s)
undo (in_tail s) = in_tail (undo s)
undo (in_row s) = in_row (undo s)
undo (past_row s) = past_row (undo s)

-- it leaves what resolving makes of the tree
pub step : {T : Tables} {σ : ℕ} {m : Places} {i : Shape} {v u : Tree Expr i} → Step T σ m i v u → res T σ m v ≡ res T σ m u
unfolding res
step (in_value s) = ap value (step_e s)
step {T} {σ} (in_statement {k = k} {line = line} {r = r} {t = t} s) = ap (Stmt k line) (step s ∙ ap (λ x. res T (inside σ k x) (argued T k x) t) (first_step s))
step (in_list s) = ap list (step s)
step (in_part s) = ap part (step s)
step (in_this s) = ap this (step s)
step (in_that s) = ap that (step s)
step {T} {σ} {m} (in_head {r = r} s) = ap (λ x. cons x (res T σ m r)) (step s)
step {T} {σ} {m} (in_tail {v = v} s) = ap (cons (res T σ m v)) (step s)
step {T} {σ} {m} (in_row {rs = rs} s) = ap (λ x. add x (res T σ (after m) rs)) (step s)
step {T} {σ} {m} (past_row {r = r} s) = ap (add (res T σ m r)) (step s)

-- steps inside a statement
in_stmts : {T : Tables} {σ : ℕ} {m : Places} (k : Kind) (line x : ℕ) {r t : Tree Expr (row (sorts k))} → first r ≡ x → Chain (Step T (inside σ k x) (argued T k x) (row (sorts k))) r t → Chain (Step T σ m (one stmt)) (Stmt k line r) (Stmt k line t)
in_stmts k line x e empty = empty
in_stmts {T} {σ} k line x e (step_on {a} {b} s t) =
    step_on (in_statement (subst (λ y. Step T (inside σ k y) (argued T k y) (row (sorts k)) a b) (sym e) s)) (in_stmts k line x (sym (first_step s) ∙ e) t)

-- steps lead from a tree to what resolving makes of it
pub reach : (T : Tables) (σ : ℕ) (m : Places) {i : Shape} (v : Tree Expr i) → Chain (Step T σ m i) v (res T σ m v)
unfolding res
reach T σ m (word x) = empty
reach T σ m (value e) = under value (λ x y r. in_value r) (reach_e T σ (m 0) e)
reach T σ m (Stmt k line r) = in_stmts k line (first r) refl (reach T (inside σ k (first r)) (argued T k (first r)) r)
reach T σ m (list rs) = under list (λ x y r. in_list r) (reach T σ m rs)
reach T σ m (part r) = under part (λ x y r. in_part r) (reach T σ m r)
reach T σ m (this r) = under this (λ x y r. in_this r) (reach T σ m r)
reach T σ m (that v) = under that (λ x y r. in_that r) (reach T σ m v)
reach T σ m done = empty
reach T σ m (cons v r) = then (under (λ x. cons x r) (λ x y s. in_head s) (reach T σ m v)) (under (cons (res T σ m v)) (λ x y s. in_tail s) (reach T σ m r))
reach T σ m nothing = empty
reach T σ m (add r rs) = then (under (λ x. add x rs) (λ x y s. in_row s) (reach T σ m r)) (under (add (res T σ m r)) (λ x y s. past_row s) (reach T σ (after m) rs))

-- ---- stripping

strip_called : (b : Bool) (f : ℕ) (es : Exprs) → strip_e (called b f es) ≡ Elem f (strip_l es)
unfolding called strip_e
strip_called true f es = refl
strip_called false f es = refl

strip_keep : (b : Bool) (e : Expr) → strip_e (keep b e) ≡ strip_e e
unfolding keep strip_e
strip_keep true e = refl
strip_keep false e = refl

mutual
  unfolding res_e res_l strip_e strip_l

  strip_res_e : (T : Tables) (σ : ℕ) (k : Bool) (e : Expr) → strip_e (res_e T σ k e) ≡ strip_e e
  strip_res_e T σ k (Lit l) = refl
  strip_res_e T σ k (Var n) = refl
  strip_res_e T σ k (Elem f es) = ap (Elem f) (strip_res_l T σ nowhere es)
  strip_res_e T σ k (Unary o e) = ap (Unary o) (strip_res_e T σ false e)
  strip_res_e T σ k (Binary o e d) = ap₂ (Binary o) (strip_res_e T σ false e) (strip_res_e T σ false d)
  strip_res_e T σ k (Call f es) = strip_called (element T σ f) f (res_l T σ (places T f) es) ∙ ap (Elem f) (strip_res_l T σ (places T f) es)
  strip_res_e T σ k (Field e n) = ap (λ x. Field x n) (strip_res_e T σ false e)
  strip_res_e T σ k (Paren e) = strip_keep k (res_e T σ false e) ∙ strip_res_e T σ false e

  strip_res_l : (T : Tables) (σ : ℕ) (m : Places) (es : Exprs) → strip_l (res_l T σ m es) ≡ strip_l es
  strip_res_l T σ m none = refl
  strip_res_l T σ m (more e es) = ap₂ more (strip_res_e T σ (m 0) e) (strip_res_l T σ (after m) es)

-- a tree and its resolved one are the same without parentheses and calls
pub strip_res : (T : Tables) (σ : ℕ) (m : Places) {i : Shape} (v : Tree Expr i) → strip (res T σ m v) ≡ strip v
unfolding res strip over
strip_res T σ m (word x) = refl
strip_res T σ m (value e) = ap value (strip_res_e T σ (m 0) e)
strip_res T σ m (Stmt k line r) = ap (Stmt k line) (strip_res T (inside σ k (first r)) (argued T k (first r)) r)
strip_res T σ m (list rs) = ap list (strip_res T σ m rs)
strip_res T σ m (part r) = ap part (strip_res T σ m r)
strip_res T σ m (this r) = ap this (strip_res T σ m r)
strip_res T σ m (that v) = ap that (strip_res T σ m v)
strip_res T σ m done = refl
strip_res T σ m (cons v r) = ap₂ cons (strip_res T σ m v) (strip_res T σ m r)
strip_res T σ m nothing = refl
strip_res T σ m (add r rs) = ap₂ add (strip_res T σ m r) (strip_res T σ (after m) rs)
