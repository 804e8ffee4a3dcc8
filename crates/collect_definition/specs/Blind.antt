-- Collecting can't tell a program from the one with all parentheses gone and all calls written as elements.
use Rattle.std.specs.Prelude.{◌≡◌, refl, List, [], eqb, Err}
use Rattle.std.proofs.Common.{ap, ap₂}
use Rattle.base_words.specs.Word.{pick}
use Rattle.tree_expr.specs.Expr.{Expr, Lit, Var, Elem, Unary, Binary, Call, Field, Paren}
use Rattle.tree_stmt.specs.Tree.{Shape, Tree, word, value, Stmt, list, part, this, that, done, cons, none, more, over}
use Rattle.tree_views.specs.Strip.{strip_e, strip}
use Rattle.rows_table.specs.Rows.{Row}
use Rattle.fold_values.specs.Fold.{negate_of, binary_of}
use Rattle.fold_const_eval.specs.ConstEval.{const_eval}
use Rattle.collect_subscript_count.specs.Blind.{in_expr_strip}
use Rattle.collect_definition.specs.Seen.{see}
use Rattle.collect_buffers.specs.State.{running}
use Rattle.collect_definition.specs.Collect.{Given, collected, analysed, check_name_collisions, collect}
use Rattle.fold_values.specs.declared.Unfolded.TheVariants.{NotConstant}

const_eval_strip : (rows : List Row) (e : Expr) → const_eval rows (strip_e e) ≡ const_eval rows e
unfolding const_eval strip_e
const_eval_strip rows (Lit l) = refl
const_eval_strip rows (Var n) = refl
const_eval_strip rows (Elem n es) = refl
const_eval_strip rows (Unary o e) = ap (λ f. pick (eqb o 0) (negate_of f) (Err NotConstant)) (const_eval_strip rows e)
const_eval_strip rows (Binary o l r) = ap₂ (binary_of o) (const_eval_strip rows l) (const_eval_strip rows r)
const_eval_strip rows (Call n es) = refl
const_eval_strip rows (Field e n) = refl
const_eval_strip rows (Paren e) = const_eval_strip rows e

-- of an expression
pub blind_e : (e : Expr) → see (strip_e e) ≡ see e
unfolding see
blind_e e = λ i. record { folds_to = λ rows. const_eval_strip rows e i; use_under = λ n. in_expr_strip n e i }

over_over : {E F : Type 0} {i : Shape} (g : E → F) (f : E → E) → ((e : E) → g (f e) ≡ g e) → (t : Tree E i) → over g (over f t) ≡ over g t
unfolding over
over_over g f q (word x) = refl
over_over g f q (value e) = ap value (q e)
over_over g f q (Stmt k line r) = ap (Stmt k line) (over_over g f q r)
over_over g f q (list rs) = ap list (over_over g f q rs)
over_over g f q (part r) = ap part (over_over g f q r)
over_over g f q (this r) = ap this (over_over g f q r)
over_over g f q (that v) = ap that (over_over g f q v)
over_over g f q done = refl
over_over g f q (cons v r) = ap₂ cons (over_over g f q v) (over_over g f q r)
over_over g f q none = refl
over_over g f q (more r rs) = ap₂ more (over_over g f q r) (over_over g f q rs)

-- of a tree
pub blind : {i : Shape} (t : Tree Expr i) → over see (strip t) ≡ over see t
unfolding strip
blind t = over_over see strip_e blind_e t

-- so the tables and the diagnostics are the same
pub collected_strip : {i : Shape} (G : Given) (t : Tree Expr i) → collected G (strip t) ≡ collected G t
unfolding collected
collected_strip G t = ap (λ s. collect G 0 s (running [] [])) (blind t)

-- also after the check of names
pub analysed_strip : {i : Shape} (G : Given) (t : Tree Expr i) → analysed G (strip t) ≡ analysed G t
unfolding analysed
analysed_strip G t = ap (check_name_collisions G) (collected_strip G t)
