-- What resolving keeps: the counts of lists, that a tree is right under its strings; and what it makes no larger: the words and the
-- depth. So the resolved words are accepted again. Assumes nothing.
use Rattle.std.specs.Prelude.{ℕ, ◌+◌, ◌≤◌, ◌<◌, ◌≡◌, refl, Bool, true, false, List, length}
use Rattle.std.proofs.Common.{arith, sym, ap, subst, ◌∙◌, length-append}
use Rattle.tree_expr.specs.Expr.{Strings, Named, Expr, Lit, Var, Elem, Unary, Binary, Call, Field, Paren, Exprs, none, more, many, words, words_all, depth, depths, Valid, Valids}
use Rattle.tree_stmt.specs.Sorts.{Sorts}
use Rattle.tree_stmt.specs.Tree.{strings, Shape, rows, Tree, word, value, Stmt, list, part, this, that, done, cons, none as nothing, more as add, count, words_t, depth_t, Right}
use Rattle.resolve_definition.specs.Tables.{Tables, Places, nowhere, places, after, element}
use Rattle.resolve_definition.specs.Resolve.{called, resolve_expr, resolve_args, first, inside, argued, resolve_tree}
use Rattle.resolve_definition.specs.Flags.{keep, res_e, res_l, res, res_e_plain, res_l_is, res_is}

-- ---- counts

-- a list of expressions keeps its count
pub many_res : (T : Tables) (σ : ℕ) (m : Places) (es : Exprs) → many (res_l T σ m es) ≡ many es
unfolding many res_l
many_res T σ m none = refl
many_res T σ m (more e es) = ap (λ (n : ℕ). n + 1) (many_res T σ (after m) es)

-- so does a list of rows
pub count_res : (T : Tables) (σ : ℕ) (m : Places) {ss : Sorts} (rs : Tree Expr (rows ss)) → count (res T σ m rs) ≡ count rs
unfolding count res
count_res T σ m nothing = refl
count_res T σ m (add r rs) = ap (λ (n : ℕ). n + 1) (count_res T σ (after m) rs)

-- the same in the first shape
pub count_tree : (T : Tables) (σ : ℕ) (m : Places) {ss : Sorts} (rs : Tree Expr (rows ss)) → count (resolve_tree T σ m rs) ≡ count rs
count_tree T σ m rs = ap count (sym (res_is T σ m rs)) ∙ count_res T σ m rs

-- ---- words

len_called : (b : Bool) (f : ℕ) (es : Exprs) → length (words (called b f es)) ≡ 3 + length (words_all es)
unfolding called words
len_called true f es = omega arith
len_called false f es = omega arith

len_keep : (k : Bool) (e : Expr) → length (words (keep k e)) ≤ 1 + length (words e)
unfolding keep words
len_keep true e = omega arith
len_keep false e = omega arith

mutual
  unfolding res_e res_l words words_all

  len_res_e : (T : Tables) (σ : ℕ) (k : Bool) (e : Expr) → length (words (res_e T σ k e)) ≤ length (words e)
  len_res_e T σ k (Lit l) = omega arith
  len_res_e T σ k (Var x) = omega arith
  len_res_e T σ k (Elem f es) = omega (arith, len_res_l T σ nowhere es)
  len_res_e T σ k (Unary o e) = omega (arith, len_res_e T σ false e)
  len_res_e T σ k (Binary o e d) = simp length-append (omega (arith, len_res_e T σ false e, len_res_e T σ false d))
  len_res_e T σ k (Call f es) = omega (arith, len_called (element T σ f) f (res_l T σ (places T f) es), len_res_l T σ (places T f) es)
  len_res_e T σ k (Field e x) = simp length-append (omega (arith, len_res_e T σ false e))
  len_res_e T σ k (Paren e) = omega (arith, len_keep k (res_e T σ false e), len_res_e T σ false e)

  len_res_l : (T : Tables) (σ : ℕ) (m : Places) (es : Exprs) → length (words_all (res_l T σ m es)) ≤ length (words_all es)
  len_res_l T σ m none = omega arith
  len_res_l T σ m (more e es) = simp length-append (omega (arith, len_res_e T σ (m 0) e, len_res_l T σ (after m) es))

len_res : (T : Tables) (σ : ℕ) (m : Places) {i : Shape} (v : Tree Expr i) → length (words_t (res T σ m v)) ≤ length (words_t v)
unfolding res words_t
len_res T σ m (word x) = omega arith
len_res T σ m (value e) = len_res_e T σ (m 0) e
len_res T σ m (Stmt k line r) = omega (arith, len_res T (inside σ k (first r)) (argued T k (first r)) r)
len_res T σ m (list rs) = omega (arith, len_res T σ m rs)
len_res T σ m (part r) = len_res T σ m r
len_res T σ m (this r) = omega (arith, len_res T σ m r)
len_res T σ m (that v) = len_res T σ m v
len_res T σ m done = omega arith
len_res T σ m (cons v r) = simp length-append (omega (arith, len_res T σ m v, len_res T σ m r))
len_res T σ m nothing = omega arith
len_res T σ m (add r rs) = simp length-append (omega (arith, len_res T σ m r, len_res T σ (after m) rs))

-- an expression has no more words than before
pub shorter : (T : Tables) (σ : ℕ) (e : Expr) → length (words (resolve_expr T σ e)) ≤ length (words e)
shorter T σ e = subst (λ (d : Expr). length (words d) ≤ length (words e)) (res_e_plain T σ e) (len_res_e T σ false e)

-- nor has a list
pub shorter_args : (T : Tables) (σ : ℕ) (m : Places) (es : Exprs) → length (words_all (resolve_args T σ m es)) ≤ length (words_all es)
shorter_args T σ m es = subst (λ (ds : Exprs). length (words_all ds) ≤ length (words_all es)) (res_l_is T σ m es) (len_res_l T σ m es)

-- nor has a tree
pub shorter_tree : (T : Tables) (σ : ℕ) (m : Places) {i : Shape} (v : Tree Expr i) → length (words_t (resolve_tree T σ m v)) ≤ length (words_t v)
shorter_tree T σ m {i} v = subst (λ (u : Tree Expr i). length (words_t u) ≤ length (words_t v)) (res_is T σ m v) (len_res T σ m v)

-- ---- right under the strings

right_called : (n : Strings) (b : Bool) (f : ℕ) (es : Exprs) → Named n.names f × (many es < 16777216) × Valids n es → Valid n (called b f es)
unfolding called Valid
right_called n true f es r = r
right_called n false f es r = r

right_keep : (n : Strings) (k : Bool) (e : Expr) → Valid n e → Valid n (keep k e)
unfolding keep Valid
right_keep n true e r = r
right_keep n false e r = r

mutual
  unfolding res_e res_l Valid Valids

  right_res_e : (n : Strings) (T : Tables) (σ : ℕ) (k : Bool) (e : Expr) → Valid n e → Valid n (res_e T σ k e)
  right_res_e n T σ k (Lit l) r = r
  right_res_e n T σ k (Var x) r = r
  right_res_e n T σ k (Elem f es) r = (r.0, rw (many_res T σ nowhere es) r.1, right_res_l n T σ nowhere es r.2)
  right_res_e n T σ k (Unary o e) r = (r.0, right_res_e n T σ false e r.1)
  right_res_e n T σ k (Binary o e d) r = (r.0, right_res_e n T σ false e r.1, right_res_e n T σ false d r.2)
  right_res_e n T σ k (Call f es) r = right_called n (element T σ f) f (res_l T σ (places T f) es) (r.0, rw (many_res T σ (places T f) es) r.1, right_res_l n T σ (places T f) es r.2)
  right_res_e n T σ k (Field e x) r = (right_res_e n T σ false e r.0, r.1)
  right_res_e n T σ k (Paren e) r = right_keep n k (res_e T σ false e) (right_res_e n T σ false e r)

  right_res_l : (n : Strings) (T : Tables) (σ : ℕ) (m : Places) (es : Exprs) → Valids n es → Valids n (res_l T σ m es)
  right_res_l n T σ m none r = r
  right_res_l n T σ m (more e es) r = (right_res_e n T σ (m 0) e r.0, right_res_l n T σ (after m) es r.1)

right_res : (ns : List ℕ) (n : ℕ) (T : Tables) (σ : ℕ) (m : Places) {i : Shape} (v : Tree Expr i) → Right ns n v → Right ns n (res T σ m v)
unfolding res Right
right_res ns n T σ m (word x) r = r
right_res ns n T σ m (value e) r = right_res_e (strings ns n) T σ (m 0) e r
right_res ns n T σ m (Stmt k line t) r = (r.0, right_res ns n T (inside σ k (first t)) (argued T k (first t)) t r.1)
right_res ns n T σ m (list rs) r = (rw (count_res T σ m rs) r.0, right_res ns n T σ m rs r.1)
right_res ns n T σ m (part t) r = right_res ns n T σ m t r
right_res ns n T σ m (this t) r = right_res ns n T σ m t r
right_res ns n T σ m (that v) r = right_res ns n T σ m v r
right_res ns n T σ m done r = r
right_res ns n T σ m (cons v t) r = (right_res ns n T σ m v r.0, right_res ns n T σ m t r.1)
right_res ns n T σ m nothing r = r
right_res ns n T σ m (add t ts) r = (right_res ns n T σ m t r.0, right_res ns n T σ (after m) ts r.1)

-- a right tree stays right
pub right_tree : (ns : List ℕ) (n : ℕ) (T : Tables) (σ : ℕ) (m : Places) {i : Shape} (v : Tree Expr i) → Right ns n v → Right ns n (resolve_tree T σ m v)
right_tree ns n T σ m {i} v r = subst (λ (u : Tree Expr i). Right ns n u) (res_is T σ m v) (right_res ns n T σ m v r)

-- ---- depth

deep_called : (b : Bool) (f : ℕ) (es : Exprs) → depth (called b f es) ≡ depths es + 1
unfolding called depth
deep_called true f es = refl
deep_called false f es = refl

deep_keep : (k : Bool) (e : Expr) → depth (keep k e) ≤ depth e + 1
unfolding keep depth
deep_keep true e = omega arith
deep_keep false e = omega arith

mutual
  unfolding res_e res_l depth depths

  deep_res_e : (T : Tables) (σ : ℕ) (k : Bool) (e : Expr) → depth (res_e T σ k e) ≤ depth e
  deep_res_e T σ k (Lit l) = omega arith
  deep_res_e T σ k (Var x) = omega arith
  deep_res_e T σ k (Elem f es) = omega (arith, deep_res_l T σ nowhere es)
  deep_res_e T σ k (Unary o e) = omega (arith, deep_res_e T σ false e)
  deep_res_e T σ k (Binary o e d) = omega (arith, deep_res_e T σ false e, deep_res_e T σ false d)
  deep_res_e T σ k (Call f es) = omega (arith, deep_called (element T σ f) f (res_l T σ (places T f) es), deep_res_l T σ (places T f) es)
  deep_res_e T σ k (Field e x) = omega (arith, deep_res_e T σ false e)
  deep_res_e T σ k (Paren e) = omega (arith, deep_keep k (res_e T σ false e), deep_res_e T σ false e)

  deep_res_l : (T : Tables) (σ : ℕ) (m : Places) (es : Exprs) → depths (res_l T σ m es) ≤ depths es
  deep_res_l T σ m none = omega arith
  deep_res_l T σ m (more e es) = omega (arith, deep_res_e T σ (m 0) e, deep_res_l T σ (after m) es)

deep_res : (T : Tables) (σ : ℕ) (m : Places) {i : Shape} (v : Tree Expr i) → depth_t (res T σ m v) ≤ depth_t v
unfolding res depth_t
deep_res T σ m (word x) = omega arith
deep_res T σ m (value e) = deep_res_e T σ (m 0) e
deep_res T σ m (Stmt k line r) = omega (arith, deep_res T (inside σ k (first r)) (argued T k (first r)) r)
deep_res T σ m (list rs) = deep_res T σ m rs
deep_res T σ m (part r) = deep_res T σ m r
deep_res T σ m (this r) = deep_res T σ m r
deep_res T σ m (that v) = deep_res T σ m v
deep_res T σ m done = omega arith
deep_res T σ m (cons v r) = omega (arith, deep_res T σ m v, deep_res T σ m r)
deep_res T σ m nothing = omega arith
deep_res T σ m (add r rs) = omega (arith, deep_res T σ m r, deep_res T σ (after m) rs)

-- a tree is no deeper than before
pub deep_tree : (T : Tables) (σ : ℕ) (m : Places) {i : Shape} (v : Tree Expr i) → depth_t (resolve_tree T σ m v) ≤ depth_t v
deep_tree T σ m {i} v = subst (λ (u : Tree Expr i). depth_t u ≤ depth_t v) (res_is T σ m v) (deep_res T σ m v)
