-- The scope of a statement's bodies by its head word: SUB and FUNCTION have their own, all others keep the one around. Assumes nothing.
use Prim.Native.Nat.{ℕ, ◌+◌, ◌≤◌, ◌<◌}
use native.Mathlib.Omega.{arith}
use mathlib.Core.Path.{◌≡◌, refl, sym, ap, subst, ◌∙◌}
use mathlib.Core.Bool.{false≢true}
use mathlib.Core.List.{List, [], ◌∷◌}
use lib.ListN.{length, get_or}
use Rattle.base_words.specs.Word.{kind_of, pay_of}
use Rattle.base_words.specs.Each.{Each}
use Rattle.tree_expr.specs.Expr.{Expr}
use Rattle.tree_expr.proofs.Parts.{wrote_first, pay_is}
use Rattle.tree_stmt.specs.Sorts.{stmt, Kind, sorts, kinds, kind_at, number_of, label, label_name, dim, shared, static, redim, sub, function, const, option_base, type_def}
use Rattle.tree_stmt.specs.KindLaws.{none_of, by_kind}
use Rattle.tree_stmt.specs.Tree.{one, row, Tree, word, value, Stmt, done, cons, words_t, Right, over}
use Rattle.tree_stmt.specs.Stands.{Stands, SomeTree}
use Rattle.tree_views.specs.View.{view, inner}
use Rattle.tree_views.specs.KindLaws.{view_kinds, view_other}
use Rattle.tree_walk.specs.Plans.{InsideAt}
use Rattle.tree_walk.proofs.Walk.{head_kind, of_number, fields}

-- ---- the kinds that have a scope of their own, and the others

-- what is shown of SUB, of FUNCTION and of all others is shown of each kind
pub by_scope : (C : Kind → Type 0) → C sub → C function → ((k : Kind) → (number_of k ≡ 20 → ⊥) → (number_of k ≡ 21 → ⊥) → C k) → (k : Kind) → C k
unfolding Each none_of number_of
by_scope C a b c k = by_kind C (sub ∷ function ∷ []) (a, (b, tt)) k (λ o. c k (λ e. false≢true (rw e at o)) (λ e. false≢true (rw e at o)))

module _ (E : Type 0) (scope : ℕ) where
  -- a statement of the kind keeps the scope around it
  abbrev KeepsScope : Kind → Type 0
  KeepsScope k = (r : Tree E (row (sorts k))) → scope ≡ inner scope (view k r)

  label_keeps : KeepsScope label
  unfolding sorts view inner
  label_keeps (cons (word x) done) = refl

  label_name_keeps : KeepsScope label_name
  unfolding sorts view inner
  label_name_keeps (cons (word x) done) = refl

  dim_keeps : KeepsScope dim
  unfolding sorts view inner
  dim_keeps (cons ds (cons s done)) = refl

  shared_keeps : KeepsScope shared
  unfolding sorts view inner
  shared_keeps (cons is done) = refl

  static_keeps : KeepsScope static
  unfolding sorts view inner
  static_keeps (cons is done) = refl

  redim_keeps : KeepsScope redim
  unfolding sorts view inner
  redim_keeps (cons ds (cons s done)) = refl

  const_keeps : KeepsScope const
  unfolding sorts view inner
  const_keeps (cons (word x) (cons (value e) done)) = refl

  option_base_keeps : KeepsScope option_base
  unfolding sorts view inner
  option_base_keeps (cons (word x) done) = refl

  type_def_keeps : KeepsScope type_def
  unfolding sorts view inner
  type_def_keeps (cons (word x) (cons fs done)) = refl

  abbrev KeepsOther : Kind → Type 0
  KeepsOther k = (number_of k ≡ 20 → ⊥) → (number_of k ≡ 21 → ⊥) → KeepsScope k

  kept : Each KeepsOther view_kinds
  unfolding Each view_kinds number_of
  kept = (λ f g. label_keeps, (λ f g. label_name_keeps, (λ f g. dim_keeps, (λ f g. shared_keeps, (λ f g. static_keeps, (λ f g. redim_keeps, (λ f g r. absurd (f refl), (λ f g r. absurd (g refl), (λ f g. const_keeps, (λ f g. option_base_keeps, (λ f g. type_def_keeps, tt)))))))))))

-- all others keep the scope
pub inner_other : {E : Type 0} (scope : ℕ) (k : Kind) (r : Tree E (row (sorts k))) → (number_of k ≡ 20 → ⊥) → (number_of k ≡ 21 → ⊥) → scope ≡ inner scope (view k r)
unfolding inner
inner_other {E} scope k r f g = by_kind (KeepsOther E scope) view_kinds (kept E scope) k (λ o f g r. ap (inner scope) (sym (view_other k o r))) f g r

-- whatever stands for an expression
module _ {E F : Type 0} (g : E → F) (scope : ℕ) where
  sub_over : (r : Tree E (row (sorts sub))) → inner scope (view sub (over g r)) ≡ inner scope (view sub r)
  unfolding sorts view inner over
  sub_over (cons (word x) (cons ps (cons b (cons s done)))) = refl

  function_over : (r : Tree E (row (sorts function))) → inner scope (view function (over g r)) ≡ inner scope (view function r)
  unfolding sorts view inner over
  function_over (cons (word x) (cons ps (cons t (cons b (cons s (cons d done)))))) = refl

  -- the scope inside is the same after every expression is replaced
  pub inner_over : (k : Kind) (r : Tree E (row (sorts k))) → inner scope (view k (over g r)) ≡ inner scope (view k r)
  inner_over k = by_scope (λ (k : Kind). (r : Tree E (row (sorts k))) → inner scope (view k (over g r)) ≡ inner scope (view k r)) sub_over function_over (λ k p q r. sym (inner_other scope k (over g r) p q) ∙ inner_other scope k r p q) k

-- ---- the name of a SUB or FUNCTION stands after the head

sub_name : {ws ns : List ℕ} {n at end : ℕ} (scope : ℕ) (r : Tree Expr (row (sorts sub))) → Stands ws ns n at r end → (at < length ws) × (pay_of (get_or ws at 0) + 1 ≡ inner scope (view sub r))
unfolding sorts words_t Right view inner
sub_name scope (cons (word x) (cons ps (cons b (cons s done)))) h = let f = wrote_first h.wrote in (f.inside, ap (λ (y : ℕ). y + 1) (ap pay_of f.is ∙ pay_is 2 x h.valid.0.1))

function_name : {ws ns : List ℕ} {n at end : ℕ} (scope : ℕ) (r : Tree Expr (row (sorts function))) → Stands ws ns n at r end → (at < length ws) × (pay_of (get_or ws at 0) + 1 ≡ inner scope (view function r))
unfolding sorts words_t Right view inner
function_name scope (cons (word x) (cons ps (cons t (cons b (cons s (cons d done)))))) h = let f = wrote_first h.wrote in (f.inside, ap (λ (y : ℕ). y + 1) (ap pay_of f.is ∙ pay_is 2 x h.valid.0.1))

-- a statement of a kind whose name is its second word, and which has a scope of its own
abbrev Opens : List ℕ → ℕ → ℕ → Kind → Type 0
Opens ws at scope k = (ns : List ℕ) (n line : ℕ) (r : Tree Expr (row (sorts k))) (end : ℕ) → Stands ws ns n at (Stmt k line r) end → (at + 1 < length ws) × (pay_of (get_or ws (at + 1) 0) + 1 ≡ inner scope (view k r))

module _ (ws : List ℕ) (at scope : ℕ) where
  opens_sub : Opens ws at scope sub
  opens_sub ns n line r end s = sub_name scope r (fields s)

  opens_function : Opens ws at scope function
  opens_function ns n line r end s = function_name scope r (fields s)

  -- the kind j is such a one
  opens : (j : ℕ) → Opens ws at scope (kind_at j) → kind_of (get_or ws at 0) ≡ 64 + j → (k : Kind) → Opens ws at scope k
  opens j o q k ns n line r end s = subst (λ (k : Kind). Opens ws at scope k) (sym (of_number k j (omega (arith, head_kind s, q)))) o ns n line r end s

  own : (j : ℕ) → Opens ws at scope (kind_at j) → kind_of (get_or ws at 0) ≡ 64 + j → InsideAt ws at scope (pay_of (get_or ws (at + 1) 0) + 1)
  own j o q = record { fits = omega arith; gives = λ ns n k line r end s. (opens j o q k ns n line r end s).1 }

  two : (j : ℕ) → Opens ws at scope (kind_at j) → kind_of (get_or ws at 0) ≡ 64 + j → SomeTree (one stmt) ws at → at + 1 < length ws
  two j o q t = go t.tree t.stands
    where
      go : (v : Tree Expr (one stmt)) → Stands ws t.names t.strings at v t.end → at + 1 < length ws
      go (Stmt k line r) s = (opens j o q k t.names t.strings line r t.end s).0

  -- SUB: its name's number plus 1
  pub in_sub : kind_of (get_or ws at 0) ≡ 84 → InsideAt ws at scope (pay_of (get_or ws (at + 1) 0) + 1)
  unfolding kind_at kinds
  in_sub q = own 20 opens_sub q

  -- and the name is within the words
  pub two_sub : kind_of (get_or ws at 0) ≡ 84 → SomeTree (one stmt) ws at → at + 1 < length ws
  unfolding kind_at kinds
  two_sub q t = two 20 opens_sub q t

  -- FUNCTION: its name's number plus 1
  pub in_function : kind_of (get_or ws at 0) ≡ 85 → InsideAt ws at scope (pay_of (get_or ws (at + 1) 0) + 1)
  unfolding kind_at kinds
  in_function q = own 21 opens_function q

  -- and the name is within the words
  pub two_function : kind_of (get_or ws at 0) ≡ 85 → SomeTree (one stmt) ws at → at + 1 < length ws
  unfolding kind_at kinds
  two_function q t = two 21 opens_function q t

  -- all others: the scope around
  pub in_other : scope ≤ 16777216 → (kind_of (get_or ws at 0) ≡ 84 → ⊥) → (kind_of (get_or ws at 0) ≡ 85 → ⊥) → InsideAt ws at scope scope
  in_other h f g = record {
    fits = h;
    gives = λ ns n k line r end s. inner_other scope k r (λ q. f (head_kind s ∙ ap (λ (x : ℕ). 64 + x) q)) (λ q. g (head_kind s ∙ ap (λ (x : ℕ). 64 + x) q));
  }
