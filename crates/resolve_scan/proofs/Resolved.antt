-- What resolving does to what a scan has still to come: to an expression part by part, to a call of no procedure, to a tree. Assumes nothing.
use Prim.Native.Nat.{ℕ}
use mathlib.Core.Path.{◌≡◌, refl, ap, ap₂, fun_ext}
use mathlib.Core.Bool.{false}
use mathlib.Core.List.{List, ◌∷◌, ◌++◌}
use Rattle.base_words.specs.Word.{word_of}
use Rattle.tree_expr.specs.Expr.{Expr, Exprs, none, more, words, words_all}
use Rattle.tree_stmt.specs.Tree.{Shape, Tree, word, value, Stmt, list, part, this, that, done, cons, none as nothing, more as add, words_t}
use Rattle.tree_walk.specs.Pieces.{written}
use Rattle.tree_walk.specs.Items.{each_e, Parted}
use Rattle.resolve_definition.specs.Tables.{Tables, nowhere, places, after}
use Rattle.resolve_definition.specs.Resolve.{resolve_expr, resolve_args, resolve_tree}
use Rattle.resolve_definition.specs.Flags.{passed_false}
use Rattle.resolve_definition.specs.Keeps.{count_tree}
use Rattle.resolve_exprs.proofs.Writing.{many_args}
use Rattle.resolve_scan.specs.Post.{resolved}

-- no procedure: no argument is by reference
pub no_places : (T : Tables) (f : ℕ) → T.procedure f ≡ false → places T f ≡ nowhere
unfolding places nowhere
no_places T f e = fun_ext (λ i. rw e refl)

module _ (T : Tables) (σ : ℕ) where
  -- the members of a list that are no arguments
  pub each_args : (es : Exprs) → words_all (resolve_args T σ nowhere es) ≡ each_e (resolved T σ) es
  unfolding each_e resolve_args words_all nowhere after
  each_args none = refl
  each_args (more e es) = ap₂ (λ (x : Expr) (l : List ℕ). words x ++ l) (passed_false e (resolve_expr T σ e)) (each_args es)

  -- of an expression that is no call and no parentheses the parts are resolved by themselves
  pub parted : Parted (resolved T σ)
  unfolding resolve_expr words
  parted = record {
    of_literal = λ l. refl;
    of_variable = λ x. refl;
    of_element = λ x es. ap₂ (λ (n : ℕ) (l : List ℕ). word_of 18 0 ∷ word_of 2 x ∷ word_of 1 n ∷ l) (many_args T σ nowhere es) (each_args es);
    of_unary = λ o e. refl;
    of_binary = λ o e f. refl;
    of_field = λ e x. refl;
  }

  -- a tree's resolved words are its words with each piece resolved
  pub tree_is : {i : Shape} (v : Tree Expr i) → words_t (resolve_tree T σ nowhere v) ≡ written (resolved T σ) v
  unfolding written resolve_tree words_t nowhere after
  tree_is (word x) = refl
  tree_is (value e) = ap words (passed_false e (resolve_expr T σ e))
  tree_is (Stmt k line r) = refl
  tree_is (list rs) = ap₂ (λ (n : ℕ) (l : List ℕ). word_of 1 n ∷ l) (count_tree T σ nowhere rs) (tree_is rs)
  tree_is (part r) = tree_is r
  tree_is (this {k} r) = ap (λ (l : List ℕ). word_of k 0 ∷ l) (tree_is r)
  tree_is (that v) = tree_is v
  tree_is done = refl
  tree_is (cons v r) = ap₂ ◌++◌ (tree_is v) (tree_is r)
  tree_is nothing = refl
  tree_is (add r rs) = ap₂ ◌++◌ (tree_is r) (tree_is rs)
