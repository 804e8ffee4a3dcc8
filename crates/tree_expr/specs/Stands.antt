-- A list of words stands at a place of another, up to an end.
use Rattle.std.specs.Prelude.{ℕ, ◌+◌, ◌≤◌, ◌≡◌, List, ◌++◌, length, drop}
use Rattle.tree_expr.specs.Expr.{Strings, Expr, Exprs, words, words_all, Valid, Valids}

-- the words xs stand in ws from `at` to `end`
pub record Wrote (ws : List ℕ) (at : ℕ) (xs : List ℕ) (end : ℕ) : Type 0 where
  pub span : at + length xs ≡ end
  pub inside : end ≤ length ws
  pub is : drop at ws ≡ xs ++ drop end ws

-- a right tree stands there
pub record Stands (ws : List ℕ) (n : Strings) (at : ℕ) (e : Expr) (end : ℕ) : Type 0 where
  pub wrote : Wrote ws at (words e) end
  pub valid : Valid n e

-- several expressions stand there, one after another
pub record StandsAll (ws : List ℕ) (n : Strings) (at : ℕ) (es : Exprs) (end : ℕ) : Type 0 where
  pub wrote : Wrote ws at (words_all es) end
  pub valid : Valids n es
