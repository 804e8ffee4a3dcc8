-- `const_eval` as an entry: an expression at a place, under lent rows. The number and the place that stop the call, or the outcome and the place past
-- the expression. Definitions only.
use Rattle.std.specs.Prelude.{ℕ, ◌≡◌, List, length, Result, Ok, Err}
use Rattle.base_words.specs.Sizes.{max_depth}
use Rattle.base_words.specs.Told.{Told, stops, gives, after}
use Rattle.base_words.specs.Refusals.{refused}
use Rattle.base_strings.specs.Open.{Answers}
use Rattle.base_strings.specs.Table.{names_of}
use Rattle.tree_expr.specs.Expr.{Expr}
use Rattle.tree_expr.specs.Got.{Got, got, wrong, deep}
use Rattle.tree_expr.specs.Reader.{expr_at}
use Rattle.entry_read.specs.Sized.{sized_tree}
use Rattle.rows_table.specs.Rows.{Row}
use Rattle.rows_lent.specs.Lent.{lent_rows}
use Rattle.fold_const_eval.specs.ConstEval.{const_eval}
use Rattle.tree_stmt.specs.Tree.{strings}
use Rattle.entry_const_eval.specs.Outcome.{Outcome, outcome_of}
use Rattle.entry_const_eval.specs.declared.Evaluation.{Evaluation}
use Rattle.base_words.specs.declared.Refusal.{Refusal}
use Rattle.fold_values.specs.Value.{Fold}

-- an outcome, and the place past the expression
pub record Past : Type 0 where
  pub outcome : Outcome
  pub end : ℕ

-- number 6, or the outcome under the rows
unfoldable pub under_of : (ns buf : List ℕ) → Expr → ℕ → Told Past
under_of ns buf e end = after (lent_rows ns buf) (λ (rows : List Row). gives (record { outcome = outcome_of (const_eval rows e); end = end }))

-- numbers 2 and 3 before it
unfoldable pub read_under : (ns buf : List ℕ) → Got Expr → Told Past
unfolding under_of
read_under ns buf (got e end) = under_of ns buf e end
read_under ns buf (wrong p) = stops 2 p
read_under ns buf (deep p) = stops 3 p

-- ns: for each string 1 where it is a name. The expression there has depth 1, and words may follow it.
unfoldable pub eval_of : (ns ws : List ℕ) (at : ℕ) (buf : List ℕ) → Told Past
unfolding read_under
eval_of ns ws at buf = read_under ns buf (expr_at ws (strings ns (length ns)) max_depth at)

-- document 01's number and values for each case of the answer, with the place that comes back
unfoldable pub told_as : ℕ → Result Fold Refusal → Told Past
told_as at (Ok f) = gives (record { outcome = outcome_of f; end = at })
told_as at (Err r) = refused r

-- the place afterwards: past the expression, or as it came
unfoldable pub moved_of : ℕ → Told Past → ℕ
moved_of at (gives p) = p.end
moved_of at (stops number place) = at

-- what was evaluated from `at` tells d
pub record Tells (at : ℕ) (r : Evaluation) (d : Told Past) : Type 0 where
  pub told : told_as r.at r.answer ≡ d
  pub moved : r.at ≡ moved_of at d

-- the entry's promise
pub record Evaluates (bytes ends ws : List ℕ) (at : ℕ) (buf : List ℕ) (r : Evaluation) : Type 0 where
  pub answers : Answers (sized_tree bytes ends ws) bytes ends (told_as r.at r.answer) (eval_of (names_of bytes ends) ws at buf)
  pub moved : r.at ≡ moved_of at (told_as r.at r.answer)

-- an expression was read there
pub record WasRead (ns ws : List ℕ) (at : ℕ) : Type 0 where
  pub expr : Expr
  pub end : ℕ
  pub reads : expr_at ws (strings ns (length ns)) max_depth at ≡ got expr end
