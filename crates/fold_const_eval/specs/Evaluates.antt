-- What `const_eval` asks of the words and the rows, and what it promises. Definitions only.
use Rattle.std.specs.Prelude.{ℕ, ◌<◌, ◌≡◌, Bool, true, false, List, get_or, Result, Ok, Err}
use Rattle.std.proofs.Math.Option.{some}
use Rattle.base_words.specs.Word.{kind_of}
use Rattle.tree_expr.specs.Expr.{Strings, Expr}
use Rattle.tree_expr.specs.Stands.{Stands}
use Rattle.tree_skip.specs.Shape.{SomeExpr}
use Rattle.rows_table.specs.Rows.{Row, find}
use Rattle.rows_runs.specs.Runs.{Keeps}
use Rattle.rows_kinds.specs.Kinds.{entry_key}
use Rattle.fold_values.specs.Value.{value_of, Fold}
use Rattle.fold_values.specs.ValueLaws.{RowValue}
use Rattle.fold_values.proofs.FoldLaws.{RowFold}
use Rattle.fold_const_eval.specs.ConstEval.{row_value, const_eval}
use Rattle.fold_const_eval.specs.declared.Folded.{Folded}
use Rattle.fold_values.specs.declared.Unfolded.{Unfolded}
use Rattle.fold_values.specs.declared.ConstWords.{ConstWords}

-- ---- what is asked

-- every CONST row holds a value that meets its rule, with n strings
pub record Consts (n : ℕ) (rows : List Row) : Type 0 where
  pub good : (name : ℕ) → name < 16777216 → (r : Row) → find (entry_key 132 name 0) rows ≡ some r → RowValue n (row_value r)

-- the buffer keeps such rows
pub record HoldsConsts (buf : List ℕ) (count : ℕ) : Type 0 where
  pub strings : ℕ
  pub rows : List Row
  pub holds : Keeps rows count buf
  pub consts : Consts strings rows

-- some expression stands at the place, and the buffer keeps rows whose CONST rows meet their rule
pub record Ready (ws : List ℕ) (at : ℕ) (buf : List ℕ) (count : ℕ) : Type 0 where
  pub strings : Strings
  pub expr : Expr
  pub end : ℕ
  pub stands : Stands ws strings at expr end
  pub rows : List Row
  pub holds : Keeps rows count buf
  pub consts : Consts strings.count rows

-- an expression with a literal's head stands there
pub record LiteralAt (ws : List ℕ) (at : ℕ) : Type 0 where
  pub some : SomeExpr ws at
  pub kind : kind_of (get_or ws at 0) ≡ 16

-- ---- what is promised

-- the words of a value at the place
abbrev pub laid_as : (next kind low high : ℕ) → Folded
laid_as next kind low high = record { next = next; value = Ok (record { kind = kind; low = low; high = high }) }

-- the answer that words are
abbrev pub read_as : Result ConstWords Unfolded → Fold
read_as (Ok w) = Ok (value_of w.kind w.low w.high)
read_as (Err e) = Err e

-- the answer
abbrev pub fold_of : Folded → Fold
fold_of r = read_as r.value

-- an answer whose value, if it is one, a CONST row may hold
pub record RowSome (f : Fold) : Type 0 where
  pub strings : ℕ
  pub row : RowFold strings f

-- the answer, and the place past the expression
pub record Evaluated (rows : List Row) (e : Expr) (end : ℕ) (r : Folded) : Type 0 where
  pub answer : fold_of r ≡ const_eval rows e
  pub past : r.next ≡ end

-- for whatever stands there and whatever rows the buffer keeps
abbrev pub Evaluates : (ws : List ℕ) (at : ℕ) (buf : List ℕ) (count : ℕ) → Folded → Type 0
Evaluates ws at buf count r = (n : Strings) (e : Expr) (end : ℕ) → Stands ws n at e end → (rows : List Row) → Keeps rows count buf → Evaluated rows e end r

-- the same where no row matters
abbrev pub EvaluatesAlone : (ws : List ℕ) (at : ℕ) → Folded → Type 0
EvaluatesAlone ws at r = (n : Strings) (e : Expr) (end : ℕ) → Stands ws n at e end → (rows : List Row) → Evaluated rows e end r

-- the place past what stands there
abbrev pub Past : (ws : List ℕ) (at : ℕ) → ℕ → Type 0
Past ws at r = (n : Strings) (e : Expr) (end : ℕ) → Stands ws n at e end → r ≡ end

-- whether folding went well
abbrev pub is_value : Fold → Bool
is_value (Ok v) = true
is_value (Err e) = false
