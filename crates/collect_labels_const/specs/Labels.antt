-- What the code of a line number, a label, OPTION BASE and CONST asks and promises. Definitions only.
use Rattle.std.specs.Prelude.{ℕ, ◌≡◌, Bool, List}
use Rattle.std.proofs.Math.Option.{some}
use Rattle.base_words.specs.Word.{pick}
use Rattle.rows_table.specs.Rows.{Row}
use Rattle.rows_runs.specs.Runs.{Keeps}
use Rattle.tree_stmt.specs.Sorts.{const}
use Rattle.collect_buffers.specs.declared.Counts.{Counts}
use Rattle.fold_const_eval.specs.Evaluates.{Consts}
use Rattle.collect_buffers.specs.State.{when, push}
use Rattle.collect_buffers.specs.Held.{Sized}
use Rattle.collect_definition.specs.Diagnostics.{option_base_twice, option_base_late}
use Rattle.fold_values.specs.declared.Unfolded.{Unfolded}
use Rattle.fold_values.specs.declared.Unfolded.TheVariants.{Overflow, NotConstant}
use Rattle.collect_definition.specs.Code.{SomeStmt}

-- the buffer keeps rows whose CONST rows meet their rule, with n strings
pub record HeldConsts (n : ℕ) (s : Counts) (b : List ℕ) : Type 0 where
  pub rows : List Row
  pub holds : Keeps rows s.rows b
  pub consts : Consts n rows

-- where the run goes on
abbrev pub ConstsHeld : ℕ → Counts → List ℕ → Type 0
ConstsHeld n s b = s.stop ≡ 0 → HeldConsts n s b

-- a CONST stands there, and the rows may be folded under
pub record ConstAt (ws : List ℕ) (at : ℕ) (s : Counts) (b : List ℕ) : Type 0 where
  pub any : SomeStmt const ws at
  pub held : ConstsHeld any.strings s b

-- what is said of an OPTION BASE
unfoldable pub say_base : (twice late : Bool) (line : ℕ) → Sized
say_base twice late line N D = pick twice (push (some D) (option_base_twice line)) (when late (push (some D) (option_base_late line)))

-- the number of what is said of a CONST that doesn't fold
abbrev pub code_of : Unfolded → ℕ
code_of Overflow = 11
code_of NotConstant = 12
