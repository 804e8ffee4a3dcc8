-- `const_eval` of sema.rs on trees: an expression's value under the CONST rows, arm by arm of its match. Definitions only.
use Rattle.std.specs.Prelude.{ℕ, ◌-◌, List, eqb, ltb, ℤ, pos, negsuc, get_or, Ok, Err}
use Rattle.std.proofs.Math.Option.{Option, none, some}
use Rattle.base_words.specs.Word.{pick}
use Rattle.tree_expr.specs.Expr.{Literal, Expr, Lit, Var, Elem, Unary, Binary, Call, Field, Paren}
use Rattle.tree_expr.specs.Expr as E
use Rattle.rows_table.specs.Rows.{Row, find}
use Rattle.rows_kinds.specs.Kinds.{entry_key}
use Rattle.base_numbers.specs.Numbers.{of_words}
use Rattle.fold_values.specs.Value.{value_of, Fold}
use Rattle.fold_values.specs.Fold.{negate_of, binary_of}
use Rattle.fold_values.specs.declared.Value.{Value}
use Rattle.fold_values.specs.declared.Value.TheVariants.{Integer, Long, Single, Float, Text}
use Rattle.fold_values.specs.declared.Unfolded.TheVariants.{NotConstant}

-- a word in two's complement
abbrev pub signed32 : ℕ → ℤ
signed32 w = pick (ltb w 2147483648) (pos w) (negsuc (4294967295 - w))

-- Expr::Literal: itself, unchanged
unfoldable pub literal : Literal → Value
literal (E.Integer w) = Integer (signed32 w)
literal (E.Long w) = Long (signed32 w)
literal (E.Single low high) = Single (of_words low high)
literal (E.Float low high) = Float (of_words low high)
literal (E.Text s) = Text s

-- the value that a CONST row holds: its words 2, 3 and 4, literal kind, low and high
abbrev pub row_value : Row → Value
row_value r = value_of (get_or r 2 0) (get_or r 3 0) (get_or r 4 0)

-- the row's value, or not constant where there is none
abbrev pub of_row : Option Row → Fold
of_row none = Err NotConstant
of_row (some r) = Ok (row_value r)

-- Expr::Variable: its CONST row, whatever the scope
abbrev pub constant : List Row → ℕ → Fold
constant rows name = of_row (find (entry_key 132 name 0) rows)

-- UnaryOp::Neg is 0; UnaryOp::Not, elements, calls and fields are the Rust's `_`, and nothing in them is folded
unfoldable pub const_eval : List Row → Expr → Fold
const_eval rows (Lit l) = Ok (literal l)
const_eval rows (Var name) = constant rows name
const_eval rows (Elem name es) = Err NotConstant
const_eval rows (Unary op e) = pick (eqb op 0) (negate_of (const_eval rows e)) (Err NotConstant)
const_eval rows (Binary op l r) = binary_of op (const_eval rows l) (const_eval rows r)
const_eval rows (Call name es) = Err NotConstant
const_eval rows (Field e name) = Err NotConstant
const_eval rows (Paren e) = const_eval rows e
