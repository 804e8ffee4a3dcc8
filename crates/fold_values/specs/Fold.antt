-- What `const_eval` of sema.rs gives, rule by rule in the order of its match. Definitions only.
-- Nothing is asked of a caller: every value here is in the range that `Good` (Value.antt) states, since a literal's float is finite
-- (`float_at`, tree_expr/specs/Reader.antt) and its whole number has 32 bits, a folded one is tested here or only changes its sign, and lent CONST rows
-- are tested by number 6. What the definitions say of other values is never asked.
use Rattle.std.specs.Prelude.{Bool, true, false, cond, ◌||◌, ℕ, zero, suc, max, ℤ, pos, negsuc, neg_ℤ, ◌+ℤ◌, ◌-ℤ◌, ◌*ℤ◌, eqb, Option, Some, None, Ok, Err}
use Rattle.std.specs.Int.Signed.{quot_z, rem_z}
use Rattle.std.specs.Float.Ieee as Ieee
use Rattle.std.specs.Float.{fin, binary64}
use Rattle.std.specs.Float.Ieee.Scale.{finite}
use Rattle.base_numbers.specs.Numbers.{within, narrow_of, long_of, double_of}
use Rattle.base_numbers.specs.declared.Halves.TheVariants.{Even}
use Rattle.base_words.specs.Word.{pick}
use Rattle.fold_values.specs.Value.{Good, Fold}
use Rattle.fold_values.specs.declared.Value.{Value}
use Rattle.fold_values.specs.declared.Value.TheVariants.{Integer, Long, Single, Float, Text}
use Rattle.fold_values.specs.declared.NumericType.{NumericType}
use Rattle.fold_values.specs.declared.NumericType.TheVariants as N
use Rattle.fold_values.specs.declared.Part.{Part}
use Rattle.fold_values.specs.declared.Part.TheVariants.{Quotient, Remainder}
use Rattle.fold_values.specs.declared.Arith.{Arith}
use Rattle.fold_values.specs.declared.Arith.TheVariants.{Add, Sub, Mul}
use Rattle.fold_values.specs.declared.Unfolded.TheVariants.{Overflow, NotConstant}

-- an answer's value, or its failure: the Rust's `?`
abbrev pub and_then : Fold → (Value → Fold) → Fold
and_then (Ok v) k = k v
and_then (Err e) k = Err e

-- for contracts inside and proofs: an answer's value, where it has one, is good
abbrev pub GoodFold : Fold → Type 0
GoodFold (Ok v) = Good v
GoodFold (Err e) = Unit {0}

-- ---- the ranges of INTEGER and LONG

-- the number has 16 bits
abbrev pub in_integer : ℤ → Bool
in_integer z = within 15 z

-- the number has 32 bits
abbrev pub in_long : ℤ → Bool
in_long z = within 31 z

-- ---- Expr::Unary with UnaryOp::Neg. Integer kind is unchecked; a LONG's least value overflows

-- the number is -2147483648
abbrev pub least_long : ℤ → Bool
least_long (pos n) = false
least_long (negsuc n) = eqb n 2147483647

-- an Integer, with no test
abbrev pub negated_integer : ℤ → Fold
negated_integer n = Ok (Integer (neg_ℤ n))

-- a LONG: its least value overflows
abbrev pub negated_long : ℤ → Fold
negated_long n = pick (least_long n) (Err Overflow) (Ok (Long (neg_ℤ n)))

-- a value: a float changes its sign, a string is not constant
abbrev pub negated : Value → Fold
negated (Integer n) = negated_integer n
negated (Long n) = negated_long n
negated (Single x) = Ok (Single (Ieee.neg x))
negated (Float x) = Ok (Float (Ieee.neg x))
negated (Text t) = Err NotConstant

-- what an operand folds to, negated
unfoldable pub negate_of : Fold → Fold
negate_of f = and_then f negated

-- ---- Expr::Binary: what it asks of its operands

-- `numeric_type` is there for a number alone
abbrev pub is_text : Value → Bool
is_text (Integer n) = false
is_text (Long n) = false
is_text (Single x) = false
is_text (Float x) = false
is_text (Text t) = true

-- `numeric_type`, as the number that `max_by_key` gives it: INTEGER, LONG, SINGLE, DOUBLE. Integer kind outside 16 bits counts as LONG.
-- (No array's rank, and not the `rank` of rows_table/specs/Rows.antt.) A string's is never asked: `on_numbers`
abbrev pub rank_of : Value → ℕ
rank_of (Integer n) = cond (in_integer n) 0 1
rank_of (Long n) = 1
rank_of (Single x) = 2
rank_of (Float x) = 3
rank_of (Text t) = 3

-- for contracts inside: the same number of the code's enum
abbrev pub number_of : NumericType → ℕ
number_of N.Integer = 0
number_of N.Long = 1
number_of N.Single = 2
number_of N.Double = 3

-- `as_f64`; a string's is never asked: `on_numbers`
abbrev pub as_f64 : Value → Ieee.Float
as_f64 (Integer n) = double_of n
as_f64 (Long n) = double_of n
as_f64 (Single x) = x
as_f64 (Float x) = x
as_f64 (Text t) = fin false 0 (pos 0)

-- `int_of`; it counts only where both operands are whole: `at_rank`, ranks 0 and 1
abbrev pub int_of : Value → ℤ
int_of (Integer n) = n
int_of (Long n) = n
int_of (Single x) = pos 0
int_of (Float x) = pos 0
int_of (Text t) = pos 0

-- ---- a result in the range of its type, or overflow

-- INTEGER: 16 bits, or overflow
abbrev pub integer_fold : ℤ → Fold
integer_fold z = pick (in_integer z) (Ok (Integer z)) (Err Overflow)

-- LONG: 32 bits, or overflow
abbrev pub long_fold : ℤ → Fold
long_fold z = pick (in_long z) (Ok (Long z)) (Err Overflow)

-- SINGLE, from what narrowing gave
abbrev pub of_narrow : Option Ieee.Float → Fold
of_narrow (Some x) = Ok (Single x)
of_narrow None = Err Overflow

-- narrowed once, then tested: what isn't finite before stays so
abbrev pub single_fold : Ieee.Float → Fold
single_fold x = of_narrow (narrow_of x)

-- DOUBLE: finite, or overflow
abbrev pub float_fold : Ieee.Float → Fold
float_fold x = pick (finite x) (Ok (Float x)) (Err Overflow)

-- ---- BinaryOp::Div: always Float; a zero divisor, of either sign, is not constant

-- the float is 0.0 or -0.0
abbrev pub zero_f64 : Ieee.Float → Bool
zero_f64 x = Ieee.eq x (fin false 0 (pos 0))

-- the quotient at 64 bits
unfoldable pub div_of : Value → Value → Fold
div_of l r = pick (zero_f64 (as_f64 r)) (Err NotConstant) (float_fold (Ieee.div binary64 (as_f64 l) (as_f64 r)))

-- ---- BinaryOp::IntDiv and BinaryOp::Mod: both operands rounded half to even and tested for 32 bits; then the divisor for zero; then the result for 32 bits

-- an operand rounded to 32 bits
abbrev pub rounded : Value → Option ℤ
rounded v = long_of Even (as_f64 v)

-- toward zero; the remainder has the sign of the left operand
abbrev pub part_of : Part → ℤ → ℤ → ℤ
part_of Quotient x y = quot_z x y
part_of Remainder x y = rem_z x y

-- the whole number 0
abbrev pub is_zero : ℤ → Bool
is_zero (pos n) = eqb n 0
is_zero (negsuc n) = false

-- of two rounded operands: overflow where one is out, not constant where the divisor is 0
abbrev pub of_wholes : Part → Option ℤ → Option ℤ → Fold
of_wholes p (Some x) (Some y) = pick (is_zero y) (Err NotConstant) (long_fold (part_of p x y))
of_wholes p (Some x) None = Err Overflow
of_wholes p None (Some y) = Err Overflow
of_wholes p None None = Err Overflow

-- a whole quotient or remainder of two values
unfoldable pub whole_div_of : Part → Value → Value → Fold
whole_div_of p l r = of_wholes p (rounded l) (rounded r)

-- ---- BinaryOp::Add, Sub and Mul: in the higher of the two types, whole numbers exactly, floats at 64 bits

-- the operation on whole numbers
abbrev pub int_op : Arith → ℤ → ℤ → ℤ
int_op Add x y = x +ℤ y
int_op Sub x y = x -ℤ y
int_op Mul x y = x *ℤ y

-- the operation on floats
abbrev pub float_op : Arith → Ieee.Float → Ieee.Float → Ieee.Float
float_op Add a b = Ieee.add binary64 a b
float_op Sub a b = Ieee.sub binary64 a b
float_op Mul a b = Ieee.mul binary64 a b

-- z in whole numbers, x in floats: the type says which of the two counts
abbrev pub at_rank : ℕ → ℤ → Ieee.Float → Fold
at_rank zero z x = integer_fold z  -- INTEGER
at_rank (suc zero) z x = long_fold z  -- LONG
at_rank (suc (suc zero)) z x = single_fold x  -- SINGLE
at_rank (suc (suc (suc k))) z x = float_fold x  -- DOUBLE

-- the operation on two values
unfoldable pub arith_of : Arith → Value → Value → Fold
arith_of op l r = at_rank (max (rank_of l) (rank_of r)) (int_op op (int_of l) (int_of r)) (float_op op (as_f64 l) (as_f64 r))

-- ---- by the operator's position in `BinaryOp`: 0 Add, 1 Sub, 2 Mul, 3 Div, 4 IntDiv, 5 Mod; power, comparison and logic are not constant
unfoldable pub op_of : ℕ → Value → Value → Fold
op_of op l r =
    pick (eqb op 0) (arith_of Add l r)
    (pick (eqb op 1) (arith_of Sub l r)
    (pick (eqb op 2) (arith_of Mul l r)
    (pick (eqb op 3) (div_of l r)
    (pick (eqb op 4) (whole_div_of Quotient l r)
    (pick (eqb op 5) (whole_div_of Remainder l r)
    (Err NotConstant))))))

-- a string fails only here, when both sides have folded
abbrev pub on_numbers : ℕ → Value → Value → Fold
on_numbers op l r = pick (is_text l || is_text r) (Err NotConstant) (op_of op l r)

-- left before right; the first failure decides
unfoldable pub binary_of : ℕ → Fold → Fold → Fold
binary_of op l r = and_then l (λ (x : Value). and_then r (λ (y : Value). on_numbers op x y))
