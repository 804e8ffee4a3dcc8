-- What `const_eval` gives from rows whose CONST rows meet their rule meets the rule of a CONST row again: the rules of `fold_values` keep it, node by node.
-- And such rows stay such when a value is entered. Assumes nothing.
use Rattle.std.specs.Prelude.{ℕ, ◌-◌, ◌<◌, ◌≡◌, refl, Bool, true, false, List, ◌∷◌, T, eqb, ltb, pos, negsuc, get_or, Err}
use Rattle.std.proofs.Common.{sym, subst, arith, ltb-true, ltb-false}
use Rattle.std.proofs.Math.Option.{Option, none, some}
use Rattle.std.specs.Float.Ieee.Scale.{finite as finite64}
use Rattle.std.specs.Float.Ieee.{binary64}
use Rattle.std.specs.Float.Ieee.Bits.{of_bits-fits}
use Rattle.base_words.specs.Word.{pick}
use Rattle.tree_expr.specs.Expr.{Strings, Literal, Expr, Lit, Var, Elem, Unary, Binary, Call, Field, Paren, words, words_l, Valid, ValidL, finite}
use Rattle.tree_expr.specs.Expr as E
use Rattle.tree_expr.specs.Stands.{Wrote, Stands}
use Rattle.tree_expr.proofs.Parts.{wrote_first}
use Rattle.rows_table.specs.Rows.{Row, find}
use Rattle.rows_kinds.specs.Kinds.{entry_key}
use Rattle.base_numbers.specs.Numbers.{of_words}
use Rattle.base_numbers.specs.NumbersLaws.{words_finite}
use Rattle.fold_values.specs.Value.{InRange, Fold}
use Rattle.fold_values.specs.ValueLaws.{RowValue}
use Rattle.fold_values.specs.Fold.{negate_of}
use Rattle.fold_values.proofs.FoldLaws.{RowFold, negate_row, binary_row}
use Rattle.fold_const_eval.specs.ConstEval.{signed32, literal, of_row, constant, const_eval}
use Rattle.fold_const_eval.specs.Evaluates.{Consts}
use Rattle.fold_values.specs.declared.Unfolded.TheVariants.{NotConstant}

-- words of 32 bits
abbrev pub Words32 : List ℕ → Type 0
Words32 ws = (i : ℕ) → get_or ws i 0 < 4294967296

signed_range : (w : ℕ) → InRange (signed32 w)
signed_range w = go (ltb w 2147483648) refl
  where
    go : (b : Bool) → ltb w 2147483648 ≡ b → InRange (pick b (pos w) (negsuc (4294967295 - w)))
    go true e = omega (arith, ltb-true w 2147483648 e)
    go false e = omega (arith, ltb-false w 2147483648 e)

-- a float of two words of 32 bits, the high one a finite float's
pub float_good : (low high : ℕ) → low < 4294967296 → high < 4294967296 → finite high ≡ true → T (finite64 (of_words low high))
float_good low high h k e = subst T (words_finite low high h k) (subst T (sym e) tt)

module _ (ws : List ℕ) (W : Words32 ws) where
  -- the first words of what stands there have 32 bits
  first_fits : {at w end : ℕ} {xs : List ℕ} → Wrote ws at (w ∷ xs) end → w < 4294967296
  first_fits {at} {w} r = omega (arith, W at, (wrote_first r).is)

  second_fits : {at v w end : ℕ} {xs : List ℕ} → Wrote ws at (v ∷ w ∷ xs) end → w < 4294967296
  second_fits r = first_fits (wrote_first r).rest

  third_fits : {at u v w end : ℕ} {xs : List ℕ} → Wrote ws at (u ∷ v ∷ w ∷ xs) end → w < 4294967296
  third_fits r = second_fits (wrote_first r).rest

  literal_row : (n : ℕ) (l : Literal) {at end : ℕ} → Wrote ws at (words_l l) end → ValidL n l → RowValue n (literal l)
  unfolding literal words_l ValidL
  literal_row n (E.Integer w) r v = record { good = signed_range w; known = tt; fit = tt }
  literal_row n (E.Long w) r v = record { good = signed_range w; known = tt; fit = tt }
  literal_row n (E.Single a b) r v = record { good = float_good a b (second_fits r) (third_fits r) v; known = tt; fit = of_bits-fits binary64 _ }
  literal_row n (E.Float a b) r v = record { good = float_good a b (second_fits r) (third_fits r) v; known = tt; fit = of_bits-fits binary64 _ }
  literal_row n (E.Text s) r v = record { good = tt; known = v.below; fit = omega (arith, v.fits) }

  module _ (n : Strings) (rows : List Row) (C : Consts n.count rows) where
    constant_row : (name : ℕ) → name < 16777216 → RowFold n.count (constant rows name)
    constant_row name h = go (find (entry_key 132 name 0) rows) refl
      where
        go : (o : Option Row) → find (entry_key 132 name 0) rows ≡ o → RowFold n.count (of_row o)
        go none e = tt
        go (some r) e = C.good name h r e

    unary_row : (op : ℕ) (f : Fold) → RowFold n.count f → RowFold n.count (pick (eqb op 0) (negate_of f) (Err NotConstant))
    unary_row op f r = go (eqb op 0)
      where
        go : (b : Bool) → RowFold n.count (pick b (negate_of f) (Err NotConstant))
        go true = negate_row n.count f r
        go false = tt

    eval_row : (e : Expr) {at end : ℕ} → Wrote ws at (words e) end → Valid n e → RowFold n.count (const_eval rows e)
    unfolding words Valid const_eval
    eval_row (Lit l) r v = literal_row n.count l (wrote_first r).rest v
    eval_row (Var name) r v = constant_row name v.fits
    eval_row (Elem name es) r v = tt
    eval_row (Unary op e) r v = unary_row op (const_eval rows e) (eval_row e (wrote_first (wrote_first r).rest).rest v.1)
    eval_row (Binary op a b) r v = binary_row n.count op (const_eval rows a) (const_eval rows b)
    eval_row (Call name es) r v = tt
    eval_row (Field e name) r v = tt
    eval_row (Paren e) r v = eval_row e (wrote_first r).rest v

-- THE LAW: what stands in words of 32 bits folds to a value that a CONST row may hold
pub const_row_lem : {ws : List ℕ} {n : Strings} {at : ℕ} {e : Expr} {end : ℕ} {rows : List Row} → Words32 ws → Consts n.count rows → Stands ws n at e end → RowFold n.count (const_eval rows e)
const_row_lem {ws} {n} {at} {e} {end} {rows} W C s = eval_row ws W n rows C e s.wrote s.valid
