-- The value of a CONST, from the row that was found in the buffer. No line here knows the code. Assumes nothing.
use Prim.Native.Nat.{ℕ, ◌+◌, ◌*◌}
use mathlib.Core.Path.{◌≡◌, refl, sym, ap, ◌∙◌, subst}
use mathlib.Core.List.{List}
use mathlib.Core.Option.{none, some}
use native.Mathlib.Omega.{arith}
use lib.ListN.{get_or}
use Rattle.rows_table.specs.Rows.{Row, width, find}
use Rattle.rows_runs.specs.Runs.{row_of, row_in, Keeps}
use Rattle.rows_runs.specs.Places.{row_word_lem}
use Rattle.rows_kinds.specs.Kinds.{entry_key}
use Rattle.fold_values.specs.Value.{value_of}
use Rattle.fold_values.specs.declared.Value.{Value}
use Rattle.fold_const_eval.specs.ConstEval.{row_value, of_row, constant}
use Rattle.std.specs.Prelude.{Option, Some, None, Ok, Err}
use Rattle.fold_values.specs.declared.Unfolded.TheVariants.{NotConstant}

-- the value that the words of row i are
abbrev pub value_at : List ℕ → ℕ → Value
value_at buf i = value_of (get_or buf (i * width + 2) 0) (get_or buf (i * width + 3) 0) (get_or buf (i * width + 4) 0)

value_at_lem : (buf : List ℕ) (i : ℕ) → row_value (row_of buf i) ≡ value_at buf i
value_at_lem buf i = rw (← row_word_lem buf i 2 (omega arith), ← row_word_lem buf i 3 (omega arith), ← row_word_lem buf i 4 (omega arith)) refl

-- what the search answered, of the key k
abbrev pub Searched : List ℕ → ℕ → ℕ → Option ℕ → Type 0
Searched buf count k f = (rows : List Row) → Keeps rows count buf → row_in buf f ≡ find k rows

module _ (name : ℕ) {buf : List ℕ} {count k : ℕ} {f : Option ℕ} (q : k ≡ entry_key 132 name 0) (E : Searched buf count k f) where
  module _ {i : ℕ} (F : f ≡ Some i) where
    row_is : {rows : List Row} → Keeps rows count buf → find (entry_key 132 name 0) rows ≡ some (row_of buf i)
    row_is {rows} K = subst (λ (j : ℕ). find j rows ≡ some (row_of buf i)) q (sym (E rows K) ∙ ap (row_in buf) F)

    -- it is the CONST's
    pub value_is : (rows : List Row) → Keeps rows count buf → Ok (value_at buf i) ≡ constant rows name
    value_is rows K = ap Ok (sym (value_at_lem buf i)) ∙ sym (ap of_row (row_is K))

  -- no row was found: not constant
  pub value_none : f ≡ None → (rows : List Row) → Keeps rows count buf → (Err NotConstant) ≡ constant rows name
  value_none F rows K = sym (ap of_row (subst (λ (j : ℕ). find j rows ≡ none) q (sym (E rows K) ∙ ap (row_in buf) F)))
