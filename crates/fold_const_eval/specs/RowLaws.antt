-- The CONST rows of a lent table meet the rule that `const_eval` asks for, and what folding gives meets the rule of a lent table's CONST row: the rule
-- of a lent table cites the rule of a folded value's words. Rows stay such when others, or a value, are entered. Assumes nothing.
use Prim.Native.Nat.{ℕ, ◌+◌, ◌*◌, ◌<◌, ◌≤◌}
use Rattle.std.specs.Prelude.{◌≡◌, refl, Bool, false, ◌⊎◌, eqb, drop, Ok}
use Rattle.std.proofs.Common.{sym, ◌∙◌, inl, inr, arith, eqb-true, length-drop, get_or-drop}
use Rattle.std.proofs.Math.Path.{ap, subst}
use Rattle.std.proofs.Math.Bool.{true}
use mathlib.Core.List.{List, [], ◌∷◌}
use Rattle.std.proofs.Math.Option.{some}
use Rattle.std.proofs.lemmas.Bool.{eqb-false}
use Rattle.std.proofs.Math.Dec.{T}
use Rattle.std.specs.Float.Ieee.Bits.{is_true}
use Rattle.std.proofs.Math.ListN.{length, get_or}
use Rattle.base_words.specs.Word.{kind_of, pay_of}
use Rattle.tree_expr.specs.Expr.{Strings, Named, Expr}
use Rattle.tree_expr.specs.Stands.{Stands}
use Rattle.rows_table.specs.Rows.{Row, width, key_of, key, rank, find, insert, remove}
use Rattle.rows_table.specs.Laws.{order, find_some, find_insert_same, find_insert_other, find_remove_in, find_remove_out}
use Rattle.rows_table.specs.Each.{each_at, each_find, find_key, wide_each}
use Rattle.rows_table.specs.Images.{word_at_lem}
use Rattle.rows_kinds.specs.Kinds.{entry_key, const_row}
use Rattle.fold_values.specs.Value.{const_rule, literal_kind, low_of, high_of}
use Rattle.fold_values.specs.ValueLaws.{RowValue, rule_row, row_rule, value_words}
use Rattle.fold_values.proofs.FoldLaws.{RowFold}
use Rattle.fold_values.specs.declared.Value.{Value}
use Rattle.rows_lent.specs.Rules.{rules, const_ok, word_ok, kind_ok, row_ok}
use Rattle.rows_lent.specs.RuleLaws.{words_ok_at}
use Rattle.rows_lent.specs.Valid.{const_ok_lem}
use Rattle.rows_lent.specs.Lent.{Lent}
use Rattle.fold_const_eval.specs.ConstEval.{row_value, const_eval}
use Rattle.fold_const_eval.specs.Evaluates.{Consts}
use Rattle.fold_const_eval.specs.EvalLaws.{Words32, const_row_lem}

-- the strings of which these are the marks
abbrev pub strings : List ℕ → Strings
strings ns = record { count = length ns; names = ns }

-- ---- a CONST row's words under their rules

-- the three words of a constant
const_words_ok : (names : List ℕ) (r : Row) → 5 ≤ length r → kind_of (get_or r 0 0) ≡ 132 → row_ok names r ≡ true → const_ok names (get_or r 2 0) (get_or r 3 0) (get_or r 4 0) ≡ true
unfolding row_ok kind_ok word_ok
const_words_ok names r w k o =
    let k_ok : kind_ok names 4 r ≡ true = rw k at o in
    let t : const_ok names (get_or (drop 1 r) 1 0) (get_or (drop 1 r) 2 0) (get_or (drop 1 r) 3 0) ≡ true = words_ok_at names (get_or rules 4 []) (pay_of (get_or r 0 0) ∷ drop 1 r) 2 k_ok (omega (arith, length-drop 1 r)) in
    rw (get_or-drop 1 r 1 0, get_or-drop 1 r 2 0, get_or-drop 1 r 3 0) at t

-- ---- the rows of a lent table

-- the key of a CONST row is its kind and name, and 0
const_key : (a b name : ℕ) → b < 4294967296 → name < 16777216 → key_of a b ≡ entry_key 132 name 0 → kind_of a ≡ 132
const_key a b name h k e = omega arith

module _ {names : List ℕ} {rows : List Row} {count : ℕ} {buf : List ℕ} (L : Lent names rows count buf) (W : Words32 buf) where
  -- the words of a row have 32 bits
  row_32 : (i j : ℕ) → i < count → j < width → get_or (get_or rows i []) j 0 < 4294967296
  row_32 i j h k = omega (arith, W (i * width + j), word_at_lem L.holds.filled i j h k)

  lent_value : (name : ℕ) → name < 16777216 → (r : Row) → find (entry_key 132 name 0) rows ≡ some r → RowValue (length names) (row_value r)
  unfolding key const_ok
  lent_value name h r e =
      let f = find_some 0 (entry_key 132 name 0) rows L.holds.table r e in
      let i : ℕ = rank (entry_key 132 name 0) rows in
      let i< : i < count = omega (arith, f.0, L.holds.filled.count) in
      let word : (j : ℕ) → j < width → get_or r j 0 < 4294967296 = λ j k. subst (λ (x : Row). get_or x j 0 < 4294967296) (sym f.1) (row_32 i j i< k) in
      let long : length r ≡ width = ap length f.1 ∙ each_at (λ r. length r ≡ width) [] rows (wide_each width rows L.holds.filled.wide) i f.0 in
      let kind : kind_of (get_or r 0 0) ≡ 132 = const_key (get_or r 0 0) (get_or r 1 0) name (word 1 (omega arith)) h (find_key (entry_key 132 name 0) rows r e) in
      let ok : const_rule (length names) (get_or r 2 0) (get_or r 3 0) (get_or r 4 0) ≡ true = const_words_ok names r (omega arith) kind (each_find (λ r. row_ok names r ≡ true) (entry_key 132 name 0) rows r L.ok e) in
      rule_row (length names) (get_or r 2 0) (get_or r 3 0) (get_or r 4 0) (word 3 (omega arith)) (word 4 (omega arith)) (subst T (sym ok) tt)

  -- each CONST row of a lent table of 32-bit words holds a value that it may hold
  pub lent_consts : Consts (length names) rows
  lent_consts = record { good = lent_value }

-- ---- what folding gives, as a row of a lent table

-- THE LAW on rows: the row of a value that an expression gives is one that a lent table may hold
pub const_again : {ws ns : List ℕ} {at : ℕ} {e : Expr} {end : ℕ} {rows : List Row} → Words32 ws → Consts (length ns) rows → Stands ws (strings ns) at e end
    → {v : Value} → const_eval rows e ≡ Ok v → (name : ℕ) → Named ns name → row_ok ns (const_row name (literal_kind v) (low_of v) (high_of v)) ≡ true
unfolding const_ok
const_again {ws} {ns} {at} {e} {end} {rows} W C s {v} q name n =
    let r : RowValue (length ns) v = subst (RowFold (length ns)) q (const_row_lem {n = strings ns} W C s) in
    const_ok_lem ns name n.fits n.named (literal_kind v) (low_of v) (high_of v) (is_true _ (row_rule (length ns) v r))

-- ---- rows stay such

-- a table without rows is such
pub consts_none : (n : ℕ) → Consts n []
unfolding find
consts_none n = record { good = λ name h r e. let z : ◌≡◌ {A = ℕ} 0 1 = cc in absurd (omega arith) }

-- a value is entered
pub consts_enter : {n : ℕ} {rows : List Row} → Consts n rows → (name : ℕ) (v : Value) → RowValue n v → Consts n (insert (const_row name (literal_kind v) (low_of v) (high_of v)) rows)
unfolding key
consts_enter {n} {rows} C name v g = record { good = λ m h r e. go m h r e (eqb (key new) (entry_key 132 m 0)) refl }
  where
    new : Row
    new = const_row name (literal_kind v) (low_of v) (high_of v)

    go : (m : ℕ) → m < 16777216 → (r : Row) → find (entry_key 132 m 0) (insert new rows) ≡ some r → (b : Bool) → eqb (key new) (entry_key 132 m 0) ≡ b → RowValue n (row_value r)
    go m h r e true q =
        let f : find (entry_key 132 m 0) (insert new rows) ≡ some new = subst (λ (k : ℕ). find k (insert new rows) ≡ some new) (eqb-true _ _ q) (find_insert_same new rows) in
        let p : new ≡ r = cc in
        subst (λ (x : Row). RowValue n (row_value x)) p (subst (RowValue n) (sym (value_words n v g)) g)
    go m h r e false q = C.good m h r (sym (find_insert_other (entry_key 132 m 0) new rows (eqb-false _ _ q)) ∙ e)

-- another row is entered
pub consts_other : {n : ℕ} {rows : List Row} → Consts n rows → (new : Row) → (kind_of (get_or new 0 0) ≡ 132 → ⊥) → get_or new 1 0 < 4294967296 → Consts n (insert new rows)
unfolding key
consts_other {n} {rows} C new k w = record { good = λ name h r e. C.good name h r (sym (find_insert_other (entry_key 132 name 0) new rows (λ q. k (const_key (get_or new 0 0) (get_or new 1 0) name w h q))) ∙ e) }

-- rows are taken out
pub consts_remove : {n : ℕ} {rows : List Row} → Consts n rows → (lo hi : ℕ) → lo ≤ hi → Consts n (remove lo hi rows)
consts_remove {n} {rows} C lo hi t = record { good = λ name h r e. go name h r e (order (entry_key 132 name 0) lo) (order (entry_key 132 name 0) hi) }
  where
    go : (name : ℕ) → name < 16777216 → (r : Row) → find (entry_key 132 name 0) (remove lo hi rows) ≡ some r → (entry_key 132 name 0 < lo) ⊎ (lo ≤ entry_key 132 name 0) → (entry_key 132 name 0 < hi) ⊎ (hi ≤ entry_key 132 name 0) → RowValue n (row_value r)
    go name h r e (inl a) b = C.good name h r (sym (find_remove_out (entry_key 132 name 0) lo hi rows (inl a) t) ∙ e)
    go name h r e (inr a) (inl b) =
        let f = find_remove_in (entry_key 132 name 0) lo hi rows a b t in
        let z : ◌≡◌ {A = ℕ} 0 1 = cc in
        absurd (omega arith)
    go name h r e (inr a) (inr b) = C.good name h r (sym (find_remove_out (entry_key 132 name 0) lo hi rows (inr b) t) ∙ e)
