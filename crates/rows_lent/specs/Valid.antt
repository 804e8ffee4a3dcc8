-- Rows built from right parts are in order by themselves: by computation of the rules, kind by kind. Assumes nothing.
use Rattle.std.specs.Prelude.{◌≡◌, refl, Bool, true, false, List, ℕ, ◌+◌, ◌*◌, ◌<◌, ltb, eqb}
use native.Mathlib.Omega.{arith}
use borrow.Author.Tests.{lt-ltb}
use Rattle.base_words.specs.Word.{kind_of, pay_of, word_of, pick}
use Rattle.rows_kinds.specs.Kinds.{bit, line_row, label_row, type_row, field_row, const_row, array_row, typed_var_row, proc_row, param_row, dim_shared_row, shared_row, static_row, static_proc_row, def_fn_row, unranked_row, option_base_row}
use Rattle.rows_lent.specs.Rules.{is_marked, scope_ok, type_ok, const_ok, word_ok, words_ok, kind_ok, row_ok}

-- ---- parts

bit_flag : (b : Bool) → ltb (bit b) 2 ≡ true
bit_flag true = refl
bit_flag false = refl

bits_mark : (a b : Bool) → ltb (bit a + 2 * bit b) 4 ≡ true
bits_mark true true = refl
bits_mark true false = refl
bits_mark false true = refl
bits_mark false false = refl

-- a type, or none
abbrev pub type_or_none : List ℕ → (head arg : ℕ) → Bool
type_or_none names head arg = pick (eqb head 0) (eqb arg 0) (type_ok names head arg)

-- an item's mark
abbrev pub item_ok : ℕ → Bool
item_ok mark = pick (eqb mark 0) false (ltb mark 4)

-- ---- rows

module _ (names : List ℕ) where
  -- 128: a line number that a payload has room for, in a scope
  pub line_ok : (number scope : ℕ) → number < 16777216 → scope_ok names scope ≡ true → row_ok names (line_row number scope) ≡ true
  unfolding row_ok kind_ok words_ok word_ok
  line_ok number scope h s =
      let k : kind_of (word_of 128 number) ≡ 128 = omega arith in
      let p : pay_of (word_of 128 number) ≡ number = omega arith in
      rw (k, p, lt-ltb number 16777216 h, s)

  module _ (name : ℕ) (h : name < 16777216) (n : is_marked names name ≡ true) where
    -- 129: a label's row in a scope
    pub label_ok : (scope : ℕ) → scope_ok names scope ≡ true → row_ok names (label_row name scope) ≡ true
    unfolding row_ok kind_ok words_ok word_ok
    label_ok scope s =
        let k : kind_of (word_of 129 name) ≡ 129 = omega arith in
        let p : pay_of (word_of 129 name) ≡ name = omega arith in
        rw (k, p, n, s)

    -- 130: with its words and its line
    pub type_ok_lem : (words line : ℕ) → words < 65536 → line < 16777216 → row_ok names (type_row name words line) ≡ true
    unfolding row_ok kind_ok words_ok word_ok
    type_ok_lem words line w l =
        let k : kind_of (word_of 130 name) ≡ 130 = omega arith in
        let p : pay_of (word_of 130 name) ≡ name = omega arith in
        rw (k, p, n, lt-ltb words 65536 w, lt-ltb line 16777216 l)

    -- 131: with an ordinal, a name, its first word and a type
    pub field_ok : (ordinal field word head arg : ℕ) → ordinal < 16777216 → is_marked names field ≡ true → word < 65536 → type_ok names head arg ≡ true → row_ok names (field_row name ordinal field word head arg) ≡ true
    unfolding row_ok kind_ok words_ok word_ok
    field_ok ordinal field word head arg o f w t =
        let k : kind_of (word_of 131 name) ≡ 131 = omega arith in
        let p : pay_of (word_of 131 name) ≡ name = omega arith in
        rw (k, p, n, lt-ltb ordinal 16777216 o, f, lt-ltb word 65536 w, t)

    -- 132: with a constant
    pub const_ok_lem : (kind low high : ℕ) → const_ok names kind low high ≡ true → row_ok names (const_row name kind low high) ≡ true
    unfolding row_ok kind_ok words_ok word_ok
    const_ok_lem kind low high c =
        let k : kind_of (word_of 132 name) ≡ 132 = omega arith in
        let p : pay_of (word_of 132 name) ≡ name = omega arith in
        rw (k, p, n, c)

    -- 133: in a scope, with a rank and a line
    pub array_ok : (scope rank line : ℕ) (lower : Bool) → scope_ok names scope ≡ true → rank < 16777216 → line < 16777216 → row_ok names (array_row name scope rank line lower) ≡ true
    unfolding row_ok kind_ok words_ok word_ok
    array_ok scope rank line lower s r l =
        let k : kind_of (word_of 133 name) ≡ 133 = omega arith in
        let p : pay_of (word_of 133 name) ≡ name = omega arith in
        rw (k, p, n, s, lt-ltb rank 16777216 r, lt-ltb line 16777216 l, bit_flag lower)

    -- 134: in a scope, with a type
    pub typed_var_ok : (scope head arg : ℕ) → scope_ok names scope ≡ true → type_ok names head arg ≡ true → row_ok names (typed_var_row name scope head arg) ≡ true
    unfolding row_ok kind_ok words_ok word_ok
    typed_var_ok scope head arg s t =
        let k : kind_of (word_of 134 name) ≡ 134 = omega arith in
        let p : pay_of (word_of 134 name) ≡ name = omega arith in
        rw (k, p, n, s, t)

    -- 135: with a line, and a type or none
    pub proc_ok : (function : Bool) (line head arg : ℕ) → line < 16777216 → type_or_none names head arg ≡ true → row_ok names (proc_row name function line head arg) ≡ true
    unfolding row_ok kind_ok words_ok word_ok
    proc_ok function line head arg l t =
        let k : kind_of (word_of 135 name) ≡ 135 = omega arith in
        let p : pay_of (word_of 135 name) ≡ name = omega arith in
        rw (k, p, n, bit_flag function, lt-ltb line 16777216 l, t)

    -- 136: with an ordinal, a name, and a type or none
    pub param_ok : (ordinal param : ℕ) (byval array : Bool) (head arg : ℕ) → ordinal < 16777216 → is_marked names param ≡ true → type_or_none names head arg ≡ true
        → row_ok names (param_row name ordinal param byval array head arg) ≡ true
    unfolding row_ok kind_ok words_ok word_ok
    param_ok ordinal param byval array head arg o f t =
        let k : kind_of (word_of 136 name) ≡ 136 = omega arith in
        let p : pay_of (word_of 136 name) ≡ name = omega arith in
        rw (k, p, n, lt-ltb ordinal 16777216 o, f, bits_mark byval array, t)

    -- 137: of an array or a variable
    pub dim_shared_ok : (array : Bool) → row_ok names (dim_shared_row name array) ≡ true
    unfolding row_ok kind_ok words_ok word_ok
    dim_shared_ok array =
        let k : kind_of (word_of 137 name) ≡ 137 = omega arith in
        let p : pay_of (word_of 137 name) ≡ name = omega arith in
        rw (k, p, n, bit_flag array)

    -- 138: in a scope, with an item's mark
    pub shared_ok : (scope mark : ℕ) → scope_ok names scope ≡ true → item_ok mark ≡ true → row_ok names (shared_row name scope mark) ≡ true
    unfolding row_ok kind_ok words_ok word_ok
    shared_ok scope mark s m =
        let k : kind_of (word_of 138 name) ≡ 138 = omega arith in
        let p : pay_of (word_of 138 name) ≡ name = omega arith in
        rw (k, p, n, s, m)

    -- 139: in a scope, with an item's mark
    pub static_ok : (scope mark : ℕ) → scope_ok names scope ≡ true → item_ok mark ≡ true → row_ok names (static_row name scope mark) ≡ true
    unfolding row_ok kind_ok words_ok word_ok
    static_ok scope mark s m =
        let k : kind_of (word_of 139 name) ≡ 139 = omega arith in
        let p : pay_of (word_of 139 name) ≡ name = omega arith in
        rw (k, p, n, s, m)

    -- 140: with the name alone
    pub static_proc_ok : row_ok names (static_proc_row name) ≡ true
    unfolding row_ok kind_ok words_ok word_ok
    static_proc_ok =
        let k : kind_of (word_of 140 name) ≡ 140 = omega arith in
        let p : pay_of (word_of 140 name) ≡ name = omega arith in
        rw (k, p, n)

    -- 141: with the name alone
    pub def_fn_ok : row_ok names (def_fn_row name) ≡ true
    unfolding row_ok kind_ok words_ok word_ok
    def_fn_ok =
        let k : kind_of (word_of 141 name) ≡ 141 = omega arith in
        let p : pay_of (word_of 141 name) ≡ name = omega arith in
        rw (k, p, n)

    -- 142: an unranked parameter's row in a scope
    pub unranked_ok : (scope : ℕ) → scope_ok names scope ≡ true → row_ok names (unranked_row name scope) ≡ true
    unfolding row_ok kind_ok words_ok word_ok
    unranked_ok scope s =
        let k : kind_of (word_of 142 name) ≡ 142 = omega arith in
        let p : pay_of (word_of 142 name) ≡ name = omega arith in
        rw (k, p, n, s)

  -- 143: with a value that a payload has room for
  pub option_base_ok : (value : ℕ) → value < 16777216 → row_ok names (option_base_row value) ≡ true
  unfolding row_ok kind_ok words_ok word_ok
  option_base_ok value v = rw (lt-ltb value 16777216 v)
