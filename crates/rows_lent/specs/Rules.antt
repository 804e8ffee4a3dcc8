-- What a row of a lent table may be by itself (document 01, "Rows"): for each kind, the rule of each word. `names` has one mark for each string, 1 where
-- the string is a name. These are definitions.
use Rattle.std.specs.Prelude.{Bool, true, false, List, [], ◌∷◌, ℕ, ◌-◌, leb, ltb, eqb, length, drop, get_or}
use Rattle.base_words.specs.Word.{kind_of, pay_of, pick}
use Rattle.rows_table.specs.Rows.{Row}
use Rattle.fold_values.specs.Value.{const_rule}

-- ---- what a word may be

-- 0
abbrev pub unused : ℕ
unused = 0

-- 0 for the module, else a name's number plus 1
abbrev pub scope : ℕ
scope = 1

-- lines, ranks, ordinals, the OPTION BASE value: below 16,777,216
abbrev pub small : ℕ
small = 2

-- words and word: at most 65,535
abbrev pub half : ℕ
half = 3

-- yes or no: 0 or 1
abbrev pub flag : ℕ
flag = 4

-- a parameter's mark: 0 to 3
abbrev pub mark : ℕ
mark = 5

-- an item's mark: 1 to 3
abbrev pub item : ℕ
item = 6

-- a name's number
abbrev pub name : ℕ
name = 7

-- a type: this word and the next
abbrev pub type : ℕ
type = 8

-- a type, or 0 and 0
abbrev pub type? : ℕ
type? = 9

-- a constant: this word and the next two
abbrev pub const : ℕ
const = 10

-- it belongs to a word before it, whose rule tests it
abbrev pub part : ℕ
part = 11

-- for each kind from 128 on: word 0 without its kind, words 1 to 5; words past these are unused
abbrev pub rules : List (List ℕ)
rules =
    (small ∷ unused ∷ scope ∷ unused ∷ unused ∷ unused ∷ []) ∷  -- 128 line
    (name ∷ unused ∷ scope ∷ unused ∷ unused ∷ unused ∷ []) ∷  -- 129 label
    (name ∷ unused ∷ half ∷ small ∷ unused ∷ unused ∷ []) ∷  -- 130 TYPE: words, line
    (name ∷ small ∷ name ∷ half ∷ type ∷ part ∷ []) ∷  -- 131 field: ordinal, name, word, type
    (name ∷ unused ∷ const ∷ part ∷ part ∷ unused ∷ []) ∷  -- 132 CONST: kind, value
    (name ∷ scope ∷ small ∷ small ∷ flag ∷ unused ∷ []) ∷  -- 133 array: rank, line, has_lower
    (name ∷ scope ∷ type ∷ part ∷ unused ∷ unused ∷ []) ∷  -- 134 typed variable
    (name ∷ unused ∷ flag ∷ small ∷ type? ∷ part ∷ []) ∷  -- 135 procedure: is function, line, type
    (name ∷ small ∷ name ∷ mark ∷ type? ∷ part ∷ []) ∷  -- 136 parameter: ordinal, name, mark, type
    (name ∷ flag ∷ unused ∷ unused ∷ unused ∷ unused ∷ []) ∷  -- 137 DIM SHARED
    (name ∷ scope ∷ item ∷ unused ∷ unused ∷ unused ∷ []) ∷  -- 138 SHARED item
    (name ∷ scope ∷ item ∷ unused ∷ unused ∷ unused ∷ []) ∷  -- 139 STATIC item
    (name ∷ unused ∷ unused ∷ unused ∷ unused ∷ unused ∷ []) ∷  -- 140 STATIC procedure
    (name ∷ unused ∷ unused ∷ unused ∷ unused ∷ unused ∷ []) ∷  -- 141 DEF FN
    (name ∷ scope ∷ unused ∷ unused ∷ unused ∷ unused ∷ []) ∷  -- 142 unranked array parameter
    (unused ∷ unused ∷ small ∷ unused ∷ unused ∷ unused ∷ []) ∷  -- 143 OPTION BASE: last value
    []

-- ---- the tests

-- the marks say that string x is a name
abbrev pub is_marked : List ℕ → ℕ → Bool
is_marked names x = eqb (get_or names x 0) 1

-- a scope: the module's 0, or a name's number plus 1
unfoldable pub scope_ok : List ℕ → ℕ → Bool
scope_ok names w = pick (eqb w 0) true (is_marked names (w - 1))

-- a `TypeRef` head kind and its argument: 44 has a length, 45 a name, the others none
unfoldable pub type_ok : List ℕ → (head arg : ℕ) → Bool
type_ok names head arg = pick (eqb head 44) (ltb arg 16777216) (pick (eqb head 45) (is_marked names arg) (pick (leb 40 head) (pick (leb head 43) (eqb arg 0) false) false))

-- a literal's kind and its value: the rule of a folded value's words
unfoldable pub const_ok : List ℕ → (kind low high : ℕ) → Bool
const_ok names kind low high = const_rule (length names) kind low high

-- a word w under a rule, with the two words after it
unfoldable pub word_ok : List ℕ → (rule w next after : ℕ) → Bool
word_ok names rule w next after =
    pick (eqb rule unused) (eqb w 0) (
    pick (eqb rule scope) (scope_ok names w) (
    pick (eqb rule small) (ltb w 16777216) (
    pick (eqb rule half) (ltb w 65536) (
    pick (eqb rule flag) (ltb w 2) (
    pick (eqb rule mark) (ltb w 4) (
    pick (eqb rule item) (pick (eqb w 0) false (ltb w 4)) (
    pick (eqb rule name) (is_marked names w) (
    pick (eqb rule type) (type_ok names w next) (
    pick (eqb rule type?) (pick (eqb w 0) (eqb next 0) (type_ok names w next)) (
    pick (eqb rule const) (const_ok names w next after) true))))))))))

-- each word under its rule
unfoldable pub words_ok : List ℕ → (rules words : List ℕ) → Bool
words_ok names rs [] = true
words_ok names rs (w ∷ ws) = pick (word_ok names (get_or rs 0 unused) w (get_or ws 0 0) (get_or ws 1 0)) (words_ok names (drop 1 rs) ws) false

-- a row of the kind 128 + k, word 0 without its kind
unfoldable pub kind_ok : List ℕ → ℕ → Row → Bool
kind_ok names k r = words_ok names (get_or rules k []) (pay_of (get_or r 0 0) ∷ drop 1 r)

-- a row: its kind is one of 128 to 143
unfoldable pub row_ok : List ℕ → Row → Bool
row_ok names r = pick (leb 128 (kind_of (get_or r 0 0))) (pick (leb (kind_of (get_or r 0 0)) 143) (kind_ok names (kind_of (get_or r 0 0) - 128) r) false) false
