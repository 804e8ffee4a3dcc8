-- `BUILTINS` of sema.rs, in its order: each builtin function's name, and the least and most arguments that it takes. These are definitions.
use Prim.Native.String as S
use Rattle.std.specs.Prelude.{ℕ, Bool, true, false, not, ◌&&◌, ◌||◌, List, [], ◌∷◌, leb, eqb, length, get_or, map}
use Rattle.std.proofs.Math.Option.{Option, none, some}
use Rattle.base_words.specs.Word.{pick}
use Rattle.base_text.specs.Text.{ascii}

-- a name, and how many arguments
pub record Builtin : Type 0 where
  pub name : List ℕ
  pub least : ℕ
  pub most : ℕ

-- a builtin: its name, the least and the most arguments
unfoldable pub takes : S.String → (least most : ℕ) → Builtin
unfolding ascii
takes s least most = record { name = ascii s; least = least; most = most }

-- all 55
unfoldable pub builtins : List Builtin
unfolding takes
builtins =
    takes "ABS" 1 1 ∷
    takes "ASC" 1 1 ∷
    takes "ATN" 1 1 ∷
    takes "CDBL" 1 1 ∷
    takes "CHR$" 1 1 ∷
    takes "CINT" 1 1 ∷
    takes "CLNG" 1 1 ∷
    takes "COS" 1 1 ∷
    takes "CSNG" 1 1 ∷
    takes "CVD" 1 1 ∷
    takes "CVI" 1 1 ∷
    takes "CVL" 1 1 ∷
    takes "CVS" 1 1 ∷
    takes "EOF" 1 1 ∷
    takes "EXP" 1 1 ∷
    takes "FIX" 1 1 ∷
    takes "HEX$" 1 1 ∷
    takes "INSTR" 2 3 ∷
    takes "INT" 1 1 ∷
    takes "LBOUND" 1 2 ∷
    takes "LCASE$" 1 1 ∷
    takes "LEFT$" 2 2 ∷
    takes "LEN" 1 1 ∷
    takes "LOC" 1 1 ∷
    takes "LOF" 1 1 ∷
    takes "LTRIM$" 1 1 ∷
    takes "LOG" 1 1 ∷
    takes "MID$" 2 3 ∷
    takes "MKD$" 1 1 ∷
    takes "MKI$" 1 1 ∷
    takes "MKL$" 1 1 ∷
    takes "MKS$" 1 1 ∷
    takes "OCT$" 1 1 ∷
    takes "POS" 1 1 ∷
    takes "DATE$" 0 0 ∷
    takes "TIME$" 0 0 ∷
    takes "FRE" 1 1 ∷
    takes "RIGHT$" 2 2 ∷
    takes "RTRIM$" 1 1 ∷
    takes "RND" 0 1 ∷
    takes "SGN" 1 1 ∷
    takes "SPC" 1 1 ∷
    takes "SIN" 1 1 ∷
    takes "SPACE$" 1 1 ∷
    takes "SQR" 1 1 ∷
    takes "STR$" 1 1 ∷
    takes "STRING$" 2 2 ∷
    takes "TAB" 1 1 ∷
    takes "UBOUND" 1 2 ∷
    takes "UCASE$" 1 1 ∷
    takes "TAN" 1 1 ∷
    takes "TIMER" 0 1 ∷
    takes "ERR" 0 0 ∷
    takes "ERL" 0 0 ∷
    takes "VAL" 1 1 ∷
    []

-- two names, byte by byte
unfoldable pub same : List ℕ → List ℕ → Bool
same [] [] = true
same [] (b ∷ bs) = false
same (a ∷ xs) [] = false
same (a ∷ xs) (b ∷ bs) = eqb a b && same xs bs

-- the first builtin of that name (`entry_of` of base_strings/specs/Open.antt is how an entry begins)
unfoldable pub entry_of : List ℕ → List Builtin → Option Builtin
unfolding same
entry_of name [] = none
entry_of name (b ∷ bs) = pick (same name b.name) (some b) (entry_of name bs)

-- the builtin of this name
unfoldable pub builtin : List ℕ → Option Builtin
unfolding entry_of builtins
builtin name = entry_of name builtins

-- there is one
abbrev pub is_some : {A : Type 0} → Option A → Bool
is_some none = false
is_some (some a) = true

-- the name is a builtin's
unfoldable pub is_builtin : List ℕ → Bool
unfolding builtin
is_builtin name = is_some (builtin name)

-- the name of builtin i (`name_at` of tree_expr/specs/Reader.antt reads a name's number)
unfoldable pub name_at : ℕ → List ℕ
unfolding builtins
name_at i = get_or (map (λ (b : Builtin). b.name) builtins) i []

-- ---- for contracts inside and proofs: a quick test that every builtin's name passes, and few others

-- the lengths from 3 to 7 that go with a first byte
unfoldable pub length_fits : (first n : ℕ) → Bool
length_fits first n =
    pick (eqb first 65) (eqb n 3) (
    pick (eqb first 67) (leb n 4) (
    pick (eqb first 68) (eqb n 5) (
    pick (eqb first 69) (eqb n 3) (
    pick (eqb first 70) (eqb n 3) (
    pick (eqb first 72) (eqb n 4) (
    pick (eqb first 73) (eqb n 3 || eqb n 5) (
    pick (eqb first 76) (not (eqb n 4)) (
    pick (eqb first 77) (eqb n 4) (
    pick (eqb first 79) (eqb n 4) (
    pick (eqb first 80) (eqb n 3) (
    pick (eqb first 82) (eqb n 3 || eqb n 6) (
    pick (eqb first 83) (not (eqb n 5)) (
    pick (eqb first 84) (eqb n 3 || eqb n 5) (
    pick (eqb first 85) (eqb n 6) (
    pick (eqb first 86) (eqb n 3) false)))))))))))))))

-- the test of a name: by its length and its first byte
unfoldable pub may_be : List ℕ → Bool
unfolding length_fits
may_be name = leb 3 (length name) && (leb (length name) 7 && length_fits (get_or name 0 0) (length name))
