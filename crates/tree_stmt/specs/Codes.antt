-- The rows of fields in numbers, as the code's tables have them, and what each number says.
use Rattle.std.specs.Prelude.{ℕ, zero, suc, ◌+◌, ◌*◌, ◌-◌, ◌/◌, ◌%◌, List, [], ◌∷◌, ◌++◌, map, ◌≡◌, refl, get_or, ltb}
use Rattle.base_words.specs.Word.{pick}
use Rattle.tree_stmt.specs.Sorts.{Sort, expr, stmt, many, group, either, never, Sorts, nil, ◌&◌, flag, whole, letter, one_of, named, quoted, opt, exprs, body, GotoTarget, TypeRef, PrintItem, CaseClause, ResumeTarget, LValue, Declarator, Param, ScopeItem, FieldDecl, FieldSlice, DataItem, Case, sorts, kinds}

-- the rows that stand in statements, and then the statements' own
unfoldable pub parts : List Sorts
parts =
    (expr & nil) ∷  -- 0
    (exprs & nil) ∷  -- 1
    (named & nil) ∷  -- 2
    (LValue) ∷  -- 3
    (stmt & nil) ∷  -- 4
    (body & nil) ∷  -- 5
    (quoted & nil) ∷  -- 6
    (GotoTarget & nil) ∷  -- 7
    (TypeRef & nil) ∷  -- 8
    (opt (expr & nil) & nil) ∷  -- 9
    (Declarator) ∷  -- 10
    (Param) ∷  -- 11
    (ScopeItem) ∷  -- 12
    (FieldDecl) ∷  -- 13
    (FieldSlice) ∷  -- 14
    (DataItem) ∷  -- 15
    (letter & letter & nil) ∷  -- 16
    (PrintItem & nil) ∷  -- 17
    (CaseClause & nil) ∷  -- 18
    (expr & opt (expr & nil) & nil) ∷  -- 19
    (many (CaseClause & nil) & nil) ∷  -- 20
    (Case) ∷  -- 21
    (whole & nil) ∷  -- 22
    (named & nil) ∷  -- 23
    (nil) ∷  -- 24
    (nil) ∷  -- 25
    (nil) ∷  -- 26
    (nil) ∷  -- 27
    (whole & nil) ∷  -- 28
    (named & nil) ∷  -- 29
    (expr & nil) ∷  -- 30
    (nil) ∷  -- 31
    (nil) ∷  -- 32
    (expr & nil) ∷  -- 33
    (expr & expr & nil) ∷  -- 34
    (one_of 18 & expr & nil) ∷  -- 35
    (nil) ∷  -- 36
    (nil) ∷  -- 37
    (GotoTarget & nil) ∷  -- 38
    []

-- every row that has a number
unfoldable pub all_rows : List Sorts
all_rows = parts ++ map sorts kinds

-- the row of this number
unfoldable pub row_of : ℕ → Sorts
row_of r = get_or all_rows r nil

-- the sorts that have a number of their own
unfoldable pub singles : List Sort
singles = never ∷ named ∷ quoted ∷ flag ∷ whole ∷ letter ∷ one_of 4 ∷ one_of 5 ∷ one_of 18 ∷ expr ∷ stmt ∷ GotoTarget ∷ TypeRef ∷ PrintItem ∷ CaseClause ∷ ResumeTarget ∷ []

-- the sort of a number: one of its own below 16, then options, lists and groups of a row
unfoldable pub sort_at : ℕ → Sort
sort_at s = pick (ltb s 16) (get_or singles s never) (pick (ltb s 64) (opt (row_of (s - 16))) (pick (ltb s 112) (many (row_of (s - 64))) (group (row_of (s - 112)))))

-- a row in numbers: up to the first 0
unfoldable pub decode : List ℕ → Sorts
decode [] = nil
decode (zero ∷ cs) = nil
decode (suc c ∷ cs) = sort_at (suc c) & decode cs

-- heads of kinds one after another, each with a row of its own
unfoldable pub chain : ℕ → List Sorts → Sort
chain k [] = never
chain k (ss ∷ rows) = either k ss (chain (suc k) rows)

-- the rows in statements, in numbers
unfoldable pub part_codes : List (List ℕ)
part_codes =
    (9 ∷ 0 ∷ 0 ∷ 0 ∷ 0 ∷ 0 ∷ []) ∷
    (64 ∷ 0 ∷ 0 ∷ 0 ∷ 0 ∷ 0 ∷ []) ∷
    (1 ∷ 0 ∷ 0 ∷ 0 ∷ 0 ∷ 0 ∷ []) ∷
    (1 ∷ 17 ∷ 66 ∷ 0 ∷ 0 ∷ 0 ∷ []) ∷
    (10 ∷ 0 ∷ 0 ∷ 0 ∷ 0 ∷ 0 ∷ []) ∷
    (68 ∷ 0 ∷ 0 ∷ 0 ∷ 0 ∷ 0 ∷ []) ∷
    (2 ∷ 0 ∷ 0 ∷ 0 ∷ 0 ∷ 0 ∷ []) ∷
    (11 ∷ 0 ∷ 0 ∷ 0 ∷ 0 ∷ 0 ∷ []) ∷
    (12 ∷ 0 ∷ 0 ∷ 0 ∷ 0 ∷ 0 ∷ []) ∷
    (16 ∷ 0 ∷ 0 ∷ 0 ∷ 0 ∷ 0 ∷ []) ∷
    (1 ∷ 17 ∷ 73 ∷ 24 ∷ 0 ∷ 0 ∷ []) ∷
    (1 ∷ 3 ∷ 3 ∷ 24 ∷ 0 ∷ 0 ∷ []) ∷
    (1 ∷ 3 ∷ 24 ∷ 0 ∷ 0 ∷ 0 ∷ []) ∷
    (1 ∷ 12 ∷ 0 ∷ 0 ∷ 0 ∷ 0 ∷ []) ∷
    (9 ∷ 115 ∷ 0 ∷ 0 ∷ 0 ∷ 0 ∷ []) ∷
    (2 ∷ 3 ∷ 0 ∷ 0 ∷ 0 ∷ 0 ∷ []) ∷
    (5 ∷ 5 ∷ 0 ∷ 0 ∷ 0 ∷ 0 ∷ []) ∷
    (13 ∷ 0 ∷ 0 ∷ 0 ∷ 0 ∷ 0 ∷ []) ∷
    (14 ∷ 0 ∷ 0 ∷ 0 ∷ 0 ∷ 0 ∷ []) ∷
    (9 ∷ 16 ∷ 0 ∷ 0 ∷ 0 ∷ 0 ∷ []) ∷
    (82 ∷ 0 ∷ 0 ∷ 0 ∷ 0 ∷ 0 ∷ []) ∷
    (36 ∷ 68 ∷ 0 ∷ 0 ∷ 0 ∷ 0 ∷ []) ∷
    (4 ∷ 0 ∷ 0 ∷ 0 ∷ 0 ∷ 0 ∷ []) ∷
    (1 ∷ 0 ∷ 0 ∷ 0 ∷ 0 ∷ 0 ∷ []) ∷
    (0 ∷ 0 ∷ 0 ∷ 0 ∷ 0 ∷ 0 ∷ []) ∷
    (0 ∷ 0 ∷ 0 ∷ 0 ∷ 0 ∷ 0 ∷ []) ∷
    (0 ∷ 0 ∷ 0 ∷ 0 ∷ 0 ∷ 0 ∷ []) ∷
    (0 ∷ 0 ∷ 0 ∷ 0 ∷ 0 ∷ 0 ∷ []) ∷
    (4 ∷ 0 ∷ 0 ∷ 0 ∷ 0 ∷ 0 ∷ []) ∷
    (1 ∷ 0 ∷ 0 ∷ 0 ∷ 0 ∷ 0 ∷ []) ∷
    (9 ∷ 0 ∷ 0 ∷ 0 ∷ 0 ∷ 0 ∷ []) ∷
    (0 ∷ 0 ∷ 0 ∷ 0 ∷ 0 ∷ 0 ∷ []) ∷
    (0 ∷ 0 ∷ 0 ∷ 0 ∷ 0 ∷ 0 ∷ []) ∷
    (9 ∷ 0 ∷ 0 ∷ 0 ∷ 0 ∷ 0 ∷ []) ∷
    (9 ∷ 9 ∷ 0 ∷ 0 ∷ 0 ∷ 0 ∷ []) ∷
    (8 ∷ 9 ∷ 0 ∷ 0 ∷ 0 ∷ 0 ∷ []) ∷
    (0 ∷ 0 ∷ 0 ∷ 0 ∷ 0 ∷ 0 ∷ []) ∷
    (0 ∷ 0 ∷ 0 ∷ 0 ∷ 0 ∷ 0 ∷ []) ∷
    (11 ∷ 0 ∷ 0 ∷ 0 ∷ 0 ∷ 0 ∷ []) ∷
    []

-- the statements' own rows, in numbers
unfoldable pub stmt_codes : List (List ℕ)
stmt_codes =
    (4 ∷ 0 ∷ 0 ∷ 0 ∷ 0 ∷ 0 ∷ []) ∷  -- label
    (1 ∷ 0 ∷ 0 ∷ 0 ∷ 0 ∷ 0 ∷ []) ∷  -- label_name
    (1 ∷ 17 ∷ 9 ∷ 0 ∷ 0 ∷ 0 ∷ []) ∷  -- let'
    (16 ∷ 81 ∷ 3 ∷ 16 ∷ 3 ∷ 0 ∷ []) ∷  -- print
    (22 ∷ 3 ∷ 67 ∷ 16 ∷ 0 ∷ 0 ∷ []) ∷  -- input
    (22 ∷ 115 ∷ 16 ∷ 0 ∷ 0 ∷ 0 ∷ []) ∷  -- line_input
    (9 ∷ 68 ∷ 21 ∷ 0 ∷ 0 ∷ 0 ∷ []) ∷  -- if
    (1 ∷ 9 ∷ 9 ∷ 16 ∷ 68 ∷ 0 ∷ []) ∷  -- for
    (9 ∷ 68 ∷ 0 ∷ 0 ∷ 0 ∷ 0 ∷ []) ∷  -- while
    (16 ∷ 3 ∷ 3 ∷ 68 ∷ 0 ∷ 0 ∷ []) ∷  -- do_loop
    (11 ∷ 0 ∷ 0 ∷ 0 ∷ 0 ∷ 0 ∷ []) ∷  -- goto
    (11 ∷ 0 ∷ 0 ∷ 0 ∷ 0 ∷ 0 ∷ []) ∷  -- gosub
    (23 ∷ 0 ∷ 0 ∷ 0 ∷ 0 ∷ 0 ∷ []) ∷  -- return
    (9 ∷ 71 ∷ 0 ∷ 0 ∷ 0 ∷ 0 ∷ []) ∷  -- on_goto
    (9 ∷ 71 ∷ 0 ∷ 0 ∷ 0 ∷ 0 ∷ []) ∷  -- on_gosub
    (74 ∷ 3 ∷ 0 ∷ 0 ∷ 0 ∷ 0 ∷ []) ∷  -- dim
    (1 ∷ 3 ∷ 75 ∷ 24 ∷ 0 ∷ 0 ∷ []) ∷  -- declare
    (76 ∷ 0 ∷ 0 ∷ 0 ∷ 0 ∷ 0 ∷ []) ∷  -- shared
    (76 ∷ 0 ∷ 0 ∷ 0 ∷ 0 ∷ 0 ∷ []) ∷  -- static
    (74 ∷ 3 ∷ 0 ∷ 0 ∷ 0 ∷ 0 ∷ []) ∷  -- redim
    (1 ∷ 75 ∷ 68 ∷ 3 ∷ 0 ∷ 0 ∷ []) ∷  -- sub
    (1 ∷ 75 ∷ 24 ∷ 68 ∷ 3 ∷ 3 ∷ []) ∷  -- function
    (1 ∷ 64 ∷ 0 ∷ 0 ∷ 0 ∷ 0 ∷ []) ∷  -- call
    (115 ∷ 9 ∷ 16 ∷ 9 ∷ 0 ∷ 0 ∷ []) ∷  -- mid_assign
    (115 ∷ 115 ∷ 0 ∷ 0 ∷ 0 ∷ 0 ∷ []) ∷  -- swap
    (1 ∷ 9 ∷ 0 ∷ 0 ∷ 0 ∷ 0 ∷ []) ∷  -- const
    (3 ∷ 0 ∷ 0 ∷ 0 ∷ 0 ∷ 0 ∷ []) ∷  -- exit_loop
    (0 ∷ 0 ∷ 0 ∷ 0 ∷ 0 ∷ 0 ∷ []) ∷  -- exit_proc
    (4 ∷ 0 ∷ 0 ∷ 0 ∷ 0 ∷ 0 ∷ []) ∷  -- option_base
    (1 ∷ 77 ∷ 0 ∷ 0 ∷ 0 ∷ 0 ∷ []) ∷  -- type_def
    (115 ∷ 9 ∷ 0 ∷ 0 ∷ 0 ∷ 0 ∷ []) ∷  -- field_assign
    (79 ∷ 0 ∷ 0 ∷ 0 ∷ 0 ∷ 0 ∷ []) ∷  -- data'
    (67 ∷ 0 ∷ 0 ∷ 0 ∷ 0 ∷ 0 ∷ []) ∷  -- read
    (7 ∷ 80 ∷ 0 ∷ 0 ∷ 0 ∷ 0 ∷ []) ∷  -- def_type
    (0 ∷ 0 ∷ 0 ∷ 0 ∷ 0 ∷ 0 ∷ []) ∷  -- beep
    (66 ∷ 0 ∷ 0 ∷ 0 ∷ 0 ∷ 0 ∷ []) ∷  -- erase
    (9 ∷ 0 ∷ 0 ∷ 0 ∷ 0 ∷ 0 ∷ []) ∷  -- raise_error
    (23 ∷ 0 ∷ 0 ∷ 0 ∷ 0 ∷ 0 ∷ []) ∷  -- on_error
    (15 ∷ 0 ∷ 0 ∷ 0 ∷ 0 ∷ 0 ∷ []) ∷  -- resume
    (16 ∷ 16 ∷ 0 ∷ 0 ∷ 0 ∷ 0 ∷ []) ∷  -- locate
    (16 ∷ 16 ∷ 0 ∷ 0 ∷ 0 ∷ 0 ∷ []) ∷  -- color
    (16 ∷ 0 ∷ 0 ∷ 0 ∷ 0 ∷ 0 ∷ []) ∷  -- randomize
    (23 ∷ 0 ∷ 0 ∷ 0 ∷ 0 ∷ 0 ∷ []) ∷  -- restore
    (0 ∷ 0 ∷ 0 ∷ 0 ∷ 0 ∷ 0 ∷ []) ∷  -- cls
    (9 ∷ 85 ∷ 0 ∷ 0 ∷ 0 ∷ 0 ∷ []) ∷  -- select_case
    (0 ∷ 0 ∷ 0 ∷ 0 ∷ 0 ∷ 0 ∷ []) ∷  -- end'
    (0 ∷ 0 ∷ 0 ∷ 0 ∷ 0 ∷ 0 ∷ []) ∷  -- stop
    (9 ∷ 6 ∷ 9 ∷ 16 ∷ 0 ∷ 0 ∷ []) ∷  -- open'
    (64 ∷ 0 ∷ 0 ∷ 0 ∷ 0 ∷ 0 ∷ []) ∷  -- close
    (16 ∷ 9 ∷ 0 ∷ 0 ∷ 0 ∷ 0 ∷ []) ∷  -- width
    (9 ∷ 78 ∷ 0 ∷ 0 ∷ 0 ∷ 0 ∷ []) ∷  -- field'
    (115 ∷ 9 ∷ 3 ∷ 0 ∷ 0 ∷ 0 ∷ []) ∷  -- set_field
    (9 ∷ 16 ∷ 3 ∷ 0 ∷ 0 ∷ 0 ∷ []) ∷  -- get_put
    (9 ∷ 35 ∷ 3 ∷ 0 ∷ 0 ∷ 0 ∷ []) ∷  -- lock
    []

-- a row's numbers, six with zeros at the end
unfoldable pub codes : ℕ → List ℕ
codes r = get_or (part_codes ++ stmt_codes) r []

-- six numbers in one, in base 256, the first lowest
abbrev pub joined : (a b c d e f : ℕ) → ℕ
joined a b c d e f = a + 256 * (b + 256 * (c + 256 * (d + 256 * (e + 256 * f))))

-- a row of numbers in one
abbrev pub pack : List ℕ → ℕ
pack f = joined (get_or f 0 0) (get_or f 1 0) (get_or f 2 0) (get_or f 3 0) (get_or f 4 0) (get_or f 5 0)

-- fields in one number, the next lowest; the first argument bounds how many there are
unfoldable pub unpack : ℕ → ℕ → Sorts
unpack zero x = nil
unpack (suc k) zero = nil
unpack (suc k) (suc x) = sort_at (suc x % 256) & unpack k (suc x / 256)

-- the fields of a row that is one number
abbrev pub sorts_of : ℕ → Sorts
sorts_of x = unpack x x

-- the numbers say what the definition of each kind says
pub decoded : map decode (part_codes ++ stmt_codes) ≡ all_rows
unfolding decode part_codes stmt_codes all_rows parts sorts kinds sort_at singles row_of
decoded = refl

-- and so do the rows in one number each
pub unpacked : map (λ (l : List ℕ). sorts_of (pack l)) (part_codes ++ stmt_codes) ≡ all_rows
unfolding unpack part_codes stmt_codes all_rows parts sorts kinds sort_at singles row_of
unpacked = refl
