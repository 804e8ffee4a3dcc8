-- The lines of a diagnostic: the texts that `collect`, `check_variable_length_strings` and `check_name_collisions` pass to `error` and
-- `error_with_note` in sema.rs, by their codes. These are definitions.
use Rattle.std.specs.Prelude.{ℕ, ◌-◌, List, [], ◌∷◌, ◌++◌, eqb, take, drop, get_or}
use Prim.Native.String.{String}
use Rattle.base_words.specs.Word.{pick}
use Rattle.base_text.specs.Text.{ascii, decimal}
use Rattle.list_message.specs.declared.Diag.{Diag}

-- a message, or a message and its note
pub data Template : Type 0 where
  error : String → Template
  error_with_note : String → String → Template

-- The template of each code; there is no code 0. In it @ and & stand for the first and the second name, # for the number, % for the
-- plural's s, $ for SHARED or STATIC and ! for SUB or FUNCTION as the number says, ^ for the note's line.
unfoldable pub templates : List Template
templates =
    error "" ∷
    -- 1, 2: duplicate line, label
    error "duplicate line number #" ∷
    error "duplicate label '@'" ∷
    -- 3 to 7: TYPE
    error_with_note "TYPE '@' is already defined" "previous definition is on line ^" ∷
    error "TYPE '@' must be defined at module level" ∷
    error "field '@' is declared twice in TYPE '&'" ∷
    error "TYPE '@' cannot contain itself" ∷
    error "field '@' uses undefined TYPE '&'" ∷
    -- 8, 9: OPTION BASE
    error "OPTION BASE may appear only once" ∷
    error "OPTION BASE must come before any DIM" ∷
    -- 10 to 12: CONST
    error "'@' is already defined" ∷
    error "Overflow: CONST '@' does not fit its type" ∷
    error "CONST '@' must have a constant value" ∷
    -- 13: SHARED, STATIC
    error "$ belongs inside a SUB or FUNCTION" ∷
    -- 14 to 21: DIM, REDIM; 15 is FUNCTION's too
    error "DIM SHARED belongs at module level; inside a procedure, use SHARED" ∷
    error "'@' is declared AS a different type than its name's suffix" ∷
    error "undefined TYPE '@'" ∷
    error "'@' is already declared" ∷
    error "array '@' needs at least one dimension" ∷
    error "array '@' is already declared" ∷
    error "REDIM PRESERVE of '@' must keep its # dimension%; only the last one's upper bound may change" ∷
    error "REDIM of '@' must keep its # dimension%" ∷
    -- 22 to 26: SUB, FUNCTION
    error_with_note "parameter '@' of '&' is declared AS STRING * #, but a parameter must be a variable-length string" "declare it @ AS STRING" ∷
    error_with_note "the result of '@' is declared AS STRING * #, but a FUNCTION's result must be a variable-length string" "declare it AS STRING" ∷
    error "'@' cannot be defined inside another procedure" ∷
    error_with_note "'@' is already defined" "previous definition is on line ^" ∷
    error "parameter '@' uses undefined TYPE '&'" ∷
    -- 27, 28: collisions
    error_with_note "'@' is declared both as an array and as a !" "the ! is on line ^" ∷
    error "'@' is the name of a built-in function and cannot also be an array" ∷
    []

-- string k - 1 of the table, and nothing for 0
unfoldable pub name : List ℕ → List ℕ → ℕ → List ℕ
name bytes ends k = take (get_or (0 ∷ ends) k 0 - get_or (0 ∷ ends) (k - 1) 0) (drop (get_or (0 ∷ ends) (k - 1) 0) bytes)

-- the first text where the number is 1, else the second (`either` of tree_stmt/specs/Sorts.antt is a choice of variants)
unfoldable pub either : String → String → ℕ → List ℕ
either one other n = pick (eqb n 1) (ascii one) (ascii other)

-- what a byte of a template stands for
unfoldable pub piece : List ℕ → List ℕ → Diag → ℕ → List ℕ
piece bytes ends d b =
    pick (eqb b 64) (name bytes ends d.first)  -- @
    (pick (eqb b 38) (name bytes ends d.second)  -- &
    (pick (eqb b 35) (decimal d.number)  -- #
    (pick (eqb b 37) (either "" "s" d.number)  -- %
    (pick (eqb b 36) (either "STATIC" "SHARED" d.number)  -- $
    (pick (eqb b 33) (either "FUNCTION" "SUB" d.number)  -- !
    (pick (eqb b 94) (decimal d.note)  -- ^
    (b ∷ [])))))))  -- itself

-- a template with all that its bytes stand for
unfoldable pub render : List ℕ → List ℕ → Diag → List ℕ → List ℕ
render bytes ends d [] = []
render bytes ends d (b ∷ bs) = piece bytes ends d b ++ render bytes ends d bs

-- `D line message`, `N note`
unfoldable pub message_line : List ℕ → List ℕ → Diag → String → List ℕ
message_line bytes ends d m = ascii "D " ++ (decimal d.line ++ (ascii " " ++ (render bytes ends d (ascii m) ++ ascii "\n")))

-- the note alone, without a line number
unfoldable pub note_line : List ℕ → List ℕ → Diag → String → List ℕ
note_line bytes ends d n = ascii "N " ++ (render bytes ends d (ascii n) ++ ascii "\n")

-- the line of a message, and that of its note where it has one
unfoldable pub said : List ℕ → List ℕ → Diag → Template → List ℕ
said bytes ends d (error m) = message_line bytes ends d m
said bytes ends d (error_with_note m n) = message_line bytes ends d m ++ note_line bytes ends d n

-- a diagnostic's lines, under the strings that its names are numbers of; no code is past 28
unfoldable pub lines : List ℕ → List ℕ → Diag → List ℕ
lines bytes ends d = said bytes ends d (get_or templates d.code (error ""))
