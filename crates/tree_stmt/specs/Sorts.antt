-- What a field may be, and the fields of each statement kind, in order.
use Rattle.std.specs.Prelude.{ℕ, List, [], ◌∷◌, get_or}

infixr 50 ◌&◌
-- one plain word: the number of a name, of any string, or a mark of a kind with a payload from a to below b
pub data Leaf : Type 0 where
  name text : Leaf
  mark : (kind from below : ℕ) → Leaf

mutual
  -- the sort of a field
  pub data Sort : Type 0 where
    leaf : Leaf → Sort
    expr stmt : Sort
    -- a list: its count, then so many rows
    many : Sorts → Sort
    -- a struct: the row alone
    group : Sorts → Sort
    -- the word of that kind with payload 0 and then a row, or else another sort: a choice of variants is a chain of these that ends in `never`.
    -- (`either` of list_message/specs/Message.antt picks a text.)
    either : ℕ → Sorts → Sort → Sort
    -- no word is right
    never : Sort

  -- those of a row of fields
  pub data Sorts : Type 0 where
    nil : Sorts
    ◌&◌ : Sort → Sorts → Sorts

-- a bool
abbrev pub flag : Sort
flag = leaf (mark 3 0 2)  -- kind 3, 0 or 1: bool

-- an integer that is not negative
abbrev pub whole : Sort
whole = leaf (mark 4 0 16777216)  -- kind 4: any other integer

-- a char from A to Z
abbrev pub letter : Sort
letter = leaf (mark 7 65 91)  -- kind 7, A to Z: char

-- an enum without data, of n variants: kind 9, its position. DataType has 5, FileMode 4, BinaryOp 18
abbrev pub one_of : ℕ → Sort
one_of n = leaf (mark 9 0 n)

-- a String that is a name, and any other
abbrev pub named : Sort
named = leaf name

-- any string
abbrev pub quoted : Sort
quoted = leaf text

-- an absent one is the word 0, a present one has no mark
abbrev pub opt : Sorts → Sort
opt ss = either 0 nil (group ss)

-- Vec<Expr>, Vec<Stmt>
abbrev pub exprs : Sort
exprs = many (expr & nil)

-- a list of statements
abbrev pub body : Sort
body = many (stmt & nil)

-- ---- the Rust's enums with data: their variants and heads, then what follows each head

-- 48 Line, 49 Label
abbrev pub GotoTarget : Sort
GotoTarget = either 48 (whole & nil) (either 49 (named & nil) never)

-- 40 Integer, 41 Long, 42 Single, 43 Double, 44 FixedString with its length, 45 Record with its name
abbrev pub TypeRef : Sort
TypeRef = either 40 nil (either 41 nil (either 42 nil (either 43 nil (either 44 (whole & nil) (either 45 (named & nil) never)))))

-- 32 Expr, 33 Tab, 34 Empty
abbrev pub PrintItem : Sort
PrintItem = either 32 (expr & nil) (either 33 nil (either 34 nil never))

-- 36 Value, 37 Range, 38 Compare with a BinaryOp
abbrev pub CaseClause : Sort
CaseClause = either 36 (expr & nil) (either 37 (expr & expr & nil) (either 38 (one_of 18 & expr & nil) never))

-- 52 Same, 53 Next, 54 At
abbrev pub ResumeTarget : Sort
ResumeTarget = either 52 nil (either 53 nil (either 54 (GotoTarget & nil) never))

-- ---- the Rust's structs: after each its fields' names in order

-- what may be assigned to: a variable, an array's element, a record's field
abbrev pub LValue : Sorts
LValue = named & opt (exprs & nil) & many (named & nil) & nil  -- name, indices, fields

-- what DIM and REDIM declare
abbrev pub Declarator : Sorts
Declarator = named & opt (exprs & nil) & many (opt (expr & nil) & nil) & opt (TypeRef & nil) & nil  -- name, dimensions, lowers, ty

-- a procedure's parameter
abbrev pub Param : Sorts
Param = named & flag & flag & opt (TypeRef & nil) & nil  -- name, byval, array, ty

-- what SHARED and STATIC name
abbrev pub ScopeItem : Sorts
ScopeItem = named & flag & opt (TypeRef & nil) & nil  -- name, array, ty

-- a field of a TYPE
abbrev pub FieldDecl : Sorts
FieldDecl = named & TypeRef & nil  -- name, ty

-- a slice of FIELD
abbrev pub FieldSlice : Sorts
FieldSlice = expr & group LValue & nil  -- width, target

-- an item of DATA
abbrev pub DataItem : Sorts
DataItem = quoted & flag & nil  -- text, quoted

-- a pair of SelectCase's `cases`
abbrev pub Case : Sorts
Case = opt (many (CaseClause & nil) & nil) & body & nil  -- (clauses, absent for CASE ELSE), (body)

-- the 54 variants of `StmtKind` in order; a ' has no meaning of its own
pub data Kind : Type 0 where
  label label_name let' print input line_input if for while do_loop goto gosub return on_goto on_gosub dim declare shared static redim sub function call mid_assign swap const exit_loop exit_proc option_base type_def field_assign data' read def_type beep erase raise_error on_error resume locate color randomize restore cls select_case end' stop open' close width field' set_field get_put lock : Kind

-- the fields of each kind: after each the Rust's names in order, in parentheses where the Rust gives none
unfoldable pub sorts : Kind → Sorts
sorts label = whole & nil  -- (line number)
sorts label_name = named & nil  -- (label)
sorts let' = named & opt (exprs & nil) & expr & nil  -- name, indices, value
sorts print = opt (expr & nil) & many (PrintItem & nil) & flag & opt (expr & nil) & flag & nil  -- file_num, items, newline, using, write
sorts input = opt (quoted & nil) & flag & many LValue & opt (expr & nil) & nil  -- prompt, query, vars, file_num
sorts line_input = opt (quoted & nil) & group LValue & opt (expr & nil) & nil  -- prompt, var, file_num
sorts if = expr & body & opt (body & nil) & nil  -- condition, then_branch, else_branch
sorts for = named & expr & expr & opt (expr & nil) & body & nil  -- var, start, end, step, body
sorts while = expr & body & nil  -- condition, body
sorts do_loop = opt (expr & nil) & flag & flag & body & nil  -- condition, cond_at_start, is_until, body
sorts goto = GotoTarget & nil  -- (target)
sorts gosub = GotoTarget & nil  -- (target)
sorts return = opt (GotoTarget & nil) & nil  -- (target)
sorts on_goto = expr & many (GotoTarget & nil) & nil  -- expr, targets
sorts on_gosub = expr & many (GotoTarget & nil) & nil  -- expr, targets
sorts dim = many Declarator & flag & nil  -- decls, shared
sorts declare = named & flag & many Param & opt (TypeRef & nil) & nil  -- name, is_function, params, ret_ty
sorts shared = many ScopeItem & nil  -- (items)
sorts static = many ScopeItem & nil  -- (items)
sorts redim = many Declarator & flag & nil  -- decls, preserve
sorts sub = named & many Param & body & flag & nil  -- name, params, body, is_static
sorts function = named & many Param & opt (TypeRef & nil) & body & flag & flag & nil  -- name, params, ret_ty, body, is_static, def_fn
sorts call = named & exprs & nil  -- name, args
sorts mid_assign = group LValue & expr & opt (expr & nil) & expr & nil  -- target, start, len, value
sorts swap = group LValue & group LValue & nil  -- (one), (other)
sorts const = named & expr & nil  -- name, value
sorts exit_loop = flag & nil  -- is_for
sorts exit_proc = nil
sorts option_base = whole & nil  -- (value)
sorts type_def = named & many FieldDecl & nil  -- name, fields
sorts field_assign = group LValue & expr & nil  -- target, value
sorts data' = many DataItem & nil  -- (items)
sorts read = many LValue & nil  -- (targets)
sorts def_type = one_of 5 & many (letter & letter & nil) & nil  -- ty, ranges
sorts beep = nil
sorts erase = many (named & nil) & nil  -- (names)
sorts raise_error = expr & nil  -- (number)
sorts on_error = opt (GotoTarget & nil) & nil  -- (target)
sorts resume = ResumeTarget & nil  -- (target)
sorts locate = opt (expr & nil) & opt (expr & nil) & nil  -- row, col
sorts color = opt (expr & nil) & opt (expr & nil) & nil  -- fg, bg
sorts randomize = opt (expr & nil) & nil  -- (seed)
sorts restore = opt (GotoTarget & nil) & nil  -- (target)
sorts cls = nil
sorts select_case = expr & many Case & nil  -- expr, cases
sorts end' = nil
sorts stop = nil
sorts open' = expr & one_of 4 & expr & opt (expr & nil) & nil  -- filename, mode, file_num, reclen
sorts close = exprs & nil  -- (file numbers)
sorts width = opt (expr & nil) & expr & nil  -- file_num, width
sorts field' = expr & many FieldSlice & nil  -- file_num, fields
sorts set_field = group LValue & expr & flag & nil  -- target, value, right
sorts get_put = expr & opt (expr & nil) & flag & nil  -- file_num, record, is_put
sorts lock = expr & opt (expr & opt (expr & nil) & nil) & flag & nil  -- file_num, range, is_unlock

-- the kinds in order: the statement of the kind 64 + i is the i-th
unfoldable pub kinds : List Kind
kinds = label ∷ label_name ∷ let' ∷ print ∷ input ∷ line_input ∷ if ∷ for ∷ while ∷ do_loop ∷ goto ∷ gosub ∷ return ∷ on_goto ∷ on_gosub ∷ dim ∷ declare ∷ shared ∷ static ∷ redim ∷ sub ∷ function ∷ call ∷ mid_assign ∷ swap ∷ const ∷ exit_loop ∷ exit_proc ∷ option_base ∷ type_def ∷ field_assign ∷ data' ∷ read ∷ def_type ∷ beep ∷ erase ∷ raise_error ∷ on_error ∷ resume ∷ locate ∷ color ∷ randomize ∷ restore ∷ cls ∷ select_case ∷ end' ∷ stop ∷ open' ∷ close ∷ width ∷ field' ∷ set_field ∷ get_put ∷ lock ∷ []

-- a number past the last is never asked for: `stmt_head` (Reader.antt) lets the kinds 64 to 117 through
unfoldable pub kind_at : ℕ → Kind
kind_at row = get_or kinds row lock

-- and its place among them (`number_of` of base_words/specs/Refusals.antt is a refusal's number)
unfoldable pub number_of : Kind → ℕ
number_of label = 0
number_of label_name = 1
number_of let' = 2
number_of print = 3
number_of input = 4
number_of line_input = 5
number_of if = 6
number_of for = 7
number_of while = 8
number_of do_loop = 9
number_of goto = 10
number_of gosub = 11
number_of return = 12
number_of on_goto = 13
number_of on_gosub = 14
number_of dim = 15
number_of declare = 16
number_of shared = 17
number_of static = 18
number_of redim = 19
number_of sub = 20
number_of function = 21
number_of call = 22
number_of mid_assign = 23
number_of swap = 24
number_of const = 25
number_of exit_loop = 26
number_of exit_proc = 27
number_of option_base = 28
number_of type_def = 29
number_of field_assign = 30
number_of data' = 31
number_of read = 32
number_of def_type = 33
number_of beep = 34
number_of erase = 35
number_of raise_error = 36
number_of on_error = 37
number_of resume = 38
number_of locate = 39
number_of color = 40
number_of randomize = 41
number_of restore = 42
number_of cls = 43
number_of select_case = 44
number_of end' = 45
number_of stop = 46
number_of open' = 47
number_of close = 48
number_of width = 49
number_of field' = 50
number_of set_field = 51
number_of get_put = 52
number_of lock = 53
