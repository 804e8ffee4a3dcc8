-- Trees of small programs, for worked examples. Names are string numbers; a flag is 0 or 1.
use Rattle.std.specs.Prelude.{ℕ, List, [], ◌∷◌}
use Rattle.std.proofs.Math.Option.{Option, none as absent, some}
use Rattle.tree_expr.specs.Expr.{Expr}
use Rattle.tree_stmt.specs.Sorts.{Sorts, nil, ◌&◌, stmt, expr, opt, exprs, TypeRef, LValue, Declarator, Param, ScopeItem, FieldDecl, sorts, label, label_name, let', dim, redim, shared, static, sub, function, const, option_base, type_def}
use Rattle.tree_stmt.specs.Tree.{Tree, one, row, rows, word, value, Stmt, list, part, this, that, done, cons, none, more, Program}

-- a statement's tree
abbrev pub Statement : Type 0
Statement = Tree Expr (one stmt)

-- ---- lists and options

-- the rows of a list
unfoldable pub rows_in : {ss : Sorts} → List (Tree Expr (row ss)) → Tree Expr (rows ss)
rows_in [] = none
rows_in (r ∷ rs) = more r (rows_in rs)

-- statements as rows
unfoldable pub stmt_rows : List Statement → Tree Expr (rows (stmt & nil))
stmt_rows [] = none
stmt_rows (s ∷ ss) = more (cons s done) (stmt_rows ss)

-- a program, or a body: a list of statements
unfoldable pub program : List Statement → Program
unfolding stmt_rows
program ss = list (stmt_rows ss)

-- expressions as rows
unfoldable pub expr_rows : List Expr → Tree Expr (rows (expr & nil))
expr_rows [] = none
expr_rows (e ∷ es) = more (cons (value e) done) (expr_rows es)

-- a list of subscripts, where there is one
unfoldable pub subscripts : Option (List Expr) → Tree Expr (one (opt (exprs & nil)))
unfolding expr_rows
subscripts absent = this done
subscripts (some es) = that (part (cons (list (expr_rows es)) done))

-- ---- types

-- a type, where there is one
abbrev pub Type' : Type 0
Type' = Tree Expr (one (opt (TypeRef & nil)))

-- no type
abbrev pub typeless : Type'
typeless = this done

-- INTEGER
abbrev pub integer : Tree Expr (one TypeRef)
integer = this done

-- STRING * n
abbrev pub string : ℕ → Tree Expr (one TypeRef)
string n = that (that (that (that (this (cons (word n) done)))))

-- the TYPE x
abbrev pub record' : ℕ → Tree Expr (one TypeRef)
record' x = that (that (that (that (that (this (cons (word x) done))))))

-- AS such a type
abbrev pub typed : Tree Expr (one TypeRef) → Type'
typed t = that (part (cons t done))

-- ---- structs

-- A(dims) AS type, without lower bounds and with one
unfoldable pub declarator : ℕ → Option (List Expr) → Type' → Tree Expr (row Declarator)
unfolding subscripts
declarator x dims t = cons (word x) (cons (subscripts dims) (cons (list none) (cons t done)))

-- A(low TO dims), one lower bound, without a type
unfoldable pub lowered : ℕ → Expr → List Expr → Tree Expr (row Declarator)
unfolding subscripts
lowered x low dims = cons (word x) (cons (subscripts (some dims)) (cons (list (more (cons (that (part (cons (value low) done))) done) none)) (cons typeless done)))

-- a parameter
abbrev pub param : (name byval array : ℕ) → Type' → Tree Expr (row Param)
param x v a t = cons (word x) (cons (word v) (cons (word a) (cons t done)))

-- an item of SHARED or STATIC
abbrev pub item : (name array : ℕ) → Type' → Tree Expr (row ScopeItem)
item x a t = cons (word x) (cons (word a) (cons t done))

-- a field of a TYPE
abbrev pub field : ℕ → Tree Expr (one TypeRef) → Tree Expr (row FieldDecl)
field x t = cons (word x) (cons t done)

-- a target of an assignment, with its indices where it has a list
unfoldable pub target : ℕ → Option (List Expr) → Tree Expr (row LValue)
unfolding subscripts
target x is = cons (word x) (cons (subscripts is) (cons (list none) done))

-- ---- statements, by their line

-- a line number
unfoldable pub label_s : (line n : ℕ) → Statement
unfolding sorts
label_s line n = Stmt label line (cons (word n) done)

-- a label
unfoldable pub label_name_s : (line name : ℕ) → Statement
unfolding sorts
label_name_s line x = Stmt label_name line (cons (word x) done)

-- LET, to a variable or an element
unfoldable pub let_s : (line name : ℕ) → Option (List Expr) → Expr → Statement
unfolding sorts subscripts
let_s line x is e = Stmt let' line (cons (word x) (cons (subscripts is) (cons (value e) done)))

-- DIM, or DIM SHARED
unfoldable pub dim_s : (line : ℕ) → List (Tree Expr (row Declarator)) → (shared : ℕ) → Statement
unfolding sorts rows_in
dim_s line ds s = Stmt dim line (cons (list (rows_in ds)) (cons (word s) done))

-- REDIM, or REDIM PRESERVE
unfoldable pub redim_s : (line : ℕ) → List (Tree Expr (row Declarator)) → (preserve : ℕ) → Statement
unfolding sorts rows_in
redim_s line ds p = Stmt redim line (cons (list (rows_in ds)) (cons (word p) done))

-- SHARED
unfoldable pub shared_s : (line : ℕ) → List (Tree Expr (row ScopeItem)) → Statement
unfolding sorts rows_in
shared_s line is = Stmt shared line (cons (list (rows_in is)) done)

-- STATIC
unfoldable pub static_s : (line : ℕ) → List (Tree Expr (row ScopeItem)) → Statement
unfolding sorts rows_in
static_s line is = Stmt static line (cons (list (rows_in is)) done)

-- CONST
unfoldable pub const_s : (line name : ℕ) → Expr → Statement
unfolding sorts
const_s line x e = Stmt const line (cons (word x) (cons (value e) done))

-- OPTION BASE
unfoldable pub option_base_s : (line n : ℕ) → Statement
unfolding sorts
option_base_s line n = Stmt option_base line (cons (word n) done)

-- TYPE
unfoldable pub type_s : (line name : ℕ) → List (Tree Expr (row FieldDecl)) → Statement
unfolding sorts rows_in
type_s line x fs = Stmt type_def line (cons (word x) (cons (list (rows_in fs)) done))

-- SUB, not STATIC
unfoldable pub sub_s : (line name : ℕ) → List (Tree Expr (row Param)) → List Statement → Statement
unfolding sorts rows_in program
sub_s line x ps ss = Stmt sub line (cons (word x) (cons (list (rows_in ps)) (cons (program ss) (cons (word 0) done))))

-- FUNCTION, not STATIC and no DEF FN
unfoldable pub function_s : (line name : ℕ) → List (Tree Expr (row Param)) → Type' → List Statement → Statement
unfolding sorts rows_in program
function_s line x ps t ss = Stmt function line (cons (word x) (cons (list (rows_in ps)) (cons t (cons (program ss) (cons (word 0) (cons (word 0) done))))))
