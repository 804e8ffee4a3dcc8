-- What collecting reads of a statement, with the Rust's names (parser.rs), and the walk over all statements. E stands for an expression.
use Rattle.std.specs.Prelude.{ℕ, ◌+◌, Bool, List, [], ◌∷◌, eqb}
use Rattle.std.proofs.Math.Option.{Option, none as absent, some}
use Rattle.tree_stmt.specs.Sorts.{expr, many, Sorts, nil, ◌&◌, flag, opt, exprs, body, TypeRef as TypeSort, LValue as LValueRow, Declarator as DeclaratorRow, Param as ParamRow, ScopeItem as ScopeRow, FieldDecl as FieldRow, Kind, sorts, label, label_name, let', print, input, line_input, if, for, while, do_loop, goto, gosub, return, on_goto, on_gosub, dim, declare, shared, static, redim, sub, function, call, mid_assign, swap, const, exit_loop, exit_proc, option_base, type_def, field_assign, data', read, def_type, beep, erase, raise_error, on_error, resume, locate, color, randomize, restore, cls, select_case, end', stop, open', close, width, field', set_field, get_put, lock}
use Rattle.tree_stmt.specs.Tree.{Shape, one, row, rows, Tree, word, value, Stmt, list, part, this, that, done, cons, none, more}

-- ---- the Rust's enum and structs, as far as collecting reads them (of LValue not `fields`). As sorts they stand in tree_stmt/specs/Sorts.antt

-- a type
pub data TypeRef : Type 0 where
  Integer Long Single Double : TypeRef
  FixedString Record : ℕ → TypeRef

-- a type in a row of the table: its head's kind, 40 to 45, and its argument, 0 if it has none; an absent one is 0 and 0
abbrev pub head : TypeRef → ℕ
head Integer = 40
head Long = 41
head Single = 42
head Double = 43
head (FixedString n) = 44
head (Record x) = 45

-- the argument: the length of a fixed string, the name of a record
abbrev pub arg : TypeRef → ℕ
arg Integer = 0
arg Long = 0
arg Single = 0
arg Double = 0
arg (FixedString n) = n
arg (Record x) = x

-- the head's kind, where there is a type
abbrev pub head_of : Option TypeRef → ℕ
head_of absent = 0
head_of (some t) = head t

-- its argument, where there is one
abbrev pub arg_of : Option TypeRef → ℕ
arg_of absent = 0
arg_of (some t) = arg t

-- a target
pub record LValue (E : Type 0) : Type 0 where
  pub name : ℕ
  pub indices : Option (List E)

-- what DIM and REDIM declare
pub record Declarator (E : Type 0) : Type 0 where
  pub name : ℕ
  pub dimensions : Option (List E)
  pub lowers : List (Option E)
  pub ty : Option TypeRef

-- a parameter
pub record Param : Type 0 where
  pub name : ℕ
  pub byval : Bool
  pub array : Bool
  pub ty : Option TypeRef

-- what SHARED and STATIC name
pub record ScopeItem : Type 0 where
  pub name : ℕ
  pub array : Bool
  pub ty : Option TypeRef

-- a field of a TYPE
pub record FieldDecl : Type 0 where
  pub name : ℕ
  pub ty : TypeRef

module _ {E : Type 0} where
  -- ---- an option, a list, a flag

  -- what f gives of an option's row, where it is present
  unfoldable pub optional : {A : Type 0} {ss : Sorts} → (Tree E (row ss) → A) → Tree E (one (opt ss)) → Option A
  optional f (this r) = absent
  optional f (that (part r)) = some (f r)

  -- a list's rows of fields, each by f (`rows_of` of rows_table/specs/Rows.antt is rows of the table)
  unfoldable pub rows_of : {A : Type 0} {ss : Sorts} → (Tree E (row ss) → A) → Tree E (rows ss) → List A
  rows_of f none = []
  rows_of f (more r rs) = f r ∷ rows_of f rs

  -- the same of a whole list (`items` of collect_definition/specs/Collect.antt is the statement SHARED or STATIC)
  unfoldable pub items : {A : Type 0} {ss : Sorts} → (Tree E (row ss) → A) → Tree E (one (many ss)) → List A
  items f (list rs) = rows_of f rs

  -- a flag that is 1
  unfoldable pub is_set : Tree E (one flag) → Bool
  is_set (word x) = eqb x 1

  -- ---- the Rust's structs

  -- a `TypeRef` by its head's place among the choices
  unfoldable pub type_ref : Tree E (one TypeSort) → TypeRef
  type_ref (this r) = Integer  -- 40
  type_ref (that (this r)) = Long  -- 41
  type_ref (that (that (this r))) = Single  -- 42
  type_ref (that (that (that (this r)))) = Double  -- 43
  type_ref (that (that (that (that (this (cons (word n) done)))))) = FixedString n  -- 44
  type_ref (that (that (that (that (that (this (cons (word x) done))))))) = Record x  -- 45
  type_ref (that (that (that (that (that (that x)))))) = elim x [ ]  -- no other

  -- the type that is a row's one field
  unfoldable pub as_type : Tree E (row (TypeSort & nil)) → TypeRef
  as_type (cons t done) = type_ref t

  -- the expression that is a row's one field
  unfoldable pub expression : Tree E (row (expr & nil)) → E
  expression (cons (value e) done) = e

  -- those of a list that is a row's one field
  unfoldable pub expressions : Tree E (row (exprs & nil)) → List E
  expressions (cons es done) = items expression es

  -- a lower bound, where there is one
  unfoldable pub lower : Tree E (row (opt (expr & nil) & nil)) → Option E
  lower (cons e done) = optional expression e

  -- an `LValue`
  unfoldable pub lvalue : Tree E (row LValueRow) → LValue E
  lvalue (cons (word x) (cons is (cons fs done))) = record { name = x; indices = optional expressions is }

  -- a `Declarator`
  unfoldable pub declarator : Tree E (row DeclaratorRow) → Declarator E
  declarator (cons (word x) (cons ds (cons ls (cons t done)))) =
      record { name = x; dimensions = optional expressions ds; lowers = items lower ls; ty = optional as_type t }

  -- a `Param`
  unfoldable pub param : Tree E (row ParamRow) → Param
  param (cons (word x) (cons v (cons a (cons t done)))) = record { name = x; byval = is_set v; array = is_set a; ty = optional as_type t }

  -- a `ScopeItem`
  unfoldable pub scope_item : Tree E (row ScopeRow) → ScopeItem
  scope_item (cons (word x) (cons a (cons t done))) = record { name = x; array = is_set a; ty = optional as_type t }

  -- a `FieldDecl`
  unfoldable pub field_decl : Tree E (row FieldRow) → FieldDecl
  field_decl (cons (word x) (cons t done)) = record { name = x; ty = type_ref t }

-- ---- a statement as collecting sees it: the kinds of its match (sema.rs), all others being `Other`

-- what a statement shows
pub data View (E : Type 0) : Type 0 where
  Label LabelName OptionBase : ℕ → View E
  TypeDef : (name : ℕ) → List FieldDecl → View E
  Const : (name : ℕ) → E → View E
  Shared Static : List ScopeItem → View E
  Dim : List (Declarator E) → (shared : Bool) → View E
  Redim : List (Declarator E) → (preserve : Bool) → View E
  Sub : (name : ℕ) → List Param → Tree E (one body) → (is_static : Bool) → View E
  Function : (name : ℕ) → List Param → (ret_ty : Option TypeRef) → Tree E (one body) → (is_static def_fn : Bool) → View E
  Other : View E

-- the fields of a row stand in the order of `sorts`
unfoldable pub view : {E : Type 0} (k : Kind) → Tree E (row (sorts k)) → View E
unfolding sorts
view label (cons (word n) done) = Label n
view label_name (cons (word x) done) = LabelName x
view let' r = Other
view print r = Other
view input r = Other
view line_input r = Other
view if r = Other
view for r = Other
view while r = Other
view do_loop r = Other
view goto r = Other
view gosub r = Other
view return r = Other
view on_goto r = Other
view on_gosub r = Other
view dim (cons ds (cons s done)) = Dim (items declarator ds) (is_set s)
view declare r = Other
view shared (cons is done) = Shared (items scope_item is)
view static (cons is done) = Static (items scope_item is)
view redim (cons ds (cons p done)) = Redim (items declarator ds) (is_set p)
view sub (cons (word x) (cons ps (cons b (cons s done)))) = Sub x (items param ps) b (is_set s)
view function (cons (word x) (cons ps (cons t (cons b (cons s (cons d done)))))) = Function x (items param ps) (optional as_type t) b (is_set s) (is_set d)
view call r = Other
view mid_assign r = Other
view swap r = Other
view const (cons (word x) (cons (value e) done)) = Const x e
view exit_loop r = Other
view exit_proc r = Other
view option_base (cons (word n) done) = OptionBase n
view type_def (cons (word x) (cons fs done)) = TypeDef x (items field_decl fs)
view field_assign r = Other
view data' r = Other
view read r = Other
view def_type r = Other
view beep r = Other
view erase r = Other
view raise_error r = Other
view on_error r = Other
view resume r = Other
view locate r = Other
view color r = Other
view randomize r = Other
view restore r = Other
view cls r = Other
view select_case r = Other
view end' r = Other
view stop r = Other
view open' r = Other
view close r = Other
view width r = Other
view field' r = Other
view set_field r = Other
view get_put r = Other
view lock r = Other

-- the scope of a statement's bodies: a procedure's own, else the one it stands in. 0 is the module's, else the procedure's string number plus 1.
-- (`inner` of base_strings/specs/Name.antt is a test of bytes.)
unfoldable pub inner : {E : Type 0} → ℕ → View E → ℕ
inner scope (Label n) = scope
inner scope (LabelName x) = scope
inner scope (OptionBase n) = scope
inner scope (TypeDef x fs) = scope
inner scope (Const x e) = scope
inner scope (Shared is) = scope
inner scope (Static is) = scope
inner scope (Dim ds s) = scope
inner scope (Redim ds p) = scope
inner scope (Sub x ps b s) = x + 1
inner scope (Function x ps t b s d) = x + 1
inner scope Other = scope

-- every statement with its scope and line, each before those of its bodies (`child_bodies`), which stand in the words' order. `at` says what a statement does
unfoldable pub walk : {E R : Type 0} {i : Shape} → (at : ℕ → ℕ → View E → R → R) → (scope : ℕ) → Tree E i → R → R
walk at scope (word x) s = s
walk at scope (value e) s = s
walk at scope (Stmt k line r) s = walk at (inner scope (view k r)) r (at scope line (view k r) s)
walk at scope (list rs) s = walk at scope rs s
walk at scope (part r) s = walk at scope r s
walk at scope (this r) s = walk at scope r s
walk at scope (that v) s = walk at scope v s
walk at scope done s = s
walk at scope (cons v r) s = walk at scope r (walk at scope v s)
walk at scope none s = s
walk at scope (more r rs) s = walk at scope rs (walk at scope r s)
