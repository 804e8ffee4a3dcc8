-- `collect` and `check_name_collisions` of sema.rs: one definition for each arm of the match, in its order, then the walk that goes through the bodies.
-- An expression is only `Seen`; a string is its number; on names all the Rust's case folding is identity. `notes` are the diagnostics.
-- The kinds of rows, whose words rows_kinds/specs/Kinds.antt lists: 128 line number, 129 label, 130 TYPE, 131 field, 132 CONST, 133 array,
-- 134 typed variable, 135 procedure, 136 parameter, 137 DIM SHARED, 138 SHARED item, 139 STATIC item, 140 STATIC procedure, 141 DEF FN,
-- 142 unranked array parameter, 143 OPTION BASE seen.
use Rattle.std.specs.Prelude.{ℕ, ◌+◌, ◌%◌, Bool, true, false, ◌&&◌, ◌||◌, not, List, [], ◌∷◌, ◌++◌, eqb, leb, length, get_or, Ok, Err}
use Rattle.std.proofs.Math.Option.{Option, none, some}
use Rattle.base_words.specs.Word.{kind_of, pay_of, pick}
use Rattle.base_strings.specs.Name.{suffix}
use Rattle.base_strings.specs.Table.{string_at}
use Rattle.tree_expr.specs.Expr.{Expr}
use Rattle.tree_stmt.specs.Sorts.{body}
use Rattle.tree_stmt.specs.Tree.{Shape, one, Tree, over}
use Rattle.tree_views.specs.View.{TypeRef, Integer, Long, Single, Double, FixedString, Record, head, arg, head_of, arg_of, Declarator, Param, ScopeItem, FieldDecl, View, Label, LabelName, OptionBase, TypeDef, Const, Shared, Static, Dim, Redim, Sub, Function, Other, walk}
use Rattle.fold_values.specs.declared.Value.{Value}
use Rattle.fold_values.specs.Value.{literal_kind, low_of, high_of, Fold}
use Rattle.rows_table.specs.Rows.{Row, find}
use Rattle.rows_kinds.specs.Kinds.{entry_key, row_word, has, line_row, label_row, type_row, field_row, const_row, array_row, typed_var_row, proc_row, param_row, dim_shared_row, shared_row, static_row, static_proc_row, def_fn_row, unranked_row, option_base_row, replace_type, replace_proc}
use Rattle.rows_lookup.specs.Lookup.{type_words, from_suffix, from_type_ref}
use Rattle.base_builtins.specs.Builtins.{is_some, is_builtin}
use Rattle.collect_subscript_count.specs.Subscripts.{subscript_count}
use Rattle.collect_buffers.specs.State.{State, running, Step, ◌⨾◌, nothing, when, asking, each, stop, change, enter, push}
use Rattle.collect_definition.specs.Diagnostics.{duplicate_line, duplicate_label, type_defined, type_inside, field_twice, contains_itself, field_undefined, option_base_twice, option_base_late, const_defined, const_overflow, not_constant, items_outside, dim_shared_inside, suffix_differs, undefined_type, declared_twice, no_dimension, array_twice, other_rank, fixed_param, fixed_result, proc_inside, proc_defined, param_undefined, array_and_proc, array_and_builtin}
use Rattle.collect_definition.specs.Seen.{Seen, see}
use Rattle.fold_values.specs.declared.Unfolded.TheVariants.{Overflow, NotConstant}

-- what is given beside the tree: the words that the lent buffers of rows and of diagnostics have (none: no limit), the bytes of each string,
-- the erased names
pub record Given : Type 0 where
  pub row_room : Option ℕ
  pub note_room : Option ℕ
  pub string : ℕ → List ℕ
  pub erased : List ℕ

-- the same from the lent strings
abbrev pub given : (rows notes : Option ℕ) (bytes ends erased : List ℕ) → Given
given rows notes bytes ends erased = record { row_room = rows; note_room = notes; string = λ n. string_at bytes ends n; erased = erased }

-- ---- questions

-- the last byte of a name
unfoldable pub last_of : List ℕ → ℕ
last_of [] = 0
last_of (b ∷ []) = b
last_of (b ∷ (c ∷ bs)) = last_of (c ∷ bs)

-- a number is in a list: `erased.contains(&key.1)`
unfoldable pub member : ℕ → List ℕ → Bool
member x [] = false
member x (y ∷ ys) = eqb y x || member x ys

-- `DataType::from_type_ref(ty) != DataType::from_suffix(name)`, where the name ends in a suffix
unfoldable pub disagrees : (last : ℕ) → TypeRef → Bool
disagrees last ty = suffix last && not (eqb (from_type_ref (head ty)) (from_suffix last))

-- a type that is a TYPE's name
abbrev pub is_record : TypeRef → Bool
is_record t = eqb (head t) 45  -- TypeRef::Record

-- some of the options is there: `lowers.iter().any(Option::is_some)`
unfoldable pub any_some : {A : Type 0} → List (Option A) → Bool
any_some [] = false
any_some (x ∷ xs) = is_some x || any_some xs

-- some array is declared, in whatever scope
unfoldable pub any_array : List Row → Bool
any_array [] = false
any_array (r ∷ rs) = eqb (kind_of (get_or r 0 0)) 133 || any_array rs  -- word 0: the kind

-- the length of a fixed string, else 0; width 0 is a plain string
unfoldable pub fixed_length : Option TypeRef → ℕ
fixed_length none = 0
fixed_length (some Integer) = 0
fixed_length (some Long) = 0
fixed_length (some Single) = 0
fixed_length (some Double) = 0
fixed_length (some (FixedString n)) = n
fixed_length (some (Record x)) = 0

-- `RecordInfo`: the kept fields in order, each with the word where it starts, and the words of all
pub record FieldInfo : Type 0 where
  pub name : ℕ
  pub word : ℕ
  pub ty : TypeRef

-- a TYPE: the fields that are kept, and the words of all
pub record RecordInfo : Type 0 where
  pub fields : List FieldInfo
  pub words : ℕ

-- `RecordInfo::field`
unfoldable pub has_field : ℕ → List FieldInfo → Bool
has_field name [] = false
has_field name (f ∷ fs) = eqb f.name name || has_field name fs

-- what is said of a field whose type can't stand in this TYPE; none where it can
unfoldable pub type_rejected : List Row → (line name field : ℕ) → TypeRef → Option Row
type_rejected rows line name field Integer = none
type_rejected rows line name field Long = none
type_rejected rows line name field Single = none
type_rejected rows line name field Double = none
type_rejected rows line name field (FixedString n) = none
type_rejected rows line name field (Record inner) =
    pick (eqb inner name) (some (contains_itself line name)) (pick (has rows 130 inner 0) none (some (field_undefined line field inner)))

-- what is said of a field that isn't kept; none where it is
unfoldable pub rejected : List Row → (line name : ℕ) → RecordInfo → FieldDecl → Option Row
rejected rows line name info f =
    pick (has_field f.name info.fields) (some (field_twice line f.name name)) (type_rejected rows line name f.name f.ty)

-- `info.fields.push(..)`, `info.words += words`
unfoldable pub with_field : List Row → RecordInfo → FieldDecl → RecordInfo
with_field rows info f =
    record {
      fields = info.fields ++ (record { name = f.name; word = info.words; ty = f.ty } ∷ []);
      words = info.words + type_words rows (head f.ty) (arg f.ty);
    }

-- a SUB or FUNCTION
pub record Proc : Type 0 where
  pub name : ℕ
  pub params : List Param
  pub ret_ty : Option TypeRef
  pub body : Tree Seen (one body)
  pub is_function : Bool
  pub is_static : Bool
  pub def_fn : Bool

-- ---- rows of a TYPE, a procedure, an item

-- the rows of fields, with ordinals from the given one on
unfoldable pub field_rows : (type ordinal : ℕ) → List FieldInfo → List Row
field_rows type i [] = []
field_rows type i (f ∷ fs) = field_row type i f.name f.word (head f.ty) (arg f.ty) ∷ field_rows type (i + 1) fs

-- the rows of parameters, the same
unfoldable pub param_rows : (proc ordinal : ℕ) → List Param → List Row
param_rows proc i [] = []
param_rows proc i (p ∷ ps) = param_row proc i p.name p.byval p.array (head_of p.ty) (arg_of p.ty) ∷ param_rows proc (i + 1) ps

-- `NameSets::insert`: the mark is 1 for a variable, 2 for an array, added up
unfoldable pub marked : (array : Bool) → ℕ → ℕ
marked true m = pick (leb 2 m) m (m + 2)
marked false m = pick (eqb (m % 2) 1) m (m + 1)

-- a folded constant's row
unfoldable pub const_of : ℕ → Value → Row
const_of name v = const_row name (literal_kind v) (low_of v) (high_of v)

module _ (G : Given) where
  -- `error` and `error_with_note`: the diagnostic is pushed
  abbrev pub error : Row → Step
  error = push G.note_room

  -- a row is entered
  abbrev pub entry : Row → Step
  entry = enter G.row_room

  -- the name has a suffix, and the type is another one than it says
  unfoldable pub differs : ℕ → TypeRef → Bool
  differs name ty = disagrees (last_of (G.string name)) ty

  -- `if let TypeRef::Record(r) = ty && !records.contains_key(r)`
  unfoldable pub undefined : TypeRef → (ℕ → Row) → Step
  undefined Integer d = nothing
  undefined Long d = nothing
  undefined Single d = nothing
  undefined Double d = nothing
  undefined (FixedString n) d = nothing
  undefined (Record r) d = asking (λ rows. when (not (has rows 130 r 0)) (error (d r)))

  -- ---- StmtKind::Label, StmtKind::LabelName

  -- a line number; a second one is entered too, and said: `insert(..).is_some()` is asked of the rows before
  unfoldable pub label : (scope line n : ℕ) → Step
  label scope line n =
      asking (λ rows.
      entry (line_row n scope)
      ⨾ when (has rows 128 n 0) (error (duplicate_line line n)))

  -- a label, the same
  unfoldable pub label_name : (scope line name : ℕ) → Step
  label_name scope line name =
      asking (λ rows.
      entry (label_row name scope)
      ⨾ when (has rows 129 name 0) (error (duplicate_label line name)))

  -- ---- StmtKind::TypeDef

  -- a field that isn't kept is said so, and skipped
  abbrev pub or_say : Option Row → (keep skip : Step) → Step
  or_say none keep skip = keep
  or_say (some d) keep skip = error d ⨾ skip

  -- the fields one by one, and then the TYPE with those that were kept; more than 65,535 words are number 9
  unfoldable pub fields : List Row → (line name : ℕ) → RecordInfo → List FieldDecl → Step
  fields rows line name info [] = change G.row_room (replace_type name (type_row name info.words line ∷ field_rows name 0 info.fields))
  fields rows line name info (f ∷ fs) =
      or_say (rejected rows line name info f)
      (pick (leb (with_field rows info f).words 65535) (fields rows line name (with_field rows info f) fs) (stop 9))
      (fields rows line name info fs)

  -- the whole TYPE, with what is said of its name and its place first
  unfoldable pub type_def : (scope line name : ℕ) → List FieldDecl → Step
  type_def scope line name fs =
      asking (λ rows. when (has rows 130 name 0) (error (type_defined line name (row_word 3 (find (entry_key 130 name 0) rows)))))  -- word 3: its line
      ⨾ when (not (eqb scope 0)) (error (type_inside line name))
      ⨾ asking (λ rows. fields rows line name (record { fields = []; words = 0 }) fs)

  -- ---- StmtKind::OptionBase, StmtKind::Const

  -- a second one, or one after an array, is said and still counts
  unfoldable pub option_base : (line n : ℕ) → Step
  option_base line n =
      asking (λ rows. pick (has rows 143 0 0) (error (option_base_twice line)) (when (any_array rows) (error (option_base_late line))))
      ⨾ entry (option_base_row n)

  -- a value is entered, a failure said
  unfoldable pub folded : (line name : ℕ) → Fold → Step
  folded line name (Ok v) = entry (const_of name v)
  folded line name (Err Overflow) = error (const_overflow line name)
  folded line name (Err NotConstant) = error (not_constant line name)

  -- a name that has a value is said; the new value counts, if there is one
  unfoldable pub const : (line name : ℕ) → Seen → Step
  const line name e =
      asking (λ rows. when (has rows 132 name 0) (error (const_defined line name)))
      ⨾ asking (λ rows. folded line name (e.folds_to rows))

  -- ---- StmtKind::Shared, StmtKind::Static

  -- word 2 of a row 138 or 139 is its mark, 0 where there is no such row
  unfoldable pub item : (static : Bool) → (scope : ℕ) → ScopeItem → Step
  item true scope i = asking (λ rows. entry (static_row i.name scope (marked i.array (row_word 2 (find (entry_key 139 i.name scope) rows)))))
  item false scope i = asking (λ rows. entry (shared_row i.name scope (marked i.array (row_word 2 (find (entry_key 138 i.name scope) rows)))))

  -- a typed variable
  unfoldable pub typed : (scope name : ℕ) → Option TypeRef → Step
  typed scope name none = nothing
  typed scope name (some ty) = entry (typed_var_row name scope (head ty) (arg ty))

  -- the type that a STATIC item declares, unless it is an array
  unfoldable pub item_type : (scope : ℕ) → ScopeItem → Step
  item_type scope i = when (not i.array) (typed scope i.name i.ty)

  -- the statement (`items` of tree_views/specs/View.antt goes through a list)
  unfoldable pub items : (static : Bool) → (scope line : ℕ) → List ScopeItem → Step
  items static scope line is =
      pick (eqb scope 0) (error (items_outside line static)) (
      each (item static scope) is
      ⨾ when static (each (item_type scope) is))

  -- ---- StmtKind::Dim, StmtKind::Redim

  -- the AS clause of a declarator
  unfoldable pub declared_as : (scope line : ℕ) (is_redim : Bool) (name : ℕ) → Option TypeRef → Step
  declared_as scope line is_redim name none = nothing
  declared_as scope line is_redim name (some ty) =
      when (not (is_record ty) && differs name ty) (error (suffix_differs line name))
      ⨾ undefined ty (λ (r : ℕ). undefined_type line r)
      ⨾ asking (λ rows. when (has rows 134 name scope && not is_redim) (error (declared_twice line name)))
      ⨾ entry (typed_var_row name scope (head ty) (arg ty))

  -- where an array of that name and scope was there: word 2 of its row is its rank, the number of dimensions
  unfoldable pub redeclared : (line : ℕ) (is_redim preserve : Bool) (name rank : ℕ) → Option Row → Step
  redeclared line is_redim preserve name rank none = nothing
  redeclared line is_redim preserve name rank (some prev) =
      pick (not is_redim && not (member name G.erased)) (error (array_twice line name)) (
      when (not (eqb (get_or prev 2 0) rank)) (error (other_rank preserve line name (get_or prev 2 0))))

  -- word 4 of a row 133 is `has_lower`
  unfoldable pub declared_array : {E : Type 0} (scope line : ℕ) (is_redim preserve : Bool) (name : ℕ) → List (Option E) → Option (List E) → Step
  declared_array scope line is_redim preserve name lowers none = nothing
  declared_array scope line is_redim preserve name lowers (some dims) =
      when (eqb (length dims) 0) (error (no_dimension line name))
      ⨾ asking (λ rows. redeclared line is_redim preserve name (length dims) (find (entry_key 133 name scope) rows))
      ⨾ asking (λ rows. entry (array_row name scope (length dims) line (any_some lowers || eqb (row_word 4 (find (entry_key 133 name scope) rows)) 1)))

  -- a declarator: its type, then its dimensions
  unfoldable pub declared : {E : Type 0} (scope line : ℕ) (is_redim preserve : Bool) → Declarator E → Step
  declared scope line is_redim preserve d =
      declared_as scope line is_redim d.name d.ty
      ⨾ declared_array scope line is_redim preserve d.name d.lowers d.dimensions

  -- its name, for all procedures
  unfoldable pub shared_all : {E : Type 0} → Declarator E → Step
  shared_all d = entry (dim_shared_row d.name (is_some d.dimensions))

  -- DIM SHARED of several, at module level alone
  unfoldable pub dim_shared : {E : Type 0} (scope line : ℕ) → List (Declarator E) → Step
  dim_shared scope line ds = pick (eqb scope 0) (each shared_all ds) (error (dim_shared_inside line))

  -- DIM
  unfoldable pub dim : {E : Type 0} (scope line : ℕ) → List (Declarator E) → (shared : Bool) → Step
  dim scope line ds shared = when shared (dim_shared scope line ds) ⨾ each (declared scope line false false) ds

  -- REDIM
  unfoldable pub redim : {E : Type 0} (scope line : ℕ) → List (Declarator E) → (preserve : Bool) → Step
  redim scope line ds preserve = each (declared scope line true preserve) ds

  -- ---- StmtKind::Sub, StmtKind::Function

  -- `check_variable_length_strings`
  unfoldable pub param_string : (line name : ℕ) → Param → Step
  param_string line name p = when (not (eqb (fixed_length p.ty) 0)) (error (fixed_param line p.name name (fixed_length p.ty)))

  -- the parameters in order, then the result
  unfoldable pub check_variable_length_strings : (line : ℕ) → Proc → Step
  check_variable_length_strings line f =
      each (param_string line f.name) f.params
      ⨾ when (not (eqb (fixed_length f.ret_ty) 0)) (error (fixed_result line f.name (fixed_length f.ret_ty)))

  -- a declared result type and a type suffix must agree
  unfoldable pub result_type : (line name : ℕ) → Option TypeRef → Step
  result_type line name none = nothing
  result_type line name (some ty) = when (differs name ty) (error (suffix_differs line name))

  -- an array parameter has as many dimensions as the body subscripts it with
  unfoldable pub ranked : (scope line name : ℕ) → Option ℕ → Step
  ranked scope line name (some rank) = entry (array_row name scope rank line true)
  ranked scope line name none = entry (array_row name scope 1 line true) ⨾ entry (unranked_row name scope)

  -- its rank is that of its first use in the body; `rank.unwrap_or(1)` is `ranked`
  unfoldable pub array_param : (scope line : ℕ) → Tree Seen (one body) → Param → Step
  array_param scope line b p = when p.array (ranked scope line p.name (subscript_count (λ name (e : Seen). e.use_under name) p.name b))

  -- a parameter with an AS clause is a typed variable inside the body
  unfoldable pub param_type : (scope line name : ℕ) → Option TypeRef → Step
  param_type scope line name none = nothing
  param_type scope line name (some ty) = undefined ty (λ (r : ℕ). param_undefined line name r) ⨾ entry (typed_var_row name scope (head ty) (arg ty))

  -- a parameter that is no array
  unfoldable pub typed_param : (scope line : ℕ) → Param → Step
  typed_param scope line p = when (not p.array) (param_type scope line p.name p.ty)

  -- a whole procedure, but for its body
  unfoldable pub procedure : (scope line : ℕ) → Proc → Step
  procedure scope line f =
      result_type line f.name f.ret_ty
      ⨾ check_variable_length_strings line f
      ⨾ when (not (eqb scope 0)) (error (proc_inside line f.name))
      ⨾ asking (λ rows. when (has rows 135 f.name 0) (error (proc_defined line f.name (row_word 3 (find (entry_key 135 f.name 0) rows)))))  -- word 3: its line
      ⨾ change G.row_room (replace_proc f.name (proc_row f.name f.is_function line (head_of f.ret_ty) (arg_of f.ret_ty) ∷ param_rows f.name 0 f.params))
      ⨾ when f.is_static (entry (static_proc_row f.name))
      ⨾ when f.def_fn (entry (def_fn_row f.name))
      ⨾ each (array_param (f.name + 1) line f.body) f.params
      ⨾ each (typed_param (f.name + 1) line) f.params

  -- ---- the match: what a statement does, but for its bodies

  -- by the statement's kind; all others do nothing
  unfoldable pub statement : (scope line : ℕ) → View Seen → Step
  statement scope line (Label n) = label scope line n
  statement scope line (LabelName name) = label_name scope line name
  statement scope line (TypeDef name fs) = type_def scope line name fs
  statement scope line (OptionBase n) = option_base line n
  statement scope line (Const name e) = const line name e
  statement scope line (Shared is) = items false scope line is
  statement scope line (Static is) = items true scope line is
  statement scope line (Dim ds shared) = dim scope line ds shared
  statement scope line (Redim ds preserve) = redim scope line ds preserve
  statement scope line (Sub name ps b is_static) =
      procedure scope line (record { name = name; params = ps; ret_ty = none; body = b; is_function = false; is_static = is_static; def_fn = false })
  statement scope line (Function name ps ret_ty b is_static def_fn) =
      procedure scope line (record { name = name; params = ps; ret_ty = ret_ty; body = b; is_function = true; is_static = is_static; def_fn = def_fn })
  statement scope line Other = nothing

  -- `collect`: each statement, then its bodies, those of a procedure in its own scope
  unfoldable pub collect : {i : Shape} → (scope : ℕ) → Tree Seen i → Step
  collect scope t = walk statement scope t

  -- ---- `check_name_collisions`: each array in row order, a procedure before a builtin

  -- an array whose name a procedure has, or else a builtin
  unfoldable pub collides : (line name : ℕ) → Option Row → Step
  collides line name (some proc) = error (array_and_proc line name (get_or proc 2 0) (get_or proc 3 0))  -- words 2 and 3: is function, line
  collides line name none = when (is_builtin (G.string name)) (error (array_and_builtin line name))

  -- a row, if it is an array's
  unfoldable pub collision : List Row → Row → Step
  collision rows r =
      let name = pay_of (get_or r 0 0) in  -- word 0: kind and name
      when (eqb (kind_of (get_or r 0 0)) 133) (collides (get_or r 3 0) name (find (entry_key 135 name 0) rows))  -- word 3: the array's line

  -- all rows in order
  unfoldable pub check_name_collisions : Step
  check_name_collisions = asking (λ rows. each (collision rows) rows)

  -- ---- a whole program, from empty tables

  -- its rows and diagnostics, or the number that stopped it
  unfoldable pub collected : {i : Shape} → Tree Expr i → State
  collected t = collect 0 (over see t) (running [] [])

  -- with the collisions, which come after all of `collect` (`analysed` of listing/specs/Listing.antt is the whole analysis of an image)
  unfoldable pub analysed : {i : Shape} → Tree Expr i → State
  analysed t = check_name_collisions (collected t)
