-- What the code of SUB and FUNCTION asks and promises, piece by piece. Definitions only.
use Rattle.std.specs.Prelude.{ℕ, ◌+◌, ◌*◌, ◌≤◌, ◌<◌, ◌≡◌, true, not, List, [], ◌∷◌, eqb, length, get_or}
use Rattle.std.proofs.Math.Option.{some}
use Rattle.base_words.specs.Word.{kind_of}
use Rattle.tree_expr.specs.Expr.{Expr}
use Rattle.tree_stmt.specs.Sorts.{Param as ParamRow, body as body_sort, Kind, sorts}
use Rattle.tree_stmt.specs.Tree.{one, row, rows, Tree, Stmt, count, over}
use Rattle.tree_stmt.specs.Stands.{Stands}
use Rattle.tree_views.specs.View.{Param, head_of, arg_of, param, rows_of, view}
use Rattle.rows_table.specs.Rows.{width, note_width, find}
use Rattle.rows_kinds.specs.Kinds.{entry_key, row_word, has, proc_row, static_proc_row, def_fn_row, replace_proc}
use Rattle.collect_buffers.specs.State.{Step, ◌⨾◌, when, asking, change}
use Rattle.collect_buffers.specs.declared.Counts.{Counts}
use Rattle.collect_buffers.specs.Held.{Fit, Sized, Does}
use Rattle.collect_definition.specs.Seen.{Seen, see}
use Rattle.collect_definition.specs.Diagnostics.{proc_inside, proc_defined}
use Rattle.collect_definition.specs.Collect.{Given, given, Proc, param_rows, error, entry, statement, procedure, result_type, check_variable_length_strings}
use Rattle.collect_definition.specs.Code.{StmtAt}
use Rattle.collect_as_clause.specs.Parts.{written_if, arg_word}
use Rattle.collect_procedure.specs.declared.read.ParamAt.{ParamAt}
use Rattle.collect_procedure.specs.declared.read.ProcAt.{ProcAt}

-- buffers of so many words, whatever the strings: no step but that of a result's type looks at one
abbrev pub plain : ℕ → ℕ → Given
plain N D = given (some N) (some D) [] [] []

-- a statement of the kind stands there, and ends at a place
pub record StmtTo (ns : List ℕ) (n : ℕ) (k : Kind) (ws : List ℕ) (at end : ℕ) : Type 0 where
  pub stmt : StmtAt ns n k ws at
  pub ends : stmt.end ≡ end

-- ---- what was read

-- a parameter
pub record ParamOf (r : ParamAt) (p : Param) : Type 0 where
  pub name : r.name ≡ p.name
  pub byval : r.byval ≡ p.byval
  pub array : r.array ≡ p.array
  pub ty : r.ty ≡ written_if p.ty

-- the parameter there, and the place past it
pub record ParamIs (ws : List ℕ) (at : ℕ) (r : ParamAt) : Type 0 where
  pub is : (ns : List ℕ) (n : ℕ) (v : Tree Expr (row ParamRow)) (end : ℕ) → Stands ws ns n at v end → ParamOf r (param v) × (r.next ≡ end)
  pub name_small : r.name < 16777216
  pub arg_small : arg_word r.ty < 16777216

-- the k parameters that stand from a place on
pub record ParamsAt (ws : List ℕ) (from k : ℕ) (ps : List Param) : Type 0 where
  pub names : List ℕ
  pub strings : ℕ
  pub tree : Tree Expr (rows ParamRow)
  pub end : ℕ
  pub stands : Stands ws names strings from tree end
  pub counted : count tree ≡ k
  pub are : rows_of param tree ≡ ps

-- some parameters stand there
pub record SomeParams (ws : List ℕ) (from k : ℕ) : Type 0 where
  pub params : List Param
  pub there : ParamsAt ws from k params

-- the body that stands from a place to another, as collecting sees it
pub record BodyAt (ws : List ℕ) (at end : ℕ) (b : Tree Seen (one body_sort)) : Type 0 where
  pub names : List ℕ
  pub strings : ℕ
  pub tree : Tree Expr (one body_sort)
  pub stands : Stands ws names strings at tree end
  pub is : over see tree ≡ b

-- some body does
pub record SomeBody (ws : List ℕ) (at end : ℕ) : Type 0 where
  pub body : Tree Seen (one body_sort)
  pub there : BodyAt ws at end body

-- between the two places no list stands right after the word w
abbrev pub Quiet : List ℕ → (from to w : ℕ) → Type 0
Quiet ws from to w = (i : ℕ) → from ≤ i → i + 1 < to → get_or ws i 0 ≡ w → kind_of (get_or ws (i + 1) 0) ≡ 1 → ⊥

-- a procedure
pub record ProcOf (ws : List ℕ) (r : ProcAt) (f : Proc) : Type 0 where
  pub name : r.name ≡ f.name
  pub params : ParamsAt ws r.params r.count f.params
  pub ty : r.ty ≡ written_if f.ret_ty
  pub body : BodyAt ws r.body r.past f.body
  pub function : r.function ≡ f.is_function
  pub static : r.keeps ≡ f.is_static
  pub def_fn : r.deffn ≡ f.def_fn

-- some procedure is as the code read it
pub record SomeProc (ws : List ℕ) (r : ProcAt) : Type 0 where
  pub proc : Proc
  pub of : ProcOf ws r proc

-- the statement is a procedure's, and that was read
pub record Shown (ws : List ℕ) (k : Kind) (r : ProcAt) (line : ℕ) (fields : Tree Expr (row (sorts k))) : Type 0 where
  pub proc : Proc
  pub is : (G : Given) (scope : ℕ) → statement G scope line (view k (over see fields)) ≡ procedure G scope line proc
  pub of : ProcOf ws r proc
  pub line_is : r.line ≡ line

-- what the code read is so of whatever statement stands there, and its name is a name's
pub record ProcIs (ns : List ℕ) (n : ℕ) (k : Kind) (ws : List ℕ) (at : ℕ) (r : ProcAt) : Type 0 where
  pub shows : (line : ℕ) (fields : Tree Expr (row (sorts k))) (end : ℕ) → Stands ws ns n at (Stmt k line fields) end → Shown ws k r line fields
  pub named : eqb (get_or ns r.name 0) 1 ≡ true

-- ---- what is done, of whatever was read

-- to the diagnostics, beside any rows
pub record Says {A : Type 0} (R : A → Type 0) (f : A → Sized) (s r : Counts) (d d' : List ℕ) : Type 0 where
  pub kept : r.rows ≡ s.rows
  pub fit : r.notes * note_width ≤ length d'
  pub does : (x : A) → R x → (b : List ℕ) → s.rows * width ≤ length b → Does (f x) s r b d b d'

-- to the rows, beside any diagnostics
pub record Enters {A : Type 0} (R : A → Type 0) (f : A → Sized) (s r : Counts) (b b' : List ℕ) : Type 0 where
  pub kept : r.notes ≡ s.notes
  pub fit : r.rows * width ≤ length b'
  pub does : (x : A) → R x → (d : List ℕ) → s.notes * note_width ≤ length d → Does (f x) s r b d b' d

-- to both
pub record Acts {A : Type 0} (R : A → Type 0) (f : A → Sized) (s r : Counts) (b d b' d' : List ℕ) : Type 0 where
  pub fit : Fit r (length b') (length d')
  pub does : (x : A) → R x → Does (f x) s r b d b' d'

-- ---- the parts of `procedure`, in its order

-- a procedure of that name was there
abbrev pub defined_before : Given → (line name : ℕ) → Step
defined_before G line name = asking (λ rows. when (has rows 135 name 0) (error G (proc_defined line name (row_word 3 (find (entry_key 135 name 0) rows)))))

-- all that is said of it before it is entered
abbrev pub before_entry : Given → (scope line : ℕ) → Proc → Step
before_entry G scope line f =
    result_type G line f.name f.ret_ty
    ⨾ check_variable_length_strings G line f
    ⨾ when (not (eqb scope 0)) (error G (proc_inside line f.name))
    ⨾ defined_before G line f.name

-- it is entered with its parameters
abbrev pub with_params : Given → (line : ℕ) → Proc → Step
with_params G line f =
    change G.row_room (replace_proc f.name (proc_row f.name f.is_function line (head_of f.ret_ty) (arg_of f.ret_ty) ∷ param_rows f.name 0 f.params))

-- its marks
abbrev pub with_marks : Given → Proc → Step
with_marks G f = when f.is_static (entry G (static_proc_row f.name)) ⨾ when f.def_fn (entry G (def_fn_row f.name))
