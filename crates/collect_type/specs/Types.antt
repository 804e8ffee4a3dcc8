-- What the code of TYPE asks and promises: a field's code, what looking at the fields in order does, and which are kept. Definitions only.
use Rattle.std.specs.Prelude.{ℕ, ◌+◌, ◌*◌, ◌≤◌, ◌<◌, ◌≡◌, Bool, false, ◌&&◌, ◌||◌, List, [], ◌∷◌, ◌++◌, leb, eqb, length, get_or, set, Result, Ok, Err}
use Rattle.std.proofs.Math.Option.{some}
use Rattle.base_words.specs.Word.{pick}
use Rattle.tree_expr.specs.Expr.{Expr}
use Rattle.tree_stmt.specs.Sorts.{FieldDecl as FieldRow, type_def as type_kind}
use Rattle.tree_stmt.specs.Tree.{Tree, row as one_row, rows as many_rows, count}
use Rattle.tree_stmt.specs.Stands.{Stands}
use Rattle.tree_views.specs.View.{FieldDecl, head, arg, rows_of, field_decl}
use Rattle.rows_table.specs.Rows.{Row, note_width}
use Rattle.rows_runs.specs.Runs.{Keeps}
use Rattle.rows_kinds.specs.Kinds.{has, field_row}
use Rattle.rows_lookup.specs.Lookup.{type_words}
use Rattle.collect_buffers.specs.State.{running, Step, ◌⨾◌, nothing, asking, each, stop, enter, push}
use Rattle.collect_buffers.specs.declared.Counts.{Counts}
use Rattle.collect_buffers.specs.Held.{Held, Does, Notes, Rows}
use Rattle.collect_definition.specs.Diagnostics.{field_twice, contains_itself, field_undefined}
use Rattle.collect_definition.specs.Collect.{FieldInfo, field_rows, given, fields}
use Rattle.collect_definition.specs.Code.{SomeStmt}
use Rattle.collect_type.specs.declared.read.FieldAt.{FieldAt}
use Rattle.collect_type.specs.declared.Rejected.{Rejected}
use Rattle.collect_type.specs.declared.Rejected.TheVariants.{Twice, Itself, Undefined}
use Rattle.collect_type.specs.declared.Kept.{Kept}

-- a TYPE stands there, among at most 1,024 strings
pub record SomeType (ws : List ℕ) (at : ℕ) : Type 0 where
  pub any : SomeStmt type_kind ws at
  pub few : length any.names ≤ 1024

-- at least n fields stand there
pub record SomeFields (ws : List ℕ) (at n : ℕ) : Type 0 where
  pub names : List ℕ
  pub strings : ℕ
  pub tree : Tree Expr (many_rows FieldRow)
  pub end : ℕ
  pub stands : Stands ws names strings at tree end
  pub enough : n ≤ count tree
  pub few : length names ≤ 1024

-- the field there, and the place past it
pub record FieldIs (ws : List ℕ) (at : ℕ) (r : FieldAt) : Type 0 where
  pub is : (ns : List ℕ) (n : ℕ) (v : Tree Expr (one_row FieldRow)) (end : ℕ) → Stands ws ns n at v end
      → (r.name ≡ (field_decl v).name) × (r.ty.head ≡ head (field_decl v).ty) × (r.ty.arg ≡ arg (field_decl v).ty) × (r.next ≡ end)
  pub name_small : r.name < 16777216
  pub arg_small : r.ty.arg < 16777216

-- ---- a field's code: 0 where it is kept, else its diagnostic's

-- by its type alone: 6 where it is the TYPE's own, 7 where no TYPE has that name
unfoldable pub type_code : List Row → (owner head arg : ℕ) → ℕ
type_code rows owner head arg = pick (eqb head 45) (pick (eqb arg owner) 6 (pick (has rows 130 arg 0) 0 7)) 0

-- whether a field of that name may stand there by its type: the first such one is kept
unfoldable pub said : List Row → (owner field : ℕ) → List FieldDecl → Bool
said rows owner field [] = false
said rows owner field (f ∷ fs) = (eqb f.name field && eqb (type_code rows owner (head f.ty) (arg f.ty)) 0) || said rows owner field fs

-- by its name first: 5 where one before it is kept under the same
unfoldable pub code_of : List Row → (owner : ℕ) → (before : List FieldDecl) → (name head arg : ℕ) → ℕ
code_of rows owner before name head arg = pick (said rows owner name before) 5 (type_code rows owner head arg)

-- the same of a field as it is declared
abbrev pub field_code : List Row → (owner : ℕ) → (before : List FieldDecl) → FieldDecl → ℕ
field_code rows owner before f = code_of rows owner before f.name (head f.ty) (arg f.ty)

-- the code that each reason of the program stands for, and that of its answer
abbrev pub code_of_why : Rejected → ℕ
code_of_why Twice = 5
code_of_why Itself = 6
code_of_why Undefined = 7

-- 0 where the field is kept
abbrev pub code_told : Result (Unit {0}) Rejected → ℕ
code_told (Ok u) = 0
code_told (Err why) = code_of_why why

-- the diagnostic of a code 5, 6 or 7
unfoldable pub note_of : (code line owner name arg : ℕ) → Row
note_of code line owner name arg = pick (eqb code 5) (field_twice line name owner) (pick (eqb code 6) (contains_itself line owner) (field_undefined line name arg))

-- ---- the words: those of the kept fields, where they are not too many

-- so many more words, unless they would pass 65,535
unfoldable pub grown : (words more : ℕ) → ℕ
grown words more = pick (leb (words + more) 65535) (words + more) words

-- the words after a field of this code
unfoldable pub sized : List Row → (words code head arg : ℕ) → ℕ
sized rows words code head arg = pick (eqb code 0) (grown words (type_words rows head arg)) words

-- ---- looking at one field, at all of them

-- one field: a diagnostic, number 9 where the words would be too many, or nothing
unfoldable pub looks : (D : ℕ) → List Row → (line owner words code name head arg : ℕ) → Step
looks D rows line owner words code name head arg =
    pick (eqb code 0) (pick (leb (words + type_words rows head arg) 65535) nothing (stop 9)) (push (some D) (note_of code line owner name arg))

-- the words after a field as it is declared
abbrev pub sized_by : List Row → (owner words : ℕ) → (before : List FieldDecl) → FieldDecl → ℕ
sized_by rows owner words before f = sized rows words (field_code rows owner before f) (head f.ty) (arg f.ty)

-- all of them in order
unfoldable pub checks : (D : ℕ) → List Row → (line owner words : ℕ) → (before after : List FieldDecl) → Step
checks D rows line owner words before [] = nothing
checks D rows line owner words before (f ∷ fs) =
    looks D rows line owner words (field_code rows owner before f) f.name (head f.ty) (arg f.ty)
    ⨾ checks D rows line owner (sized_by rows owner words before f) (before ++ (f ∷ [])) fs

-- the words of all kept ones
unfoldable pub total : List Row → (owner words : ℕ) → (before after : List FieldDecl) → ℕ
total rows owner words before [] = words
total rows owner words before (f ∷ fs) = total rows owner (sized_by rows owner words before f) (before ++ (f ∷ [])) fs

-- the kept ones
unfoldable pub kept_fields : List Row → (owner words : ℕ) → (before after : List FieldDecl) → List FieldInfo
kept_fields rows owner words before [] = []
kept_fields rows owner words before (f ∷ fs) =
    pick (eqb (field_code rows owner before f) 0)
    (record { name = f.name; word = words; ty = f.ty } ∷ kept_fields rows owner (sized_by rows owner words before f) (before ++ (f ∷ [])) fs)
    (kept_fields rows owner (sized_by rows owner words before f) (before ++ (f ∷ [])) fs)

-- ---- the marks of the names of kept fields

-- a mark for each number of a name, all below m
pub record Below (m : ℕ) (seen : List ℕ) : Type 0 where
  pub long : length seen ≡ 1024
  pub all : (x : ℕ) → get_or seen x 0 < m

-- a name has the mark m exactly where a field of that name was said before
pub record Marks (m : ℕ) (rows : List Row) (owner : ℕ) (before : List FieldDecl) (seen : List ℕ) : Type 0 where
  pub is : (x : ℕ) → eqb (get_or seen x 0) m ≡ said rows owner x before

-- ---- what the code promises

-- a field's code by its name's mark, and the mark after it
pub record Codes (m owner k name head arg r : ℕ) (b seen seen' : List ℕ) : Type 0 where
  pub code : (rows : List Row) → Keeps rows k b → r ≡ pick (eqb (get_or seen name 0) m) 5 (type_code rows owner head arg)
  pub marked : seen' ≡ pick (eqb r 0) (set seen name m) seen

-- one field looked at
pub record Looks (line owner code name head arg : ℕ) (s r : Kept) (b d d' : List ℕ) : Type 0 where
  pub fit : r.counts.notes * note_width ≤ length d'
  pub kept : r.counts.rows ≡ s.counts.rows
  pub few : r.words ≤ 65535
  pub more : r.fields ≡ pick (eqb code 0) (s.fields + 1) s.fields
  pub size : (rows : List Row) → Keeps rows s.counts.rows b → r.words ≡ sized rows s.words code head arg
  pub notes : (rows : List Row) → Keeps rows s.counts.rows b → Notes (λ N D. looks D rows line owner s.words code name head arg) s.counts r.counts d d'

-- n fields looked at: how many are kept, and their words
pub record Checks (ws : List ℕ) (at n line owner : ℕ) (s : Counts) (r : Kept) (b d d' : List ℕ) : Type 0 where
  pub fit : r.counts.notes * note_width ≤ length d'
  pub kept : r.counts.rows ≡ s.rows
  pub upto : r.fields ≤ n
  pub after : (ns : List ℕ) (m : ℕ) (v : Tree Expr (many_rows FieldRow)) (end : ℕ) → Stands ws ns m at v end → count v ≡ n
      → (N D : ℕ) (rows notes : List Row) → Held N D (running rows notes) s b d
      → Held N D (checks D rows line owner 0 [] (rows_of field_decl v) (running rows notes)) r.counts b d' × (r.words ≡ total rows owner 0 [] (rows_of field_decl v))
      × (r.fields ≡ length (kept_fields rows owner 0 [] (rows_of field_decl v)))

-- one field entered, where it is kept
pub record KeepsField (owner code name head arg : ℕ) (s r : Kept) (b b' : List ℕ) : Type 0 where
  pub few : r.words ≤ 65535
  pub more : r.fields ≡ pick (eqb code 0) (s.fields + 1) s.fields
  pub size : (rows : List Row) → Keeps rows s.counts.rows b → r.words ≡ sized rows s.words code head arg
  pub rows : Rows (λ N D. each (enter (some N)) (pick (eqb code 0) (field_row owner s.fields name s.words head arg ∷ []) [])) s.counts r.counts b b'

-- the kept ones of n fields entered
pub record Enters (ws : List ℕ) (at n owner : ℕ) (s r : Counts) (b b' : List ℕ) : Type 0 where
  pub after : (ns : List ℕ) (m : ℕ) (v : Tree Expr (many_rows FieldRow)) (end : ℕ) → Stands ws ns m at v end → count v ≡ n
      → Rows (λ N D. asking (λ rows. each (enter (some N)) (field_rows owner 0 (kept_fields rows owner 0 [] (rows_of field_decl v))))) s r b b'

-- the fields of a TYPE, and the TYPE with those that are kept
pub record Defines (ws : List ℕ) (at n line owner : ℕ) (s r : Counts) (b d b' d' : List ℕ) : Type 0 where
  pub does : (ns : List ℕ) (m : ℕ) (v : Tree Expr (many_rows FieldRow)) (end : ℕ) → Stands ws ns m at v end → count v ≡ n → (bytes ends erased : List ℕ)
      → Does (λ N D. asking (λ rows. fields (given (some N) (some D) bytes ends erased) rows line owner (record { fields = []; words = 0 }) (rows_of field_decl v))) s r b d b' d'
