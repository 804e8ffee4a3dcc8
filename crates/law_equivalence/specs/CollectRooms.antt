-- Each definition of `collect` and `check_name_collisions`, in their order, keeps what Rooms says of the lent buffers' lengths. Assumes nothing.
use Rattle.std.specs.Prelude.{ℕ, ◌+◌, Bool, ◌&&◌, eqb, leb, length, get_or, Ok, Err}
use Rattle.std.proofs.Math.Bool.{true, false, not}
use mathlib.Core.List.{List, [], ◌∷◌}
use Rattle.std.proofs.Math.Option.{Option, none, some}
use Rattle.base_words.specs.Word.{kind_of, pay_of}
use Rattle.tree_expr.specs.Expr.{Expr}
use Rattle.tree_stmt.specs.Sorts.{body}
use Rattle.tree_stmt.specs.Tree.{Shape, one, Tree, word, value, Stmt, list, part, this, that, done, cons, none as nothing, more, over}
use Rattle.tree_views.specs.View.{TypeRef, Integer, Long, Single, Double, FixedString, Record, Declarator, Param, ScopeItem, FieldDecl, View, Label, LabelName, OptionBase, TypeDef, Const, Shared, Static, Dim, Redim, Sub, Function, Other, view, inner, walk}
use Rattle.rows_table.specs.Rows.{Row, find}
use Rattle.rows_kinds.specs.Kinds.{entry_key, has}
use Rattle.base_builtins.specs.Builtins.{is_builtin}
use Rattle.collect_subscript_count.specs.Subscripts.{subscript_count}
use Rattle.collect_buffers.specs.State.{running, Step, enter}
use Rattle.collect_definition.specs.Seen.{Seen, see}
use Rattle.collect_definition.specs.Collect as C
use Rattle.collect_definition.specs.Collect.{Given, Proc, RecordInfo, with_field, rejected}
use Rattle.law_equivalence.specs.Rooms.{Meets, Keeps, constant, push_k, change_k, nothing_k, stop_k, then_k, pick_k, when_k, asking_k, each_k}
use Rattle.fold_values.specs.Value.{Fold}
use Rattle.fold_values.specs.declared.Unfolded.TheVariants.{Overflow, NotConstant}

module _ (string : ℕ → List ℕ) (erased : List ℕ) where
  -- buffers of r and d words; no limits
  abbrev G : ℕ → ℕ → Given
  G r d = record { row_room = some r; note_room = some d; string = string; erased = erased }

  abbrev G₀ : Given
  G₀ = record { row_room = none; note_room = none; string = string; erased = erased }

  enter_k : (row : Row) → Keeps (λ r d. enter (some r) row) (enter none row)
  unfolding enter
  enter_k row = change_k _

  undefined_k : (ty : TypeRef) (n : ℕ → Row) → Keeps (λ r d. C.undefined (G r d) ty n) (C.undefined G₀ ty n)
  unfolding C.undefined
  undefined_k Integer n = nothing_k
  undefined_k Long n = nothing_k
  undefined_k Single n = nothing_k
  undefined_k Double n = nothing_k
  undefined_k (FixedString l) n = nothing_k
  undefined_k (Record r) n = asking_k (λ rows. when_k (not (has rows 130 r 0)) (push_k (n r)))

  label_k : (scope line n : ℕ) → Keeps (λ r d. C.label (G r d) scope line n) (C.label G₀ scope line n)
  unfolding C.label
  label_k scope line n = asking_k (λ rows. then_k (enter_k _) (when_k (has rows 128 n 0) (push_k _)))

  label_name_k : (scope line n : ℕ) → Keeps (λ r d. C.label_name (G r d) scope line n) (C.label_name G₀ scope line n)
  unfolding C.label_name
  label_name_k scope line n = asking_k (λ rows. then_k (enter_k _) (when_k (has rows 129 n 0) (push_k _)))

  or_say_k : {F H : ℕ → ℕ → Step} {F₀ H₀ : Step} (o : Option Row) → Keeps F F₀ → Keeps H H₀ → Keeps (λ r d. C.or_say (G r d) o (F r d) (H r d)) (C.or_say G₀ o F₀ H₀)
  or_say_k none f h = f
  or_say_k (some n) f h = then_k (push_k n) h

  fields_k : (rows : List Row) (line name : ℕ) (info : RecordInfo) (fs : List FieldDecl) → Keeps (λ r d. C.fields (G r d) rows line name info fs) (C.fields G₀ rows line name info fs)
  unfolding C.fields
  fields_k rows line name info [] = change_k _
  fields_k rows line name info (f ∷ fs) = or_say_k (rejected rows line name info f) (pick_k (fields_k rows line name (with_field rows info f) fs) stop_k (leb (with_field rows info f).words 65535)) (fields_k rows line name info fs)

  type_def_k : (scope line name : ℕ) (fs : List FieldDecl) → Keeps (λ r d. C.type_def (G r d) scope line name fs) (C.type_def G₀ scope line name fs)
  unfolding C.type_def
  type_def_k scope line name fs =
      then_k (then_k
      (asking_k (λ rows. when_k (has rows 130 name 0) (push_k _)))
      (when_k (not (eqb scope 0)) (push_k _)))
      (asking_k (λ rows. fields_k rows line name _ fs))

  option_base_k : (line n : ℕ) → Keeps (λ r d. C.option_base (G r d) line n) (C.option_base G₀ line n)
  unfolding C.option_base
  option_base_k line n = then_k (asking_k (λ rows. pick_k (push_k _) (when_k (C.any_array rows) (push_k _)) (has rows 143 0 0))) (enter_k _)

  folded_k : (line name : ℕ) (f : Fold) → Keeps (λ r d. C.folded (G r d) line name f) (C.folded G₀ line name f)
  unfolding C.folded
  folded_k line name (Ok v) = enter_k _
  folded_k line name (Err Overflow) = push_k _
  folded_k line name (Err NotConstant) = push_k _

  const_k : (line name : ℕ) (e : Seen) → Keeps (λ r d. C.const (G r d) line name e) (C.const G₀ line name e)
  unfolding C.const
  const_k line name e = then_k (asking_k (λ rows. when_k (has rows 132 name 0) (push_k _))) (asking_k (λ rows. folded_k line name (e.folds_to rows)))

  item_k : (static : Bool) (scope : ℕ) (i : ScopeItem) → Keeps (λ r d. C.item (G r d) static scope i) (C.item G₀ static scope i)
  unfolding C.item
  item_k true scope i = asking_k (λ rows. enter_k _)
  item_k false scope i = asking_k (λ rows. enter_k _)

  typed_k : (scope name : ℕ) (t : Option TypeRef) → Keeps (λ r d. C.typed (G r d) scope name t) (C.typed G₀ scope name t)
  unfolding C.typed
  typed_k scope name none = nothing_k
  typed_k scope name (some ty) = enter_k _

  item_type_k : (scope : ℕ) (i : ScopeItem) → Keeps (λ r d. C.item_type (G r d) scope i) (C.item_type G₀ scope i)
  unfolding C.item_type
  item_type_k scope i = when_k (not i.array) (typed_k scope i.name i.ty)

  items_k : (static : Bool) (scope line : ℕ) (is : List ScopeItem) → Keeps (λ r d. C.items (G r d) static scope line is) (C.items G₀ static scope line is)
  unfolding C.items
  items_k static scope line is =
      pick_k (push_k _) (then_k (each_k (λ i. item_k static scope i) is) (when_k static (each_k (λ i. item_type_k scope i) is))) (eqb scope 0)

  declared_as_k : (scope line : ℕ) (is_redim : Bool) (name : ℕ) (t : Option TypeRef) → Keeps (λ r d. C.declared_as (G r d) scope line is_redim name t) (C.declared_as G₀ scope line is_redim name t)
  unfolding C.declared_as C.differs
  declared_as_k scope line is_redim name none = nothing_k
  declared_as_k scope line is_redim name (some ty) =
      then_k (then_k (then_k
      (when_k (not (C.is_record ty) && C.disagrees (C.last_of (string name)) ty) (push_k _))
      (undefined_k ty _))
      (asking_k (λ rows. when_k (has rows 134 name scope && not is_redim) (push_k _))))
      (enter_k _)

  redeclared_k : (line : ℕ) (is_redim preserve : Bool) (name rank : ℕ) (o : Option Row) → Keeps (λ r d. C.redeclared (G r d) line is_redim preserve name rank o) (C.redeclared G₀ line is_redim preserve name rank o)
  unfolding C.redeclared
  redeclared_k line is_redim preserve name rank none = nothing_k
  redeclared_k line is_redim preserve name rank (some prev) =
      pick_k (push_k _) (when_k (not (eqb (get_or prev 2 0) rank)) (push_k _)) (not is_redim && not (C.member name erased))

  declared_array_k : {E : Type 0} (scope line : ℕ) (is_redim preserve : Bool) (name : ℕ) (lowers : List (Option E)) (dims : Option (List E)) → Keeps (λ r d. C.declared_array (G r d) scope line is_redim preserve name lowers dims) (C.declared_array G₀ scope line is_redim preserve name lowers dims)
  unfolding C.declared_array
  declared_array_k scope line is_redim preserve name lowers none = nothing_k
  declared_array_k scope line is_redim preserve name lowers (some dims) =
      then_k (then_k
      (when_k (eqb (length dims) 0) (push_k _))
      (asking_k (λ rows. redeclared_k line is_redim preserve name (length dims) (find (entry_key 133 name scope) rows))))
      (asking_k (λ rows. enter_k _))

  declared_k : {E : Type 0} (scope line : ℕ) (is_redim preserve : Bool) (d : Declarator E) → Keeps (λ r n. C.declared (G r n) scope line is_redim preserve d) (C.declared G₀ scope line is_redim preserve d)
  unfolding C.declared
  declared_k scope line is_redim preserve d = then_k (declared_as_k scope line is_redim d.name d.ty) (declared_array_k scope line is_redim preserve d.name d.lowers d.dimensions)

  shared_all_k : {E : Type 0} (d : Declarator E) → Keeps (λ r n. C.shared_all (G r n) d) (C.shared_all G₀ d)
  unfolding C.shared_all
  shared_all_k d = enter_k _

  dim_shared_k : {E : Type 0} (scope line : ℕ) (ds : List (Declarator E)) → Keeps (λ r d. C.dim_shared (G r d) scope line ds) (C.dim_shared G₀ scope line ds)
  unfolding C.dim_shared
  dim_shared_k scope line ds = pick_k (each_k (λ d. shared_all_k d) ds) (push_k _) (eqb scope 0)

  dim_k : {E : Type 0} (scope line : ℕ) (ds : List (Declarator E)) (shared : Bool) → Keeps (λ r d. C.dim (G r d) scope line ds shared) (C.dim G₀ scope line ds shared)
  unfolding C.dim
  dim_k scope line ds shared = then_k (when_k shared (dim_shared_k scope line ds)) (each_k (λ d. declared_k scope line false false d) ds)

  redim_k : {E : Type 0} (scope line : ℕ) (ds : List (Declarator E)) (preserve : Bool) → Keeps (λ r d. C.redim (G r d) scope line ds preserve) (C.redim G₀ scope line ds preserve)
  unfolding C.redim
  redim_k scope line ds preserve = each_k (λ d. declared_k scope line true preserve d) ds

  param_string_k : (line name : ℕ) (p : Param) → Keeps (λ r d. C.param_string (G r d) line name p) (C.param_string G₀ line name p)
  unfolding C.param_string
  param_string_k line name p = when_k (not (eqb (C.fixed_length p.ty) 0)) (push_k _)

  strings_k : (line : ℕ) (f : Proc) → Keeps (λ r d. C.check_variable_length_strings (G r d) line f) (C.check_variable_length_strings G₀ line f)
  unfolding C.check_variable_length_strings
  strings_k line f = then_k (each_k (λ p. param_string_k line f.name p) f.params) (when_k (not (eqb (C.fixed_length f.ret_ty) 0)) (push_k _))

  result_type_k : (line name : ℕ) (t : Option TypeRef) → Keeps (λ r d. C.result_type (G r d) line name t) (C.result_type G₀ line name t)
  unfolding C.result_type C.differs
  result_type_k line name none = nothing_k
  result_type_k line name (some ty) = when_k (C.disagrees (C.last_of (string name)) ty) (push_k _)

  ranked_k : (scope line name : ℕ) (n : Option ℕ) → Keeps (λ r d. C.ranked (G r d) scope line name n) (C.ranked G₀ scope line name n)
  unfolding C.ranked
  ranked_k scope line name (some rank) = enter_k _
  ranked_k scope line name none = then_k (enter_k _) (enter_k _)

  array_param_k : (scope line : ℕ) (b : Tree Seen (one body)) (p : Param) → Keeps (λ r d. C.array_param (G r d) scope line b p) (C.array_param G₀ scope line b p)
  unfolding C.array_param
  array_param_k scope line b p = when_k p.array (ranked_k scope line p.name (subscript_count (λ name (e : Seen). e.use_under name) p.name b))

  param_type_k : (scope line name : ℕ) (t : Option TypeRef) → Keeps (λ r d. C.param_type (G r d) scope line name t) (C.param_type G₀ scope line name t)
  unfolding C.param_type
  param_type_k scope line name none = nothing_k
  param_type_k scope line name (some ty) = then_k (undefined_k ty _) (enter_k _)

  typed_param_k : (scope line : ℕ) (p : Param) → Keeps (λ r d. C.typed_param (G r d) scope line p) (C.typed_param G₀ scope line p)
  unfolding C.typed_param
  typed_param_k scope line p = when_k (not p.array) (param_type_k scope line p.name p.ty)

  procedure_k : (scope line : ℕ) (f : Proc) → Keeps (λ r d. C.procedure (G r d) scope line f) (C.procedure G₀ scope line f)
  unfolding C.procedure
  procedure_k scope line f =
      then_k (then_k (then_k (then_k (then_k (then_k (then_k (then_k
      (result_type_k line f.name f.ret_ty)
      (strings_k line f))
      (when_k (not (eqb scope 0)) (push_k _)))
      (asking_k (λ rows. when_k (has rows 135 f.name 0) (push_k _))))
      (change_k _))
      (when_k f.is_static (enter_k _)))
      (when_k f.def_fn (enter_k _)))
      (each_k (λ p. array_param_k (f.name + 1) line f.body p) f.params))
      (each_k (λ p. typed_param_k (f.name + 1) line p) f.params)

  statement_k : (scope line : ℕ) (v : View Seen) → Keeps (λ r d. C.statement (G r d) scope line v) (C.statement G₀ scope line v)
  unfolding C.statement
  statement_k scope line (Label n) = label_k scope line n
  statement_k scope line (LabelName name) = label_name_k scope line name
  statement_k scope line (OptionBase n) = option_base_k line n
  statement_k scope line (TypeDef name fs) = type_def_k scope line name fs
  statement_k scope line (Const name e) = const_k line name e
  statement_k scope line (Shared is) = items_k false scope line is
  statement_k scope line (Static is) = items_k true scope line is
  statement_k scope line (Dim ds shared) = dim_k scope line ds shared
  statement_k scope line (Redim ds preserve) = redim_k scope line ds preserve
  statement_k scope line (Sub name ps b is_static) = procedure_k scope line _
  statement_k scope line (Function name ps ret_ty b is_static def_fn) = procedure_k scope line _
  statement_k scope line Other = nothing_k

  walk_k : {i : Shape} (scope : ℕ) (t : Tree Seen i) → Keeps (λ r d. walk (C.statement (G r d)) scope t) (walk (C.statement G₀) scope t)
  unfolding walk
  walk_k scope (word x) = nothing_k
  walk_k scope (value e) = nothing_k
  walk_k scope (Stmt k line t) = then_k (statement_k scope line (view k t)) (walk_k (inner scope (view k t)) t)
  walk_k scope (list ts) = walk_k scope ts
  walk_k scope (part t) = walk_k scope t
  walk_k scope (this t) = walk_k scope t
  walk_k scope (that t) = walk_k scope t
  walk_k scope done = nothing_k
  walk_k scope (cons v t) = then_k (walk_k scope v) (walk_k scope t)
  walk_k scope nothing = nothing_k
  walk_k scope (more t ts) = then_k (walk_k scope t) (walk_k scope ts)

  collides_k : (line name : ℕ) (o : Option Row) → Keeps (λ r d. C.collides (G r d) line name o) (C.collides G₀ line name o)
  unfolding C.collides
  collides_k line name (some proc) = push_k _
  collides_k line name none = when_k (is_builtin (string name)) (push_k _)

  collision_k : (rows : List Row) (row : Row) → Keeps (λ r d. C.collision (G r d) rows row) (C.collision G₀ rows row)
  unfolding C.collision
  collision_k rows row = when_k (eqb (kind_of (get_or row 0 0)) 133) (collides_k (get_or row 3 0) (pay_of (get_or row 0 0)) (find (entry_key 135 (pay_of (get_or row 0 0)) 0) rows))

  collisions_k : Keeps (λ r d. C.check_name_collisions (G r d)) (C.check_name_collisions G₀)
  unfolding C.check_name_collisions
  collisions_k = asking_k (λ rows. each_k (λ row. collision_k rows row) rows)

  -- a whole program, from empty tables
  pub analysed_meets : {i : Shape} (t : Tree Expr i) → Meets (λ r d. C.analysed (G r d) t) (C.analysed G₀ t)
  unfolding C.analysed C.collected C.collect
  analysed_meets t = (then_k (walk_k 0 (over see t)) collisions_k).on (λ r d. running [] []) (running [] []) (constant [] [])
