-- What is done for a procedure, step by step: each step of the code is the definition's, for whatever was read. Assumes nothing.
use Prim.Native.Nat.{ℕ, suc, ◌+◌, ◌*◌, ◌≤◌, ◌<◌}
use native.Mathlib.Omega.{arith}
use mathlib.Core.Path.{◌≡◌, refl, sym, ap, ap₂, subst, ◌∙◌}
use mathlib.Core.Bool.{Bool, true, false, not}
use mathlib.Core.List.{List, [], ◌∷◌, ◌++◌}
use mathlib.Core.Option.{Option, none, some}
use lib.Dec.{eqb}
use lib.ListN.{length}
use Rattle.base_strings.specs.Table.{string_at}
use Rattle.tree_expr.specs.Expr.{Expr}
use Rattle.tree_stmt.specs.Sorts.{body as body_sort, Kind, sorts}
use Rattle.tree_stmt.specs.Tree.{one, row as row_shape, Tree, Stmt, over}
use Rattle.tree_views.specs.View.{TypeRef, Integer, Long, Single, Double, FixedString, Record, head, arg, head_of, arg_of, Param, param, view}
use Rattle.rows_table.specs.Rows.{Row, width, note_width, key, find, remove, replace}
use Rattle.rows_runs.specs.Runs.{Keeps}
use Rattle.rows_runs.specs.Ordinals.{InTurn}
use Rattle.rows_kinds.specs.Kinds.{row, entry_key, row_word, has, bit, proc_row, param_row}
use Rattle.collect_buffers.specs.State.{State, Step, ◌⨾◌, when, asking, each, change, enter, push}
use Rattle.collect_buffers.specs.declared.Counts.{Counts}
use Rattle.collect_buffers.specs.Held.{Fit, Sized, Does, Notes, Rows, changing, entering, noting}
use Rattle.collect_buffers.proofs.Compose.{notes_does, rows_does, nothing_does, same, then, each_none, each_next, asked, replaced, stays_when, stays_push}
use Rattle.collect_subscript_count.specs.Subscripts.{in_expr, subscript_count}
use Rattle.tree_stmt.specs.Stands.{Stands}
use Rattle.collect_definition.specs.SeenLaws.{seen_count}
use Rattle.collect_subscript_count.specs.Code.{use_of}
use Rattle.collect_definition.specs.Seen.{Seen, see}
use Rattle.collect_definition.specs.Diagnostics.{proc_inside, proc_defined, suffix_differs, fixed_param, fixed_result, param_undefined}
use Rattle.collect_definition.specs.Collect.{given, Proc, param_rows, fixed_length, last_of, disagrees, differs, result_type, param_string, check_variable_length_strings, ranked, array_param, undefined, param_type, typed_param, procedure, statement}
use Rattle.collect_definition.specs.Code.{Collects}
use Rattle.collect_as_clause.specs.Over.{rows_length}
use Rattle.std.specs.Prelude.{Option as RustOption, None, Some}
use Rattle.rows_lookup.specs.declared.Typed.{Typed}
use Rattle.collect_as_clause.specs.Parts.{written_if, head_word, arg_word}
use Rattle.collect_as_clause.proofs.Types.{head_written, arg_written}
use Rattle.collect_procedure.specs.Post.{plain, ParamOf, ParamsAt, BodyAt, ProcOf, ProcIs, Says, Enters, Acts, defined_before, before_entry, with_params, with_marks}
use Rattle.collect_procedure.specs.declared.read.ParamAt.{ParamAt}
use Rattle.collect_procedure.specs.declared.read.ProcAt.{ProcAt}

-- ---- one step, said of whatever was read

module _ {A : Type 0} {R : A → Type 0} {f : A → Sized} where
  -- a diagnostic
  pub says : {g : Sized} {s r : Counts} {d d' : List ℕ} → Notes g s r d d' → ((x : A) → R x → (N D : ℕ) (st : State) → g N D st ≡ f x N D st) → Says R f s r d d'
  says F e = record { kept = F.kept; fit = F.fit; does = λ x h b k. same (f x) (e x h) (notes_does F b k) }

  -- none
  pub says_nothing : {s : Counts} {d : List ℕ} → s.notes * note_width ≤ length d → ((x : A) → R x → (N D : ℕ) (st : State) → st ≡ f x N D st) → Says R f s s d d
  says_nothing l e = record { kept = refl; fit = l; does = λ x h b k. same (f x) (e x h) (nothing_does (k, l)) }

  -- a row
  pub enters : {g : Sized} {s r : Counts} {b b' : List ℕ} → Rows g s r b b' → ((x : A) → R x → (N D : ℕ) (st : State) → g N D st ≡ f x N D st) → Enters R f s r b b'
  enters F e = record { kept = F.kept; fit = F.fit; does = λ x h d k. same (f x) (e x h) (rows_does F d k) }

  -- none
  pub enters_nothing : {s : Counts} {b : List ℕ} → s.rows * width ≤ length b → ((x : A) → R x → (N D : ℕ) (st : State) → st ≡ f x N D st) → Enters R f s s b b
  enters_nothing l e = record { kept = refl; fit = l; does = λ x h d k. same (f x) (e x h) (nothing_does (l, k)) }

  -- neither a diagnostic nor a row
  pub acts_nothing : {s : Counts} {b d : List ℕ} → Fit s (length b) (length d) → ((x : A) → R x → (N D : ℕ) (st : State) → st ≡ f x N D st) → Acts R f s s b d b d
  acts_nothing l e = record { fit = l; does = λ x h. same (f x) (e x h) (nothing_does l) }

-- ---- types

-- a type with the head 44 is a fixed string, and its argument is its length
fixed_words : {h a : ℕ} → h ≡ 44 → (ty : Option TypeRef) → h ≡ head_of ty → a ≡ arg_of ty → a ≡ fixed_length ty
unfolding fixed_length
fixed_words z none e f = absurd (omega arith)
fixed_words z (some Integer) e f = absurd (omega arith)
fixed_words z (some Long) e f = absurd (omega arith)
fixed_words z (some Single) e f = absurd (omega arith)
fixed_words z (some Double) e f = absurd (omega arith)
fixed_words z (some (FixedString n)) e f = f
fixed_words z (some (Record x)) e f = absurd (omega arith)

pub fixed_yes : {t : Typed} → t.head ≡ 44 → (o : Option TypeRef) → Some t ≡ written_if o → t.arg ≡ fixed_length o
fixed_yes z o e = fixed_words z o (ap head_word e ∙ head_written o) (ap arg_word e ∙ arg_written o)

-- any other type, or none, has the length 0
pub fixed_no : {y : RustOption Typed} → (head_word y ≡ 44 → ⊥) → (o : Option TypeRef) → y ≡ written_if o → 0 ≡ fixed_length o
unfolding fixed_length
fixed_no z none e = refl
fixed_no z (some Integer) e = refl
fixed_no z (some Long) e = refl
fixed_no z (some Single) e = refl
fixed_no z (some Double) e = refl
fixed_no z (some (FixedString n)) e = absurd (z (ap head_word e))
fixed_no z (some (Record x)) e = refl

-- ---- what is said

-- of its result's type
module _ (bytes ends : List ℕ) (line name : ℕ) where
  -- nothing where it has none
  pub result_none : (o : Option TypeRef) → None ≡ written_if o → (N D : ℕ) (st : State) → st ≡ result_type (given (some N) (some D) bytes ends []) line name o st
  unfolding result_type
  result_none none e N D st = refl
  result_none (some t) e N D st = let z : ◌≡◌ {A = ℕ} 0 1 = cc in absurd (omega arith)

  -- 15 where it isn't the one that the name's suffix says
  pub result_some : {y : Typed} {yes : Bool} → ((t : TypeRef) → y.head ≡ head t → yes ≡ disagrees (last_of (string_at bytes ends name)) t) → (o : Option TypeRef) → Some y ≡ written_if o
      → (N D : ℕ) (st : State) → noting yes (15 ∷ line ∷ (name + 1) ∷ 0 ∷ 0 ∷ 0 ∷ []) N D st ≡ result_type (given (some N) (some D) bytes ends []) line name o st
  unfolding result_type noting differs
  result_some told none e N D st = let z : ◌≡◌ {A = ℕ} 0 1 = cc in absurd (omega arith)
  result_some told (some t) e N D st = ap (λ (b : Bool). when b (push (some D) (suffix_differs line name)) st) (told t (ap head_word e))

-- of a parameter
pub param_said : (line name : ℕ) {n : ℕ} {r : ParamAt} (q : Param) → ParamOf r q → n ≡ fixed_length q.ty
    → (N D : ℕ) (st : State) → noting (not (eqb n 0)) (22 ∷ line ∷ (r.name + 1) ∷ (name + 1) ∷ n ∷ 0 ∷ []) N D st ≡ param_string (plain N D) line name q st
unfolding noting param_string
param_said line name q o e N D st =
    ap₂ (λ (m x : ℕ). when (not (eqb m 0)) (push (some D) (fixed_param line x name m)) st) e o.name

-- of all of them, and of its result
strings_said : (line : ℕ) {n : ℕ} {r : ProcAt} {ws : List ℕ} (f : Proc) → ProcOf ws r f → n ≡ fixed_length f.ret_ty
    → (N D : ℕ) (st : State)
    → (each (param_string (plain N D) line r.name) f.params ⨾ noting (not (eqb n 0)) (23 ∷ line ∷ (r.name + 1) ∷ 0 ∷ n ∷ 0 ∷ []) N D) st
    ≡ check_variable_length_strings (plain N D) line f st
unfolding noting check_variable_length_strings
strings_said line f o e N D st =
    ap₂ (λ (m x : ℕ). (each (param_string (plain N D) line x) f.params ⨾ when (not (eqb m 0)) (push (some D) (fixed_result line x m))) st) e o.name

-- 22 of each parameter that is a fixed string, then 23 of such a result
pub strings_says : (line n : ℕ) {p : ProcAt} {ws : List ℕ} {s t r : Counts} {d d' d'' : List ℕ}
    → Says (ParamsAt ws p.params p.count) (λ ps N D. each (param_string (plain N D) line p.name) ps) s t d d'
    → ((o : Option TypeRef) → p.ty ≡ written_if o → n ≡ fixed_length o)
    → Notes (noting (not (eqb n 0)) (23 ∷ line ∷ (p.name + 1) ∷ 0 ∷ n ∷ 0 ∷ [])) t r d' d''
    → Says (ProcOf ws p) (λ f N D. check_variable_length_strings (plain N D) line f) s r d d''
strings_says line n {p} {ws} {s} {t} {r} {d} {d'} {d''} F told G =
    record {
      kept = G.kept ∙ F.kept;
      fit = G.fit;
      does = λ f o b k.
          same (λ N D. check_variable_length_strings (plain N D) line f) (strings_said line f o (told f.ret_ty o.ty))
          (then (F.does f.params o.params b k) (notes_does G b (subst (λ (m : ℕ). m * width ≤ length b) (sym F.kept) k)));
    }

-- that it was there before
module _ (line name prev : ℕ) (yes : Bool) {s r : Counts} {b d d' : List ℕ} where
  defined_does : s.rows * width ≤ length b
      → ((rows : List Row) → Keeps rows s.rows b → yes ≡ has rows 135 name 0)
      → ((rows : List Row) → Keeps rows s.rows b → prev ≡ row_word 3 (find (entry_key 135 name 0) rows))
      → Notes (noting yes (25 ∷ line ∷ (name + 1) ∷ 0 ∷ 0 ∷ prev ∷ [])) s r d d'
      → Does (λ N D. defined_before (plain N D) line name) s r b d b d'
  unfolding noting
  defined_does k told told' F =
      asked {A = Bool × ℕ} (yes, prev) (λ rows. (has rows 135 name 0, row_word 3 (find (entry_key 135 name 0) rows)))
      (λ a N D. when a.0 (push (some D) (proc_defined line name a.1)))
      (λ a N D. stays_when a.0 (push (some D) (proc_defined line name a.1)) (stays_push D (proc_defined line name a.1)))
      (λ rows H. ap₂ (λ (x : Bool) (y : ℕ). (x, y)) (told rows H) (told' rows H))
      (notes_does F b k)

  -- 25, with the line where it was
  pub defined_acts : s.rows * width ≤ length b
      → ((rows : List Row) → Keeps rows s.rows b → yes ≡ has rows 135 name 0)
      → ((rows : List Row) → Keeps rows s.rows b → prev ≡ row_word 3 (find (entry_key 135 name 0) rows))
      → Notes (noting yes (25 ∷ line ∷ (name + 1) ∷ 0 ∷ 0 ∷ prev ∷ [])) s r d d'
      → Acts (λ x. name ≡ x) (λ x N D. defined_before (plain N D) line x) s r b d b d'
  defined_acts k told told' F =
      let G = defined_does k told told' F in
      record { fit = G.fit; does = λ x e. subst (λ (y : ℕ). Does (λ N D. defined_before (plain N D) line y) s r b d b d') e G }

-- all of it
pub before_acts : (bytes ends : List ℕ) (scope line : ℕ) {ws : List ℕ} {p : ProcAt} {s s1 s2 s3 r : Counts} {b d d1 d2 d3 d' : List ℕ}
    → s.rows * width ≤ length b
    → Says (λ ty. p.ty ≡ written_if ty) (λ ty N D. result_type (given (some N) (some D) bytes ends []) line p.name ty) s s1 d d1
    → Says (ProcOf ws p) (λ f N D. check_variable_length_strings (plain N D) line f) s1 s2 d1 d2
    → Notes (noting (not (eqb scope 0)) (24 ∷ line ∷ (p.name + 1) ∷ 0 ∷ 0 ∷ 0 ∷ [])) s2 s3 d2 d3
    → Acts (λ x. p.name ≡ x) (λ x N D. defined_before (plain N D) line x) s3 r b d3 b d'
    → Acts (ProcOf ws p) (λ f N D. before_entry (given (some N) (some D) bytes ends []) scope line f) s r b d b d'
unfolding noting check_variable_length_strings param_string
before_acts bytes ends scope line {ws} {p} {s} {s1} {s2} {s3} {r} {b} {d} {d1} {d2} {d3} {d'} k F1 F2 F3 F4 = record { fit = F4.fit; does = by }
  where
    by : (f : Proc) → ProcOf ws p f → Does (λ N D. before_entry (given (some N) (some D) bytes ends []) scope line f) s r b d b d'
    by f o =
        let k1 : s1.rows * width ≤ length b = subst (λ (m : ℕ). m * width ≤ length b) (sym F1.kept) k in
        let k2 : s2.rows * width ≤ length b = subst (λ (m : ℕ). m * width ≤ length b) (sym F2.kept) k1 in
        same (λ N D. before_entry (given (some N) (some D) bytes ends []) scope line f)
        (λ N D st.
        ap (λ (x : ℕ).
        (result_type (given (some N) (some D) bytes ends []) line x f.ret_ty
        ⨾ check_variable_length_strings (plain N D) line f
        ⨾ when (not (eqb scope 0)) (push (some D) (proc_inside line x))
        ⨾ defined_before (plain N D) line f.name) st) o.name)
        (then (then (then (F1.does f.ret_ty o.ty b k) (F2.does f o b k1)) (notes_does F3 b k2)) (F4.does f.name o.name))

-- ---- its rows

-- a mark
module _ (kind name : ℕ) (yes : Bool) {s : Counts} {b : List ℕ} where
  -- it is entered
  pub mark_yes : {r : Counts} {b' : List ℕ} → yes ≡ true → Rows (entering (row kind name (0 ∷ 0 ∷ 0 ∷ 0 ∷ 0 ∷ []))) s r b b'
      → Enters (λ x. yes ≡ x) (λ x N D. when x (enter (some N) (row kind name (0 ∷ [])))) s r b b'
  unfolding entering
  mark_yes e F = enters F (λ x q N D st. ap (λ (t : Bool). when t (enter (some N) (row kind name (0 ∷ []))) st) (sym e ∙ q))

-- STATIC, then DEF FN
pub marks_enter : {ws : List ℕ} {p : ProcAt} {s t r : Counts} {b b1 b' : List ℕ}
    → Enters (λ x. p.keeps ≡ x) (λ x N D. when x (enter (some N) (row 140 p.name (0 ∷ [])))) s t b b1
    → Enters (λ x. p.deffn ≡ x) (λ x N D. when x (enter (some N) (row 141 p.name (0 ∷ [])))) t r b1 b'
    → Enters (ProcOf ws p) (λ f N D. with_marks (plain N D) f) s r b b'
marks_enter {ws} {p} {s} {t} {r} {b} {b1} {b'} F G =
    record {
      kept = G.kept ∙ F.kept;
      fit = G.fit;
      does = λ f o d k.
          same (λ N D. with_marks (plain N D) f)
          (λ N D st. ap (λ (x : ℕ). (when f.is_static (enter (some N) (row 140 x (0 ∷ []))) ⨾ when f.def_fn (enter (some N) (row 141 x (0 ∷ [])))) st) o.name)
          (then (F.does f.is_static o.static d k) (G.does f.def_fn o.def_fn d (subst (λ (m : ℕ). m * note_width ≤ length d) (sym F.kept) k)));
    }

-- no parameter, and one more
pub params_none : (name : ℕ) {s : Counts} {b d : List ℕ} → Fit s (length b) (length d) → Does (λ N D. each (enter (some N)) (param_rows name 0 [])) s s b d b d
unfolding param_rows
params_none name k = each_none (λ x N D. enter (some N) x) k

rows_snoc : (name j : ℕ) (done : List Param) (p : Param)
    → param_rows name j (done ++ (p ∷ [])) ≡ param_rows name j done ++ (param_row name (j + length done) p.name p.byval p.array (head_of p.ty) (arg_of p.ty) ∷ [])
unfolding param_rows
rows_snoc name j [] p = ap (λ (m : ℕ). param_row name m p.name p.byval p.array (head_of p.ty) (arg_of p.ty) ∷ []) (omega arith)
rows_snoc name j (q ∷ done) p =
    let e : j + 1 + length done ≡ j + length (q ∷ done) = omega arith in
    ap (λ (l : List Row). param_row name j q.name q.byval q.array (head_of q.ty) (arg_of q.ty) ∷ l)
    (rows_snoc name (j + 1) done p
    ∙ ap (λ (m : ℕ). param_rows name (j + 1) done ++ (param_row name m p.name p.byval p.array (head_of p.ty) (arg_of p.ty) ∷ [])) e)

-- the words of a type
type_words : {h a : ℕ} {y : RustOption Typed} (o : Option TypeRef) → h ≡ head_word y → a ≡ arg_word y → y ≡ written_if o → (h ≡ head_of o) × (a ≡ arg_of o)
type_words o e f q = (e ∙ ap head_word q ∙ head_written o, f ∙ ap arg_word q ∙ arg_written o)

row_of_lem : (name i m h a : ℕ) {r : ParamAt} (p : Param) → ParamOf r p → m ≡ bit r.byval + 2 * bit r.array → h ≡ head_word r.ty → a ≡ arg_word r.ty
    → row 136 name (i ∷ r.name ∷ m ∷ h ∷ a ∷ []) ≡ param_row name i p.name p.byval p.array (head_of p.ty) (arg_of p.ty)
row_of_lem name i m h a {r} p o e f g =
    let w = type_words p.ty f g o.ty in
    rw (e, o.name, o.byval, o.array, w.0, w.1)

-- its row after those before
pub params_next : (name : ℕ) {i m h a : ℕ} {q : ParamAt} {s c r : Counts} {b d b' b'' : List ℕ} → m ≡ bit q.byval + 2 * bit q.array → h ≡ head_word q.ty → a ≡ arg_word q.ty
    → Rows (entering (row 136 name (i ∷ q.name ∷ m ∷ h ∷ a ∷ []))) c r b' b''
    → c.notes * note_width ≤ length d
    → (done : List Param) (p : Param) → length done ≡ i → ParamOf q p
    → Does (λ N D. each (enter (some N)) (param_rows name 0 done)) s c b d b' d
    → Does (λ N D. each (enter (some N)) (param_rows name 0 (done ++ (p ∷ [])))) s r b d b'' d
unfolding entering
params_next name {i} {m} {h} {a} {q} {s} {c} {r} {b} {d} {b'} {b''} e eh ea F k done p l o G =
    let last : Row = param_row name i p.name p.byval p.array (head_of p.ty) (arg_of p.ty) in
    let nth : i ≡ 0 + length done = omega arith in
    let is : param_rows name 0 done ++ (last ∷ []) ≡ param_rows name 0 (done ++ (p ∷ [])) =
    ap (λ (j : ℕ). param_rows name 0 done ++ (param_row name j p.name p.byval p.array (head_of p.ty) (arg_of p.ty) ∷ [])) nth ∙ sym (rows_snoc name 0 done p) in
    let one : Does (λ N D. enter (some N) last) c r b' d b'' d = subst (λ (x : Row). Does (λ N D. enter (some N) x) c r b' d b'' d) (row_of_lem name i m h a p o e eh ea) (rows_does F d k) in
    subst (λ (l : List Row). Does (λ N D. each (enter (some N)) l) s r b d b'' d) is (each_next (λ x N D. enter (some N) x) (param_rows name 0 done) last G one)

-- their rows have the ordinals in turn
params_turn : (name i : ℕ) (ps : List Param) → InTurn (entry_key 136 name i) (param_rows name i ps)
unfolding param_rows key
params_turn name i [] = tt
params_turn name i (p ∷ ps) =
    let next : entry_key 136 name (i + 1) ≡ suc (entry_key 136 name i) = omega arith in
    (refl, refl, subst (λ (n : ℕ). InTurn n (param_rows name (i + 1) ps)) next (params_turn name (i + 1) ps))

params_count : (name i : ℕ) (ps : List Param) → length (param_rows name i ps) ≡ length ps
unfolding param_rows
params_count name i [] = refl
params_count name i (p ∷ ps) = ap (λ (n : ℕ). suc n) (params_count name (i + 1) ps)

-- the procedure and its parameters, in the place of the old ones
pub with_params_lem : (line m h a : ℕ) {ws : List ℕ} {p : ProcAt} {s s1 s2 r : Counts} {b b1 b2 b' : List ℕ} → p.count < 4294967296 → m ≡ bit p.function → h ≡ head_word p.ty → a ≡ arg_word p.ty
    → Rows (changing (remove (entry_key 136 p.name p.count) (entry_key 136 (p.name + 1) 0))) s s1 b b1
    → Rows (entering (row 135 p.name (0 ∷ m ∷ line ∷ h ∷ a ∷ []))) s1 s2 b1 b2
    → Enters (ParamsAt ws p.params p.count) (λ ps N D. each (enter (some N)) (param_rows p.name 0 ps)) s2 r b2 b'
    → Enters (ProcOf ws p) (λ f N D. with_params (plain N D) line f) s r b b'
unfolding entering changing each key
with_params_lem line m h a {ws} {p} {s} {s1} {s2} {r} {b} {b1} {b2} {b'} few e eh ea F G H =
    record { kept = H.kept ∙ G.kept ∙ F.kept; fit = H.fit; does = by }
  where
    by : (f : Proc) → ProcOf ws p f → (d : List ℕ) → s.notes * note_width ≤ length d → Does (λ N D. with_params (plain N D) line f) s r b d b' d
    by f o d k =
        let k1 : s1.notes * note_width ≤ length d = subst (λ (m : ℕ). m * note_width ≤ length d) (sym F.kept) k in
        let k2 : s2.notes * note_width ≤ length d = subst (λ (m : ℕ). m * note_width ≤ length d) (sym G.kept) k1 in
        let top : Row = row 135 p.name (0 ∷ m ∷ line ∷ h ∷ a ∷ []) in
        let new : List Row = param_rows p.name 0 f.params in
        let counted : p.count ≡ length new =
        sym o.params.counted ∙ sym (rows_length param o.params.tree) ∙ ap length o.params.are ∙ sym (params_count p.name 0 f.params) in
        let done =
        replaced 136 p.name p.count top new few counted refl (omega arith) (params_turn p.name 0 f.params)
        (then (rows_does F d k) (then (rows_does G d k1) (H.does f.params o.params d k2))) in
        let w = type_words f.ret_ty eh ea o.ty in
        let is : top ∷ new ≡ proc_row p.name f.is_function line (head_of f.ret_ty) (arg_of f.ret_ty) ∷ param_rows p.name 0 f.params = rw (e, o.function, w.0, w.1) in
        same (λ N D. with_params (plain N D) line f)
        (λ N D st.
        ap (λ (l : List Row). change (some N) (replace (entry_key 136 p.name 0) (entry_key 136 (p.name + 1) 0) l) st) is
        ∙ ap (λ (x : ℕ). change (some N) (replace (entry_key 136 x 0) (entry_key 136 (x + 1) 0) (proc_row x f.is_function line (head_of f.ret_ty) (arg_of f.ret_ty) ∷ param_rows x 0 f.params)) st) o.name)
        done

-- ---- its parameters inside the body

module _ (scope line name : ℕ) {u : RustOption ℕ} {s r : Counts} {b b' : List ℕ} where
  -- a use was found: the array's row with its count
  pub ranked_some : {n : ℕ} → u ≡ Some n → Rows (entering (row 133 name (scope ∷ n ∷ line ∷ 1 ∷ 0 ∷ []))) s r b b'
      → Enters (λ o. use_of u ≡ o) (λ o N D. ranked (plain N D) scope line name o) s r b b'
  unfolding entering ranked use_of
  ranked_some e F =
      enters F (λ o q N D st. ap (λ (x : Option ℕ). ranked (plain N D) scope line name x st) (ap use_of (sym e) ∙ q))

  -- none was: a row of rank 1, and one that says so
  pub ranked_none : {t : Counts} {b1 : List ℕ} → u ≡ None → Rows (entering (row 133 name (scope ∷ 1 ∷ line ∷ 1 ∷ 0 ∷ []))) s t b b1
      → Rows (entering (row 142 name (scope ∷ 0 ∷ 0 ∷ 0 ∷ 0 ∷ []))) t r b1 b'
      → Enters (λ o. use_of u ≡ o) (λ o N D. ranked (plain N D) scope line name o) s r b b'
  unfolding entering ranked use_of
  ranked_none {t} {b1} e F G =
      record {
        kept = G.kept ∙ F.kept;
        fit = G.fit;
        does = λ o q d k.
            same (λ N D. ranked (plain N D) scope line name o) (λ N D st. ap (λ (x : Option ℕ). ranked (plain N D) scope line name x st) (ap use_of (sym e) ∙ q))
            (then (rows_does F d k) (rows_does G d (subst (λ (m : ℕ). m * note_width ≤ length d) (sym F.kept) k)));
      }

-- an array
module _ (scope line : ℕ) {p : ParamAt} {s : Counts} {b : List ℕ} where
  -- a parameter that is no array has no such row
  pub array_no : p.array ≡ false → s.rows * width ≤ length b → (t : Tree Seen (one body_sort)) → Enters (ParamOf p) (λ q N D. array_param (plain N D) scope line t q) s s b b
  unfolding array_param
  array_no e k t =
      enters_nothing k (λ q o N D st.
      ap (λ (y : Bool). when y (ranked (plain N D) scope line q.name (subscript_count (λ name (e : Seen). e.use_under name) q.name t)) st) (sym e ∙ o.array))

  -- one that is has the rank of its first use in the body
  pub array_yes : (u : RustOption ℕ) {ws : List ℕ} {body past : ℕ} {r : Counts} {b' : List ℕ} → p.array ≡ true
      → ((ns : List ℕ) (n : ℕ) (v : Tree Expr (one body_sort)) → Stands ws ns n body v past → use_of u ≡ subscript_count (λ name (e : Expr). in_expr name e) p.name v)
      → Enters (λ o. use_of u ≡ o) (λ o N D. ranked (plain N D) scope line p.name o) s r b b'
      → (t : Tree Seen (one body_sort)) → BodyAt ws body past t → Enters (ParamOf p) (λ q N D. array_param (plain N D) scope line t q) s r b b'
  unfolding array_param
  array_yes u {ws} {body} {past} {r} {b'} e told F t B = record { kept = F.kept; fit = F.fit; does = by }
    where
      by : (q : Param) → ParamOf p q → (d : List ℕ) → s.notes * note_width ≤ length d → Does (λ N D. array_param (plain N D) scope line t q) s r b d b' d
      by q o d k =
          let rank : Option ℕ = subscript_count (λ name (e : Seen). e.use_under name) q.name t in
          let is : use_of u ≡ rank =
          told B.names B.strings B.tree B.stands ∙ sym (seen_count p.name B.tree)
          ∙ ap (λ (x : ℕ). subscript_count (λ name (e : Seen). e.use_under name) x (over see B.tree)) o.name
          ∙ ap (λ (v : Tree Seen (one body_sort)). subscript_count (λ name (e : Seen). e.use_under name) q.name v) B.is in
          same (λ N D. array_param (plain N D) scope line t q)
          (λ N D st. ap₂ (λ (y : Bool) (x : ℕ). when y (ranked (plain N D) scope line x rank) st) (sym e ∙ o.array) o.name)
          (F.does rank is d k)

-- a record's TYPE
module _ (line name : ℕ) where
  other_type : {h : ℕ} → (h ≡ 45 → ⊥) → (ty : TypeRef) → h ≡ head ty → (N D : ℕ) (st : State) → st ≡ undefined (plain N D) ty (λ (x : ℕ). param_undefined line name x) st
  unfolding undefined
  other_type z Integer e N D st = refl
  other_type z Long e N D st = refl
  other_type z Single e N D st = refl
  other_type z Double e N D st = refl
  other_type z (FixedString n) e N D st = refl
  other_type z (Record x) e N D st = absurd (z e)

  -- a type that is no TYPE's name is never undefined
  pub undefined_other : {h a : ℕ} {s : Counts} {b d : List ℕ} → (h ≡ 45 → ⊥) → Fit s (length b) (length d)
      → Acts (λ ty. (h ≡ head ty) × (a ≡ arg ty)) (λ ty N D. undefined (plain N D) ty (λ (x : ℕ). param_undefined line name x)) s s b d b d
  undefined_other z k = acts_nothing k (λ ty q. other_type z ty q.0)

  module _ (a : ℕ) {s r : Counts} {b d d' : List ℕ} where
    known_does : (known : Bool) → s.rows * width ≤ length b → ((rows : List Row) → Keeps rows s.rows b → known ≡ has rows 130 a 0)
        → Notes (noting (not known) (26 ∷ line ∷ (name + 1) ∷ (a + 1) ∷ 0 ∷ 0 ∷ [])) s r d d'
        → Does (λ N D. asking (λ rows. when (not (has rows 130 a 0)) (push (some D) (param_undefined line name a)))) s r b d b d'
    unfolding noting
    known_does known k told F =
        asked known (λ rows. has rows 130 a 0) (λ x N D. when (not x) (push (some D) (param_undefined line name a)))
        (λ x N D. stays_when (not x) (push (some D) (param_undefined line name a)) (stays_push D (param_undefined line name a))) told (notes_does F b k)

    record_does : {h : ℕ} → h ≡ 45 → Does (λ N D. asking (λ rows. when (not (has rows 130 a 0)) (push (some D) (param_undefined line name a)))) s r b d b d'
        → (ty : TypeRef) → h ≡ head ty → a ≡ arg ty → Does (λ N D. undefined (plain N D) ty (λ (x : ℕ). param_undefined line name x)) s r b d b d'
    unfolding undefined
    record_does z F Integer e f = absurd (omega arith)
    record_does z F Long e f = absurd (omega arith)
    record_does z F Single e f = absurd (omega arith)
    record_does z F Double e f = absurd (omega arith)
    record_does z F (FixedString n) e f = absurd (omega arith)
    record_does z F (Record x) e f = subst (λ (y : ℕ). Does (λ N D. asking (λ rows. when (not (has rows 130 y 0)) (push (some D) (param_undefined line name y)))) s r b d b d') f F

    -- 26 where no TYPE has the name
    pub undefined_record : {h : ℕ} → h ≡ 45 → (known : Bool) → s.rows * width ≤ length b → ((rows : List Row) → Keeps rows s.rows b → known ≡ has rows 130 a 0)
        → Notes (noting (not known) (26 ∷ line ∷ (name + 1) ∷ (a + 1) ∷ 0 ∷ 0 ∷ [])) s r d d'
        → Acts (λ ty. (h ≡ head ty) × (a ≡ arg ty)) (λ ty N D. undefined (plain N D) ty (λ (x : ℕ). param_undefined line name x)) s r b d b d'
    undefined_record z known k told F =
        let G = known_does known k told F in
        record { fit = G.fit; does = λ ty q. record_does z G ty q.0 q.1 }

-- a typed variable
untyped : (scope line : ℕ) (y : Bool) (name : ℕ) (ty : Option TypeRef) → None ≡ written_if ty → (N D : ℕ) (st : State) → st ≡ when (not y) (param_type (plain N D) scope line name ty) st
unfolding param_type
untyped scope line true name ty e N D st = refl
untyped scope line false name none e N D st = refl
untyped scope line false name (some t) e N D st = let z : ◌≡◌ {A = ℕ} 0 1 = cc in absurd (omega arith)

module _ (scope line : ℕ) (p : ParamAt) {s : Counts} {b d : List ℕ} where
  -- an array has no such row
  pub typed_array : p.array ≡ true → Fit s (length b) (length d) → Acts (ParamOf p) (λ q N D. typed_param (plain N D) scope line q) s s b d b d
  unfolding typed_param
  typed_array e k = acts_nothing k (λ q o N D st. ap (λ (y : Bool). when (not y) (param_type (plain N D) scope line q.name q.ty) st) (sym e ∙ o.array))

  -- nor has a parameter without a type
  pub typed_none : p.ty ≡ None → Fit s (length b) (length d) → Acts (ParamOf p) (λ q N D. typed_param (plain N D) scope line q) s s b d b d
  unfolding typed_param
  typed_none e k = acts_nothing k (λ q o N D st. untyped scope line q.array q.name q.ty (sym e ∙ o.ty) N D st)

  module _ {y : Typed} {t r : Counts} {b' d' : List ℕ} (z : p.ty ≡ Some y)
      (F : Acts (λ ty. (y.head ≡ head ty) × (y.arg ≡ arg ty)) (λ ty N D. undefined (plain N D) ty (λ (x : ℕ). param_undefined line p.name x)) s t b d b d')
      (G : Rows (entering (row 134 p.name (scope ∷ y.head ∷ y.arg ∷ 0 ∷ 0 ∷ []))) t r b b') where
    type_does : (ty : Option TypeRef) → Some y ≡ written_if ty → Does (λ N D. param_type (plain N D) scope line p.name ty) s r b d b' d'
    unfolding param_type entering
    type_does none e = let n : ◌≡◌ {A = ℕ} 0 1 = cc in absurd (omega arith)
    type_does (some ty) e =
        let h : y.head ≡ head ty = ap head_word e in
        let a : y.arg ≡ arg ty = ap arg_word e in
        same (λ N D. param_type (plain N D) scope line p.name (some ty))
        (λ N D st. ap₂ (λ (x y : ℕ). (undefined (plain N D) ty (λ (r : ℕ). param_undefined line p.name r) ⨾ enter (some N) (row 134 p.name (scope ∷ x ∷ y ∷ []))) st) h a)
        (then (F.does ty (h, a)) (rows_does G d' F.fit.1))

    -- any other: what is said of its TYPE, then its row
    pub typed_some : p.array ≡ false → Acts (ParamOf p) (λ q N D. typed_param (plain N D) scope line q) s r b d b' d'
    unfolding typed_param
    typed_some e =
        record {
          fit = (G.fit, subst (λ (m : ℕ). m * note_width ≤ length d') (sym G.kept) F.fit.1);
          does = λ q o.
              same (λ N D. typed_param (plain N D) scope line q)
              (λ N D st. ap₂ (λ (y : Bool) (x : ℕ). when (not y) (param_type (plain N D) scope line x q.ty) st) (sym e ∙ o.array) o.name)
              (type_does q.ty (sym z ∙ o.ty));
        }

-- ---- the whole

-- what is said before, its rows, its marks, its arrays, its typed parameters
pub procedure_acts : (bytes ends : List ℕ) (scope : ℕ) {ws : List ℕ} {p : ProcAt} {s s1 s2 s3 s4 r : Counts} {b b1 b2 b3 b' d d1 d' : List ℕ}
    → Acts (ProcOf ws p) (λ f N D. before_entry (given (some N) (some D) bytes ends []) scope p.line f) s s1 b d b d1
    → Enters (ProcOf ws p) (λ f N D. with_params (plain N D) p.line f) s1 s2 b b1
    → Enters (ProcOf ws p) (λ f N D. with_marks (plain N D) f) s2 s3 b1 b2
    → ((t : Tree Seen (one body_sort)) → BodyAt ws p.body p.past t → Enters (ParamsAt ws p.params p.count) (λ ps N D. each (array_param (plain N D) (p.name + 1) p.line t) ps) s3 s4 b2 b3)
    → Acts (ParamsAt ws p.params p.count) (λ ps N D. each (typed_param (plain N D) (p.name + 1) p.line) ps) s4 r b3 d1 b' d'
    → Acts (ProcOf ws p) (λ f N D. procedure (given (some N) (some D) bytes ends []) scope p.line f) s r b d b' d'
unfolding procedure array_param ranked typed_param param_type undefined
procedure_acts bytes ends scope {ws} {p} {s} {s1} {s2} {s3} {s4} {r} {b} {b1} {b2} {b3} {b'} {d} {d1} {d'} F1 F2 F3 F4 F5 = record { fit = F5.fit; does = by }
  where
    by : (f : Proc) → ProcOf ws p f → Does (λ N D. procedure (given (some N) (some D) bytes ends []) scope p.line f) s r b d b' d'
    by f o =
        let k1 : s1.notes * note_width ≤ length d1 = F1.fit.1 in
        let k2 : s2.notes * note_width ≤ length d1 = subst (λ (m : ℕ). m * note_width ≤ length d1) (sym F2.kept) k1 in
        let k3 : s3.notes * note_width ≤ length d1 = subst (λ (m : ℕ). m * note_width ≤ length d1) (sym F3.kept) k2 in
        let all = then (then (then (then (F1.does f o) (F2.does f o d1 k1)) (F3.does f o d1 k2)) ((F4 f.body o.body).does f.params o.params d1 k3)) (F5.does f.params o.params) in
        same (λ N D. procedure (given (some N) (some D) bytes ends []) scope p.line f)
        (λ N D st.
        ap (λ (x : ℕ).
        (before_entry (given (some N) (some D) bytes ends []) scope p.line f
        ⨾ with_params (plain N D) p.line f
        ⨾ with_marks (plain N D) f
        ⨾ each (array_param (plain N D) (x + 1) p.line f.body) f.params
        ⨾ each (typed_param (plain N D) (x + 1) p.line) f.params) st) o.name)
        all

-- the statement is that procedure's step, whatever names are erased
any_erased : (bytes ends erased : List ℕ) (scope line : ℕ) (f : Proc) (N D : ℕ) (st : State)
    → procedure (given (some N) (some D) bytes ends []) scope line f st ≡ procedure (given (some N) (some D) bytes ends erased) scope line f st
unfolding procedure result_type differs check_variable_length_strings param_string array_param ranked typed_param param_type undefined
any_erased bytes ends erased scope line f N D st = refl

-- so the statement is collected, whatever names are erased
pub collects : {ns : List ℕ} {n : ℕ} {k : Kind} {ws bytes ends : List ℕ} (scope : ℕ) {at : ℕ} {p : ProcAt} {s r : Counts} {b d b' d' : List ℕ} → ProcIs ns n k ws at p
    → Acts (ProcOf ws p) (λ f N D. procedure (given (some N) (some D) bytes ends []) scope p.line f) s r b d b' d'
    → (erased : List ℕ) → Collects ns n k ws bytes ends erased scope at s r b d b' d'
collects {ns} {n} {k} {ws} {bytes} {ends} scope {at} {p} {s} {r} {b} {d} {b'} {d'} I F erased = record { does = by }
  where
    by : (line : ℕ) (fields : Tree Expr (row_shape (sorts k))) (end : ℕ) → Stands ws ns n at (Stmt k line fields) end
        → Does (λ N D. statement (given (some N) (some D) bytes ends erased) scope line (view k (over see fields))) s r b d b' d'
    by line fields end S =
        let h = I.shows line fields end S in
        same (λ N D. statement (given (some N) (some D) bytes ends erased) scope line (view k (over see fields)))
        (λ N D st.
        any_erased bytes ends erased scope p.line h.proc N D st
        ∙ ap (λ (l : ℕ). procedure (given (some N) (some D) bytes ends erased) scope l h.proc st) h.line_is
        ∙ ap (λ (g : Step). g st) (sym (h.is (given (some N) (some D) bytes ends erased) scope)))
        (F.does h.proc h.of)

-- ---- loops: one more parameter

module _ (f : Param → Sized) {q : ParamAt} where
  -- what is said of it after what is said of those before
  pub says_next : {s c r : Counts} {d d' d'' : List ℕ} → c.rows ≡ s.rows → Says (ParamOf q) f c r d' d'' → (done : List Param) (p : Param) → ParamOf q p
      → ((b : List ℕ) → s.rows * width ≤ length b → Does (λ N D. each (λ x. f x N D) done) s c b d b d')
      → (b : List ℕ) → s.rows * width ≤ length b → Does (λ N D. each (λ x. f x N D) (done ++ (p ∷ []))) s r b d b d''
  says_next e F done p o G b k = each_next f done p (G b k) (F.does p o b (subst (λ (m : ℕ). m * width ≤ length b) (sym e) k))

  -- its row after theirs
  pub enters_next : {s c r : Counts} {b b' b'' : List ℕ} → c.notes ≡ s.notes → Enters (ParamOf q) f c r b' b'' → (done : List Param) (p : Param) → ParamOf q p
      → ((d : List ℕ) → s.notes * note_width ≤ length d → Does (λ N D. each (λ x. f x N D) done) s c b d b' d)
      → (d : List ℕ) → s.notes * note_width ≤ length d → Does (λ N D. each (λ x. f x N D) (done ++ (p ∷ []))) s r b d b'' d
  enters_next e F done p o G d k = each_next f done p (G d k) (F.does p o d (subst (λ (m : ℕ). m * note_width ≤ length d) (sym e) k))

  -- both
  pub acts_next : {s c r : Counts} {b d b' d' b'' d'' : List ℕ} → Acts (ParamOf q) f c r b' d' b'' d'' → (done : List Param) (p : Param) → ParamOf q p
      → Does (λ N D. each (λ x. f x N D) done) s c b d b' d' → Does (λ N D. each (λ x. f x N D) (done ++ (p ∷ []))) s r b d b'' d''
  acts_next F done p o G = each_next f done p G (F.does p o)
