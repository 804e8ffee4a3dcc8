-- Each definition of `collect`, in their order, keeps the rows such as a lent table may have them; so the rows that collecting gives pass the rule of a
-- lent table, and const_eval may be asked under them. And the diagnostics name names, and both have room. Assumes nothing.
use Rattle.std.specs.Prelude.{ℕ, zero, suc, ◌+◌, ◌*◌, ◌%◌, ◌≤◌, ◌<◌, ◌≡◌, Bool, ◌&&◌, ◌||◌, leb, get_or, Ok, Err, Some}
use Rattle.std.proofs.Math.Path.{refl}
use Rattle.std.proofs.Common.{sym, ◌∙◌, subst, get_or-drop}
use Rattle.std.proofs.Math.Bool.{true, false, not}
use Rattle.std.proofs.lemmas.Bool.{false≢true}
use mathlib.Core.List.{List, [], ◌∷◌, ◌++◌}
use Rattle.std.proofs.Math.Option.{Option, none, some}
use native.Mathlib.Omega.{arith}
use Rattle.std.proofs.Math.Dec.{eqb}
use Rattle.std.specs.Float.Ieee.Bits.{is_true}
use Rattle.std.proofs.Math.ListN.{length, drop, length-append, length-drop}
use borrow.Author.Tests.{leb-true, leb-false, ltb-true, eqb-true, eqb-false, le-leb}
use Rattle.base_words.specs.Word.{kind_of, pay_of, word_of, pick}
use Rattle.base_words.specs.Told.{gives}
use Rattle.base_words.specs.Each.{Each}
use Rattle.tree_expr.specs.Expr.{Expr, Named}
use Rattle.tree_expr.proofs.Parts.{kind_is}
use Rattle.tree_stmt.specs.Sorts.{body, Kind, sorts}
use Rattle.tree_stmt.specs.Tree.{Shape, one, row, Tree, word as leaf, value, Stmt, list, part, this, that, done, cons, none as no_rows, more, Right, over}
use Rattle.tree_stmt.specs.Stands.{Stands}
use Rattle.tree_views.specs.View.{TypeRef, Integer, Long, Single, Double, FixedString, Record, head, arg, head_of, arg_of, Declarator, Param, ScopeItem, FieldDecl, View, Label, LabelName, OptionBase, TypeDef, Const, Shared, Static, Dim, Redim, Sub, Function, Other, view, inner, walk}
use Rattle.fold_values.specs.Value.{literal_kind, low_of, high_of, Fold}
use Rattle.fold_values.specs.ValueLaws.{RowValue, row_rule}
use Rattle.fold_values.proofs.FoldLaws.{RowFold}
use Rattle.fold_values.specs.declared.Value.{Value}
use Rattle.rows_table.specs.Rows.{Row, width, note_width, key_of, key, find, image}
use Rattle.rows_table.specs.Images.{holds_image}
use Rattle.rows_kinds.specs.Kinds.{entry_key, row_word, has, line_row, label_row, type_row, field_row, array_row, typed_var_row, proc_row, param_row, dim_shared_row, shared_row, static_row, static_proc_row, def_fn_row, unranked_row, option_base_row, bit}
use Rattle.rows_lent.specs.Rules.{is_marked, scope_ok, type_ok, rules, row_ok, kind_ok, word_ok, const_ok}
use Rattle.rows_lent.specs.Lent.{Lent, checked, lent_rows}
use Rattle.rows_lent.specs.LentLaws.{checked_complete, lent_rows_lem}
use Rattle.rows_lent.specs.Valid.{item_ok, line_ok, label_ok, type_ok_lem, field_ok, const_ok_lem, array_ok, typed_var_ok, proc_ok, param_ok, dim_shared_ok, shared_ok, static_ok, static_proc_ok, def_fn_ok, unranked_ok, option_base_ok}
use Rattle.fold_const_eval.specs.EvalLaws.{Words32}
use Rattle.fold_const_eval.specs.RowLaws.{consts_enter}
use Rattle.collect_subscript_count.specs.Subscripts.{indexed, subscript_count}
use Rattle.collect_buffers.specs.State.{running, Step, fits}
use Rattle.base_builtins.specs.Builtins.{is_some, is_builtin}
use Rattle.collect_definition.specs.Seen.{Seen, see}
use Rattle.collect_definition.specs.Collect as C
use Rattle.collect_definition.specs.Collect.{Given, Proc, FieldInfo, RecordInfo, has_field, with_field, type_rejected, rejected, field_rows, param_rows, marked, const_of}
use Rattle.collect_definition.specs.Diagnostics.{named, other_rank}
use Rattle.rows_lent.specs.RuleLaws.{words_ok_at, array_name}
use Rattle.law_collected_rows.specs.Good.{FineNote, each_append, GoodRows, Good, Bounded, Entry, no_rows_lem, other, replace_good, Keeps, push_k, change_k, enter_k, nothing_k, stop_k, then_k, pick_k, if_k, when_k, asking_k, each_k, found, good_lent}
use Rattle.law_collected_rows.specs.Uses.{Small}
use Rattle.law_collected_rows.specs.Views.{Folds, Known, stands_known, Scope, marked_scope, TypeFine, OptFine, FineField, FineItem, FineParam, FineDecl, FineParams, FineView, type_or_none_lem, own_scope, module_scope, inner_scope, view_fine}
use Rattle.fold_values.specs.declared.Unfolded.TheVariants.{Overflow, NotConstant}

-- the kind of a row's first word is another than a CONST's
no_const : (k x : ℕ) → eqb k 132 ≡ false → x < 16777216 → kind_of (word_of k x) ≡ 132 → ⊥
no_const k x q h e = eqb-false k 132 q (sym (kind_is k x h) ∙ e)

-- ---- an item's mark: 1 for a variable, 2 for an array

even : (m : ℕ) → m < 4 → eqb (m % 2) 1 ≡ false → item_ok (m + 1) ≡ true
even zero h e = refl
even (suc zero) h e = absurd (false≢true (sym e))
even (suc (suc zero)) h e = refl
even (suc (suc (suc zero))) h e = absurd (false≢true (sym e))
even (suc (suc (suc (suc m)))) h e = absurd (omega arith)

odd : (m : ℕ) → m < 4 → eqb (m % 2) 1 ≡ true → item_ok m ≡ true
odd zero h e = absurd (false≢true e)
odd (suc zero) h e = refl
odd (suc (suc zero)) h e = absurd (false≢true e)
odd (suc (suc (suc zero))) h e = refl
odd (suc (suc (suc (suc m)))) h e = absurd (omega arith)

high : (m : ℕ) → m < 4 → leb 2 m ≡ true → item_ok m ≡ true
high zero h e = absurd (false≢true e)
high (suc zero) h e = absurd (false≢true e)
high (suc (suc zero)) h e = refl
high (suc (suc (suc zero))) h e = refl
high (suc (suc (suc (suc m)))) h e = absurd (omega arith)

low : (m : ℕ) → m < 4 → leb 2 m ≡ false → item_ok (m + 2) ≡ true
low zero h e = refl
low (suc zero) h e = refl
low (suc (suc m)) h e = absurd (omega (arith, leb-false 2 (suc (suc m)) e))

marked_ok : (array : Bool) (m : ℕ) → m < 4 → item_ok (marked array m) ≡ true
unfolding marked
marked_ok true m h = go (leb 2 m) refl
  where
    go : (b : Bool) → leb 2 m ≡ b → item_ok (pick b m (m + 2)) ≡ true
    go true e = high m h e
    go false e = low m h e
marked_ok false m h = go (eqb (m % 2) 1) refl
  where
    go : (b : Bool) → eqb (m % 2) 1 ≡ b → item_ok (pick b m (m + 1)) ≡ true
    go true e = odd m h e
    go false e = even m h e

-- ---- the word under its rule

not_first : (b : Bool) {c : Bool} → pick b false c ≡ true → c ≡ true
not_first true e = absurd (false≢true e)
not_first false e = e

-- the mark of an item that is there
module _ (ns : List ℕ) (r : Row) (w : length r ≡ width) (o : row_ok ns r ≡ true) where
  mark_of : (k : ℕ) → kind_ok ns k r ≡ true → get_or (get_or rules k []) 2 0 ≡ 6 → get_or r 2 0 < 4
  unfolding kind_ok word_ok
  mark_of k e q =
      let t = words_ok_at ns (get_or rules k []) (pay_of (get_or r 0 0) ∷ drop 1 r) 2 e (omega (arith, length-drop 1 r)) in
      let u : item_ok (get_or (drop 1 r) 1 0) ≡ true = rw q at t in
      let v : item_ok (get_or r 2 0) ≡ true = rw (get_or-drop 1 r 1 0) at u in
      ltb-true (get_or r 2 0) 4 (not_first (eqb (get_or r 2 0) 0) v)

  shared_mark : kind_of (get_or r 0 0) ≡ 138 → get_or r 2 0 < 4
  unfolding row_ok
  shared_mark k =
      let e : kind_ok ns 10 r ≡ true = rw k at o in
      mark_of 10 e refl

  static_mark : kind_of (get_or r 0 0) ≡ 139 → get_or r 2 0 < 4
  unfolding row_ok
  static_mark k =
      let e : kind_ok ns 11 r ≡ true = rw k at o in
      mark_of 11 e refl

-- the kind of a row by its key
key_kind : (k name scope a b : ℕ) → name < 16777216 → scope ≤ 16777216 → b < 4294967296 → key_of a b ≡ entry_key k name scope → kind_of a ≡ k
key_kind k name scope a b h s w e = omega arith

none_fits : (w : ℕ) (room : Option ℕ) → fits w room [] ≡ true
unfolding fits
none_fits w none = refl
none_fits w (some k) = le-leb (0 * w) k (omega arith)

module _ (ns : List ℕ) (n : ℕ) where
  -- ---- rows that may be entered

  bits : (b : Bool) → bit b < 4294967296
  bits true = omega arith
  bits false = omega arith

  line_e : (x scope : ℕ) → x < 16777216 → Scope ns n scope → Entry ns n (line_row x scope)
  line_e x scope h s = other ns n (line_row x scope) refl (line_ok ns x scope h s.ok) (no_const 128 x refl h) (omega arith)

  base_e : (x : ℕ) → x < 16777216 → Entry ns n (option_base_row x)
  base_e x h = other ns n (option_base_row x) refl (option_base_ok ns x h) (no_const 143 0 refl (omega arith)) (omega arith)

  module _ (x : ℕ) (h : Named ns x) where
    label_e : (scope : ℕ) → Scope ns n scope → Entry ns n (label_row x scope)
    label_e scope s = other ns n (label_row x scope) refl (label_ok ns x h.fits h.named scope s.ok) (no_const 129 x refl h.fits) (omega arith)

    type_e : (words line : ℕ) → words ≤ 65535 → line < 16777216 → Entry ns n (type_row x words line)
    type_e words line w l = other ns n (type_row x words line) refl (type_ok_lem ns x h.fits h.named words line (omega arith) l) (no_const 130 x refl h.fits) (omega arith)

    field_e : (ordinal field word : ℕ) (t : TypeRef) → ordinal < 16777216 → Named ns field → word ≤ 65535 → TypeFine ns n t → Entry ns n (field_row x ordinal field word (head t) (arg t))
    field_e ordinal field word t o f w q =
        other ns n (field_row x ordinal field word (head t) (arg t)) refl (field_ok ns x h.fits h.named ordinal field word (head t) (arg t) o f.named (omega arith) q) (no_const 131 x refl h.fits) (omega arith)

    const_e : (v : Value) → length ns ≡ n → RowValue n v → Entry ns n (const_of x v)
    unfolding const_of const_ok
    const_e v l r =
        record {
          wide = refl;
          ok = const_ok_lem ns x h.fits h.named (literal_kind v) (low_of v) (high_of v) (rw l (is_true _ (row_rule n v r)));
          narrow = omega arith;
          consts = λ rows C. consts_enter C x v r;
        }

    array_e : (scope rank line : ℕ) (lower : Bool) → Scope ns n scope → rank < 16777216 → line < 16777216 → Entry ns n (array_row x scope rank line lower)
    array_e scope rank line lower s r l =
        other ns n (array_row x scope rank line lower) refl (array_ok ns x h.fits h.named scope rank line lower s.ok r l) (no_const 133 x refl h.fits) (omega (arith, s.fits))

    typed_e : (scope : ℕ) (t : TypeRef) → Scope ns n scope → TypeFine ns n t → Entry ns n (typed_var_row x scope (head t) (arg t))
    typed_e scope t s q = other ns n (typed_var_row x scope (head t) (arg t)) refl (typed_var_ok ns x h.fits h.named scope (head t) (arg t) s.ok q) (no_const 134 x refl h.fits) (omega (arith, s.fits))

    proc_e : (function : Bool) (line : ℕ) (t : Option TypeRef) → line < 16777216 → OptFine ns n t → Entry ns n (proc_row x function line (head_of t) (arg_of t))
    proc_e function line t l q =
        other ns n (proc_row x function line (head_of t) (arg_of t)) refl (proc_ok ns x h.fits h.named function line (head_of t) (arg_of t) l (type_or_none_lem ns n t q)) (no_const 135 x refl h.fits) (omega arith)

    param_e : (ordinal param : ℕ) (byval array : Bool) (t : Option TypeRef) → ordinal < 16777216 → Named ns param → OptFine ns n t → Entry ns n (param_row x ordinal param byval array (head_of t) (arg_of t))
    param_e ordinal param byval array t o f q =
        other ns n (param_row x ordinal param byval array (head_of t) (arg_of t)) refl (param_ok ns x h.fits h.named ordinal param byval array (head_of t) (arg_of t) o f.named (type_or_none_lem ns n t q)) (no_const 136 x refl h.fits) (omega arith)

    dim_shared_e : (array : Bool) → Entry ns n (dim_shared_row x array)
    dim_shared_e array = other ns n (dim_shared_row x array) refl (dim_shared_ok ns x h.fits h.named array) (no_const 137 x refl h.fits) (bits array)

    shared_e : (scope mark : ℕ) → Scope ns n scope → item_ok mark ≡ true → Entry ns n (shared_row x scope mark)
    shared_e scope mark s m = other ns n (shared_row x scope mark) refl (shared_ok ns x h.fits h.named scope mark s.ok m) (no_const 138 x refl h.fits) (omega (arith, s.fits))

    static_e : (scope mark : ℕ) → Scope ns n scope → item_ok mark ≡ true → Entry ns n (static_row x scope mark)
    static_e scope mark s m = other ns n (static_row x scope mark) refl (static_ok ns x h.fits h.named scope mark s.ok m) (no_const 139 x refl h.fits) (omega (arith, s.fits))

    static_proc_e : Entry ns n (static_proc_row x)
    static_proc_e = other ns n (static_proc_row x) refl (static_proc_ok ns x h.fits h.named) (no_const 140 x refl h.fits) (omega arith)

    def_fn_e : Entry ns n (def_fn_row x)
    def_fn_e = other ns n (def_fn_row x) refl (def_fn_ok ns x h.fits h.named) (no_const 141 x refl h.fits) (omega arith)

    unranked_e : (scope : ℕ) → Scope ns n scope → Entry ns n (unranked_row x scope)
    unranked_e scope s = other ns n (unranked_row x scope) refl (unranked_ok ns x h.fits h.named scope s.ok) (no_const 142 x refl h.fits) (omega (arith, s.fits))

    -- the mark that is there, 0 where there is none
    static_word : (scope : ℕ) → Scope ns n scope → (rows : List Row) → GoodRows ns n rows → row_word 2 (find (entry_key 139 x scope) rows) < 4
    unfolding key
    static_word scope s rows g = go (find (entry_key 139 x scope) rows) refl
      where
        go : (o : Option Row) → find (entry_key 139 x scope) rows ≡ o → row_word 2 o < 4
        go none e = omega arith
        go (some r) e =
            let f = found ns n (entry_key 139 x scope) rows r g e in
            static_mark ns r f.wide f.ok (key_kind 139 x scope (get_or r 0 0) (get_or r 1 0) h.fits s.fits f.narrow f.is)

    shared_word : (scope : ℕ) → Scope ns n scope → (rows : List Row) → GoodRows ns n rows → row_word 2 (find (entry_key 138 x scope) rows) < 4
    unfolding key
    shared_word scope s rows g = go (find (entry_key 138 x scope) rows) refl
      where
        go : (o : Option Row) → find (entry_key 138 x scope) rows ≡ o → row_word 2 o < 4
        go none e = omega arith
        go (some r) e =
            let f = found ns n (entry_key 138 x scope) rows r g e in
            shared_mark ns r f.wide f.ok (key_kind 138 x scope (get_or r 0 0) (get_or r 1 0) h.fits s.fits f.narrow f.is)

  -- ---- the rows of a TYPE and of a procedure

  -- a field that was kept
  record Kept (f : FieldInfo) : Type 0 where
    name : Named ns f.name
    word : f.word ≤ 65535
    ty : TypeFine ns n f.ty

  field_rows_lem : (x i : ℕ) (fs : List FieldInfo) → Named ns x → Each Kept fs → i + length fs ≤ 16777216 → Each (Entry ns n) (field_rows x i fs)
  unfolding field_rows Each
  field_rows_lem x i [] h a l = tt
  field_rows_lem x i (f ∷ fs) h a l = (field_e x h i f.name f.word f.ty (omega arith) a.0.name a.0.word a.0.ty, field_rows_lem x (i + 1) fs h a.1 (omega arith))

  param_rows_lem : (x i : ℕ) (ps : List Param) → Named ns x → Each (FineParam ns n) ps → i + length ps ≤ 16777216 → Each (Entry ns n) (param_rows x i ps)
  unfolding param_rows Each
  param_rows_lem x i [] h a l = tt
  param_rows_lem x i (p ∷ ps) h a l =
      (param_e x h i p.name p.byval p.array p.ty (omega arith) a.0.name a.0.ty, param_rows_lem x (i + 1) ps h a.1 (omega arith))

  under : (k x : ℕ) → entry_key k x 0 ≤ entry_key k (x + 1) 0
  under k x = omega arith

  -- ---- diagnostics that name names

  nameless : {code line number note : ℕ} → FineNote ns (code ∷ line ∷ 0 ∷ 0 ∷ number ∷ note ∷ [])
  unfolding scope_ok
  nameless = record { first = refl; second = refl }

  one_name : {code line number note : ℕ} (x : ℕ) → is_marked ns x ≡ true → FineNote ns (code ∷ line ∷ named x ∷ 0 ∷ number ∷ note ∷ [])
  unfolding scope_ok
  one_name x h = record { first = marked_scope ns n x h; second = refl }

  two_names : {code line number note : ℕ} (x y : ℕ) → is_marked ns x ≡ true → is_marked ns y ≡ true → FineNote ns (code ∷ line ∷ named x ∷ named y ∷ number ∷ note ∷ [])
  two_names x y h k = record { first = marked_scope ns n x h; second = marked_scope ns n y k }

  rank_name : (preserve : Bool) (line x rank : ℕ) → is_marked ns x ≡ true → FineNote ns (other_rank preserve line x rank)
  rank_name true line x rank h = one_name x h
  rank_name false line x rank h = one_name x h

  abbrev FineOption : Option Row → Type 0
  FineOption none = Unit {0}
  FineOption (some d) = FineNote ns d

  pick_fine : (b : Bool) (o p : Option Row) → FineOption o → FineOption p → FineOption (pick b o p)
  pick_fine true o p h k = h
  pick_fine false o p h k = k

  type_rejected_fine : (rows : List Row) (line x field : ℕ) (t : TypeRef) → is_marked ns x ≡ true → is_marked ns field ≡ true → TypeFine ns n t → FineOption (type_rejected rows line x field t)
  unfolding type_rejected type_ok
  type_rejected_fine rows line x field Integer h f q = tt
  type_rejected_fine rows line x field Long h f q = tt
  type_rejected_fine rows line x field Single h f q = tt
  type_rejected_fine rows line x field Double h f q = tt
  type_rejected_fine rows line x field (FixedString l) h f q = tt
  type_rejected_fine rows line x field (Record inner) h f q =
      pick_fine (eqb inner x) _ _ (one_name x h) (pick_fine (has rows 130 inner 0) none _ tt (two_names field inner f q))

  rejected_fine : (rows : List Row) (line x : ℕ) (info : RecordInfo) (f : FieldDecl) → Named ns x → FineField ns n f → FineOption (rejected rows line x info f)
  unfolding rejected
  rejected_fine rows line x info f h a =
      pick_fine (has_field f.name info.fields) _ _ (two_names f.name x a.name.named h.named) (type_rejected_fine rows line x f.name f.ty h.named a.name.named a.ty)

  none_bounded : (notes rows : Option ℕ) → Each (FineNote ns) [] × (fits note_width notes [] ≡ true) × (fits width rows [] ≡ true)
  unfolding Each
  none_bounded notes rows = (tt, none_fits note_width notes, none_fits width rows)

  -- ---- the steps

  module _ (G : Given) where
    error_k : {note : Row} → FineNote ns note → Keeps ns n G (C.error G note)
    error_k F = push_k ns n G F

    entry_k : (r : Row) → Entry ns n r → Keeps ns n G (C.entry G r)
    entry_k r E = enter_k ns n G r E

    undefined_k : (t : TypeRef) (d : ℕ → Row) → TypeFine ns n t → ((r : ℕ) → is_marked ns r ≡ true → FineNote ns (d r)) → Keeps ns n G (C.undefined G t d)
    unfolding C.undefined type_ok
    undefined_k Integer d q F = nothing_k ns n G
    undefined_k Long d q F = nothing_k ns n G
    undefined_k Single d q F = nothing_k ns n G
    undefined_k Double d q F = nothing_k ns n G
    undefined_k (FixedString l) d q F = nothing_k ns n G
    undefined_k (Record r) d q F = asking_k ns n G (λ rows g. when_k ns n G (not (has rows 130 r 0)) (error_k (F r q)))

    label_k : (scope line x : ℕ) → Scope ns n scope → x < 16777216 → Keeps ns n G (C.label G scope line x)
    unfolding C.label
    label_k scope line x s h = asking_k ns n G (λ rows g. then_k ns n G (entry_k _ (line_e x scope h s)) (when_k ns n G (has rows 128 x 0) (error_k nameless)))

    label_name_k : (scope line x : ℕ) → Scope ns n scope → Named ns x → Keeps ns n G (C.label_name G scope line x)
    unfolding C.label_name
    label_name_k scope line x s h = asking_k ns n G (λ rows g. then_k ns n G (entry_k _ (label_e x h scope s)) (when_k ns n G (has rows 129 x 0) (error_k (one_name x h.named))))

    or_say_k : {f h : Step} (o : Option Row) → FineOption o → Keeps ns n G f → Keeps ns n G h → Keeps ns n G (C.or_say G o f h)
    or_say_k none q F H = F
    or_say_k (some d) q F H = then_k ns n G (error_k q) H

    fields_k : (rows : List Row) (line x : ℕ) (info : RecordInfo) (fs : List FieldDecl) → line < 16777216 → Named ns x → Each Kept info.fields → info.words ≤ 65535 → Each (FineField ns n) fs
        → length info.fields + length fs ≤ 16777216 → Keeps ns n G (C.fields G rows line x info fs)
    unfolding C.fields Each with_field
    fields_k rows line x info [] l h k w a c =
        change_k ns n G _ (λ old g. replace_good ns n _ _ (type_row x info.words line ∷ field_rows x 0 info.fields) old (under 131 x) (type_e x h info.words line w l, field_rows_lem x 0 info.fields h k (omega arith)) g)
    fields_k rows line x info (f ∷ fs) l h k w a c =
        let f' : FieldInfo = record { name = f.name; word = info.words; ty = f.ty } in
        let k' : Each Kept (info.fields ++ (f' ∷ [])) = each_append Kept info.fields (f' ∷ []) k (record { name = a.0.name; word = w; ty = a.0.ty }, tt) in
        let c' : length (info.fields ++ (f' ∷ [])) + length fs ≤ 16777216 = omega (arith, length-append info.fields (f' ∷ [])) in
        or_say_k (rejected rows line x info f) (rejected_fine rows line x info f h a.0)
        (pick_k ns n G (leb (with_field rows info f).words 65535) (λ e. fields_k rows line x (with_field rows info f) fs l h k' (leb-true _ _ e) a.1 c') (λ e. stop_k ns n G))
        (fields_k rows line x info fs l h k w a.1 (omega arith))

    type_def_k : (scope line x : ℕ) (fs : List FieldDecl) → line < 16777216 → Named ns x → Each (FineField ns n) fs → length fs < 16777216 → Keeps ns n G (C.type_def G scope line x fs)
    unfolding C.type_def Each
    type_def_k scope line x fs l h a c =
        then_k ns n G (then_k ns n G
        (asking_k ns n G (λ rows g. when_k ns n G (has rows 130 x 0) (error_k (one_name x h.named))))
        (when_k ns n G (not (eqb scope 0)) (error_k (one_name x h.named))))
        (asking_k ns n G (λ rows g. fields_k rows line x _ fs l h tt (omega arith) a (omega arith)))

    option_base_k : (line x : ℕ) → x < 16777216 → Keeps ns n G (C.option_base G line x)
    unfolding C.option_base
    option_base_k line x h =
        then_k ns n G (asking_k ns n G (λ rows g. pick_k ns n G (has rows 143 0 0) (λ e. error_k nameless) (λ e. when_k ns n G (C.any_array rows) (error_k nameless)))) (entry_k _ (base_e x h))

    folded_k : (line x : ℕ) (f : Fold) → length ns ≡ n → Named ns x → RowFold n f → Keeps ns n G (C.folded G line x f)
    unfolding C.folded
    folded_k line x (Ok v) c h r = entry_k _ (const_e x h v c r)
    folded_k line x (Err Overflow) c h r = error_k (one_name x h.named)
    folded_k line x (Err NotConstant) c h r = error_k (one_name x h.named)

    const_k : (line x : ℕ) (e : Seen) → length ns ≡ n → Named ns x → Folds n e.folds_to → Keeps ns n G (C.const G line x e)
    unfolding C.const
    const_k line x e c h q =
        then_k ns n G (asking_k ns n G (λ rows g. when_k ns n G (has rows 132 x 0) (error_k (one_name x h.named)))) (asking_k ns n G (λ rows g. folded_k line x (e.folds_to rows) c h (q rows g.consts)))

    item_k : (static : Bool) (scope : ℕ) (i : ScopeItem) → Scope ns n scope → FineItem ns n i → Keeps ns n G (C.item G static scope i)
    unfolding C.item
    item_k true scope i s a = asking_k ns n G (λ rows g. entry_k _ (static_e i.name a.name scope _ s (marked_ok i.array _ (static_word i.name a.name scope s rows g))))
    item_k false scope i s a = asking_k ns n G (λ rows g. entry_k _ (shared_e i.name a.name scope _ s (marked_ok i.array _ (shared_word i.name a.name scope s rows g))))

    typed_k : (scope x : ℕ) (t : Option TypeRef) → Scope ns n scope → Named ns x → OptFine ns n t → Keeps ns n G (C.typed G scope x t)
    unfolding C.typed
    typed_k scope x none s h q = nothing_k ns n G
    typed_k scope x (some t) s h q = entry_k _ (typed_e x h scope t s q)

    item_type_k : (scope : ℕ) (i : ScopeItem) → Scope ns n scope → FineItem ns n i → Keeps ns n G (C.item_type G scope i)
    unfolding C.item_type
    item_type_k scope i s a = when_k ns n G (not i.array) (typed_k scope i.name i.ty s a.name a.ty)

    items_k : (static : Bool) (scope line : ℕ) (is : List ScopeItem) → Scope ns n scope → Each (FineItem ns n) is → Keeps ns n G (C.items G static scope line is)
    unfolding C.items
    items_k static scope line is s a =
        pick_k ns n G (eqb scope 0) (λ e. error_k nameless) (λ e. then_k ns n G (each_k ns n G (λ i q. item_k static scope i s q) is a) (when_k ns n G static (each_k ns n G (λ i q. item_type_k scope i s q) is a)))

    declared_as_k : (scope line : ℕ) (is_redim : Bool) (x : ℕ) (t : Option TypeRef) → Scope ns n scope → Named ns x → OptFine ns n t → Keeps ns n G (C.declared_as G scope line is_redim x t)
    unfolding C.declared_as
    declared_as_k scope line is_redim x none s h q = nothing_k ns n G
    declared_as_k scope line is_redim x (some t) s h q =
        then_k ns n G (then_k ns n G (then_k ns n G
        (when_k ns n G (not (C.is_record t) && C.differs G x t) (error_k (one_name x h.named)))
        (undefined_k t _ q (λ r m. one_name r m)))
        (asking_k ns n G (λ rows g. when_k ns n G (has rows 134 x scope && not is_redim) (error_k (one_name x h.named)))))
        (entry_k _ (typed_e x h scope t s q))

    redeclared_k : (line : ℕ) (is_redim preserve : Bool) (x rank : ℕ) (o : Option Row) → Named ns x → Keeps ns n G (C.redeclared G line is_redim preserve x rank o)
    unfolding C.redeclared
    redeclared_k line is_redim preserve x rank none h = nothing_k ns n G
    redeclared_k line is_redim preserve x rank (some prev) h =
        pick_k ns n G (not is_redim && not (C.member x G.erased)) (λ e. error_k (one_name x h.named)) (λ e. when_k ns n G (not (eqb (get_or prev 2 0) rank)) (error_k (rank_name preserve line x (get_or prev 2 0) h.named)))

    declared_array_k : (scope line : ℕ) (is_redim preserve : Bool) (x : ℕ) (lowers : List (Option Seen)) (dims : Option (List Seen)) → line < 16777216 → Scope ns n scope → Named ns x → Small (indexed dims)
        → Keeps ns n G (C.declared_array G scope line is_redim preserve x lowers dims)
    unfolding C.declared_array indexed
    declared_array_k scope line is_redim preserve x lowers none l s h q = nothing_k ns n G
    declared_array_k scope line is_redim preserve x lowers (some dims) l s h q =
        then_k ns n G (then_k ns n G
        (when_k ns n G (eqb (length dims) 0) (error_k (one_name x h.named)))
        (asking_k ns n G (λ rows g. redeclared_k line is_redim preserve x (length dims) (find (entry_key 133 x scope) rows) h)))
        (asking_k ns n G (λ rows g. entry_k _ (array_e x h scope (length dims) line (C.any_some lowers || eqb (row_word 4 (find (entry_key 133 x scope) rows)) 1) s q l)))

    declared_k : (scope line : ℕ) (is_redim preserve : Bool) (d : Declarator Seen) → line < 16777216 → Scope ns n scope → FineDecl ns n d → Keeps ns n G (C.declared G scope line is_redim preserve d)
    unfolding C.declared
    declared_k scope line is_redim preserve d l s a =
        then_k ns n G (declared_as_k scope line is_redim d.name d.ty s a.name a.ty) (declared_array_k scope line is_redim preserve d.name d.lowers d.dimensions l s a.name a.dims)

    shared_all_k : (d : Declarator Seen) → FineDecl ns n d → Keeps ns n G (C.shared_all G d)
    unfolding C.shared_all
    shared_all_k d a = entry_k _ (dim_shared_e d.name a.name (is_some d.dimensions))

    dim_shared_k : (scope line : ℕ) (ds : List (Declarator Seen)) → Each (FineDecl ns n) ds → Keeps ns n G (C.dim_shared G scope line ds)
    unfolding C.dim_shared
    dim_shared_k scope line ds a = pick_k ns n G (eqb scope 0) (λ e. each_k ns n G (λ d q. shared_all_k d q) ds a) (λ e. error_k nameless)

    dim_k : (scope line : ℕ) (ds : List (Declarator Seen)) (shared : Bool) → line < 16777216 → Scope ns n scope → Each (FineDecl ns n) ds → Keeps ns n G (C.dim G scope line ds shared)
    unfolding C.dim
    dim_k scope line ds shared l s a = then_k ns n G (when_k ns n G shared (dim_shared_k scope line ds a)) (each_k ns n G (λ d q. declared_k scope line false false d l s q) ds a)

    redim_k : (scope line : ℕ) (ds : List (Declarator Seen)) (preserve : Bool) → line < 16777216 → Scope ns n scope → Each (FineDecl ns n) ds → Keeps ns n G (C.redim G scope line ds preserve)
    unfolding C.redim
    redim_k scope line ds preserve l s a = each_k ns n G (λ d q. declared_k scope line true preserve d l s q) ds a

    param_string_k : (line x : ℕ) (p : Param) → Named ns x → FineParam ns n p → Keeps ns n G (C.param_string G line x p)
    unfolding C.param_string
    param_string_k line x p h a = when_k ns n G (not (eqb (C.fixed_length p.ty) 0)) (error_k (two_names p.name x a.name.named h.named))

    strings_k : (line : ℕ) (f : Proc) → Named ns f.name → Each (FineParam ns n) f.params → Keeps ns n G (C.check_variable_length_strings G line f)
    unfolding C.check_variable_length_strings
    strings_k line f h a = then_k ns n G (each_k ns n G (λ p q. param_string_k line f.name p h q) f.params a) (when_k ns n G (not (eqb (C.fixed_length f.ret_ty) 0)) (error_k (one_name f.name h.named)))

    result_type_k : (line x : ℕ) (t : Option TypeRef) → Named ns x → Keeps ns n G (C.result_type G line x t)
    unfolding C.result_type
    result_type_k line x none h = nothing_k ns n G
    result_type_k line x (some t) h = when_k ns n G (C.differs G x t) (error_k (one_name x h.named))

    ranked_k : (scope line x : ℕ) (o : Option ℕ) → line < 16777216 → Scope ns n scope → Named ns x → Small o → Keeps ns n G (C.ranked G scope line x o)
    unfolding C.ranked
    ranked_k scope line x (some rank) l s h q = entry_k _ (array_e x h scope rank line true s q l)
    ranked_k scope line x none l s h q = then_k ns n G (entry_k _ (array_e x h scope 1 line true s (omega arith) l)) (entry_k _ (unranked_e x h scope s))

    array_param_k : (scope line : ℕ) (b : Tree Seen (one body)) (p : Param) → line < 16777216 → Scope ns n scope → FineParam ns n p → ((x : ℕ) → Small (subscript_count (λ name (e : Seen). e.use_under name) x b))
        → Keeps ns n G (C.array_param G scope line b p)
    unfolding C.array_param
    array_param_k scope line b p l s a u = when_k ns n G p.array (ranked_k scope line p.name (subscript_count (λ name (e : Seen). e.use_under name) p.name b) l s a.name (u p.name))

    param_type_k : (scope line x : ℕ) (t : Option TypeRef) → Scope ns n scope → Named ns x → OptFine ns n t → Keeps ns n G (C.param_type G scope line x t)
    unfolding C.param_type
    param_type_k scope line x none s h q = nothing_k ns n G
    param_type_k scope line x (some t) s h q = then_k ns n G (undefined_k t _ q (λ r m. two_names x r h.named m)) (entry_k _ (typed_e x h scope t s q))

    typed_param_k : (scope line : ℕ) (p : Param) → Scope ns n scope → FineParam ns n p → Keeps ns n G (C.typed_param G scope line p)
    unfolding C.typed_param
    typed_param_k scope line p s a = when_k ns n G (not p.array) (param_type_k scope line p.name p.ty s a.name a.ty)

    procedure_k : (scope line : ℕ) (f : Proc) → line < 16777216 → Named ns f.name → FineParams ns n f.params f.body → OptFine ns n f.ret_ty → Keeps ns n G (C.procedure G scope line f)
    unfolding C.procedure Each
    procedure_k scope line f l h a t =
        let s : Scope ns n (f.name + 1) = own_scope ns n f.name h in
        then_k ns n G (then_k ns n G (then_k ns n G (then_k ns n G (then_k ns n G (then_k ns n G (then_k ns n G (then_k ns n G
        (result_type_k line f.name f.ret_ty h)
        (strings_k line f h a.all))
        (when_k ns n G (not (eqb scope 0)) (error_k (one_name f.name h.named))))
        (asking_k ns n G (λ rows g. when_k ns n G (has rows 135 f.name 0) (error_k (one_name f.name h.named)))))
        (change_k ns n G _ (λ old g. replace_good ns n _ _ (proc_row f.name f.is_function line (head_of f.ret_ty) (arg_of f.ret_ty) ∷ param_rows f.name 0 f.params) old (under 136 f.name) (proc_e f.name h f.is_function line f.ret_ty l t, param_rows_lem f.name 0 f.params h a.all (omega (arith, a.few))) g)))
        (when_k ns n G f.is_static (entry_k _ (static_proc_e f.name h))))
        (when_k ns n G f.def_fn (entry_k _ (def_fn_e f.name h))))
        (each_k ns n G (λ p q. array_param_k (f.name + 1) line f.body p l s q a.rank) f.params a.all))
        (each_k ns n G (λ p q. typed_param_k (f.name + 1) line p s q) f.params a.all)

    view_k : (scope line : ℕ) (v : View Seen) → length ns ≡ n → line < 16777216 → Scope ns n scope → FineView ns n v → Keeps ns n G (C.statement G scope line v)
    unfolding C.statement
    view_k scope line (Label x) c l s h = label_k scope line x s h
    view_k scope line (LabelName x) c l s h = label_name_k scope line x s h
    view_k scope line (OptionBase x) c l s h = option_base_k line x h
    view_k scope line (TypeDef x fs) c l s h = type_def_k scope line x fs l h.0 h.1 h.2
    view_k scope line (Const x e) c l s h = const_k line x e c h.0 h.1
    view_k scope line (Shared is) c l s h = items_k false scope line is s h
    view_k scope line (Static is) c l s h = items_k true scope line is s h
    view_k scope line (Dim ds shared) c l s h = dim_k scope line ds shared l s h
    view_k scope line (Redim ds preserve) c l s h = redim_k scope line ds preserve l s h
    view_k scope line (Sub x ps b st) c l s h = procedure_k scope line _ l h.0 h.1 tt
    view_k scope line (Function x ps t b st d) c l s h = procedure_k scope line _ l h.0 h.1 h.2
    view_k scope line Other c l s h = nothing_k ns n G

    -- ---- THE LAWS: a statement, all statements of a tree, a whole program

    -- a right statement's step, without its bodies
    pub statement_good : (scope line : ℕ) (k : Kind) (r : Tree Expr (row (sorts k))) → length ns ≡ n → Scope ns n scope → Right ns n (Stmt k line r) → Known n r → Keeps ns n G (C.statement G scope line (view k (over see r)))
    unfolding Right
    statement_good scope line k r c s h q = view_k scope line (view k (over see r)) c h.0 s (view_fine ns n k r h.1 q)

    walk_k : {i : Shape} (scope : ℕ) (v : Tree Expr i) → length ns ≡ n → Scope ns n scope → Right ns n v → Known n v → Keeps ns n G (walk (C.statement G) scope (over see v))
    unfolding walk over Right Known
    walk_k scope (leaf x) c s h q = nothing_k ns n G
    walk_k scope (value e) c s h q = nothing_k ns n G
    walk_k scope (Stmt k line r) c s h q =
        then_k ns n G (statement_good scope line k r c s h q) (walk_k (inner scope (view k (over see r))) r c (inner_scope ns n (view k (over see r)) s (view_fine ns n k r h.1 q)) h.1 q)
    walk_k scope (list ts) c s h q = walk_k scope ts c s h.1 q
    walk_k scope (part t) c s h q = walk_k scope t c s h q
    walk_k scope (this t) c s h q = walk_k scope t c s h q
    walk_k scope (that t) c s h q = walk_k scope t c s h q
    walk_k scope done c s h q = nothing_k ns n G
    walk_k scope (cons v t) c s h q = then_k ns n G (walk_k scope v c s h.0 q.0) (walk_k scope t c s h.1 q.1)
    walk_k scope no_rows c s h q = nothing_k ns n G
    walk_k scope (more t ts) c s h q = then_k ns n G (walk_k scope t c s h.0 q.0) (walk_k scope ts c s h.1 q.1)

    -- `collect` of a right tree, in any scope
    pub collect_good : {i : Shape} (scope : ℕ) (v : Tree Expr i) → length ns ≡ n → Scope ns n scope → Right ns n v → Known n v → Keeps ns n G (C.collect G scope (over see v))
    unfolding C.collect
    collect_good scope v c s h q = walk_k scope v c s h q

    -- the rows that `collect` gives of a right program
    pub collected_good : {i : Shape} (v : Tree Expr i) → length ns ≡ n → Right ns n v → Known n v → Good ns n (C.collected G v)
    unfolding C.collected
    collected_good v c h q = (collect_good 0 v c (module_scope ns n) h q).on (running [] []) (no_rows_lem ns n)

    collides_k : (line x : ℕ) (o : Option Row) → is_marked ns x ≡ true → Keeps ns n G (C.collides G line x o)
    unfolding C.collides
    collides_k line x (some proc) h = error_k (one_name x h)
    collides_k line x none h = when_k ns n G (is_builtin (G.string x)) (error_k (one_name x h))

    collision_k : (rows : List Row) (r : Row) → row_ok ns r ≡ true → Keeps ns n G (C.collision G rows r)
    unfolding C.collision
    collision_k rows r o =
        if_k ns n G (eqb (kind_of (get_or r 0 0)) 133) (λ e. collides_k (get_or r 3 0) (pay_of (get_or r 0 0)) (find (entry_key 135 (pay_of (get_or r 0 0)) 0) rows) (array_name ns r (eqb-true _ 133 e) o))

    -- the collision check
    pub collisions_good : Keeps ns n G (C.check_name_collisions G)
    unfolding C.check_name_collisions
    collisions_good = asking_k ns n G (λ rows g. each_k ns n G (λ r o. collision_k rows r o) rows g.ok)

    -- the rows after both
    pub analysed_good : {i : Shape} (v : Tree Expr i) → length ns ≡ n → Right ns n v → Known n v → Good ns n (C.analysed G v)
    unfolding C.analysed
    analysed_good v c h q = collisions_good.on (C.collected G v) (collected_good v c h q)

    -- what such a program is told of is bounded
    pub analysed_bounded : {i : Shape} (v : Tree Expr i) → length ns ≡ n → Right ns n v → Known n v → Bounded ns n G (C.analysed G v)
    unfolding C.analysed C.collected
    analysed_bounded v c h q =
        let K = collect_good 0 v c (module_scope ns n) h q in
        collisions_good.bounded (C.collected G v) (collected_good v c h q) (K.bounded (running [] []) (no_rows_lem ns n) (none_bounded G.note_room G.row_room))

-- ---- in lent's own terms: the words of such rows, in a buffer of any length that they fit, are a lent table, and its rows are those

module _ (ns : List ℕ) (n : ℕ) (rows : List Row) (g : GoodRows ns n rows) (N : ℕ) (fit : length rows * width ≤ N) where
  -- they are a lent table
  pub image_lent : Lent ns rows (length rows) (image width N rows)
  image_lent = good_lent ns n g (holds_image N rows g.table fit)

  -- the test of a lent table says so
  pub image_checked : checked ns (image width N rows) ≡ Some (length rows)
  image_checked = checked_complete ns rows (length rows) (image width N rows) image_lent

  -- and gives these rows
  pub image_rows : lent_rows ns (image width N rows) ≡ gives rows
  image_rows = lent_rows_lem ns rows (length rows) (image width N rows) image_lent

-- a program that stands in words of 32 bits: where collecting, with any room, goes through, its rows are accepted as lent
pub collected_lent : {ws ns : List ℕ} {n : ℕ} {i : Shape} {v : Tree Expr i} {at end : ℕ} → Words32 ws → length ns ≡ n → Stands ws ns n at v end → (G : Given) (rows notes : List Row) → C.collected G v ≡ running rows notes
    → (N : ℕ) → length rows * width ≤ N → lent_rows ns (image width N rows) ≡ gives rows
collected_lent {ws} {ns} {n} {v = v} W c s G rows notes e N fit =
    let g : Good ns n (running rows notes) = subst (Good ns n) e (collected_good ns n G v c s.valid (stands_known W s)) in
    image_rows ns n rows g N fit

-- the same with the collision check
pub analysed_lent : {ws ns : List ℕ} {n : ℕ} {i : Shape} {v : Tree Expr i} {at end : ℕ} → Words32 ws → length ns ≡ n → Stands ws ns n at v end → (G : Given) (rows notes : List Row) → C.analysed G v ≡ running rows notes
    → (N : ℕ) → length rows * width ≤ N → lent_rows ns (image width N rows) ≡ gives rows
analysed_lent {ws} {ns} {n} {v = v} W c s G rows notes e N fit =
    let g : Good ns n (running rows notes) = subst (Good ns n) e (analysed_good ns n G v c s.valid (stands_known W s)) in
    image_rows ns n rows g N fit
