-- The fields of a TYPE by their codes: the definition is to look at all of them in order, and then one change of the rows. Assumes nothing.
use Prim.Native.Nat.{ℕ, ◌+◌}
use mathlib.Core.Path.{◌≡◌, refl, sym, ap, ◌∙◌}
use mathlib.Core.Bool.{Bool, true, false, ◌&&◌, ◌||◌, and-true, and-false, or-false}
use mathlib.Core.List.{List, [], ◌∷◌, ◌++◌, append-nil}
use mathlib.Core.Option.{none, some}
use native.Mathlib.Omega.{arith}
use lib.Dec.{leb, eqb}
use lib.Seq.{append_snoc}
use borrow.Author.Tests.{eqb-true, eqb-false, eq-eqb}
use Rattle.base_words.specs.Word.{pick}
use Rattle.tree_views.specs.View.{TypeRef, Integer, Long, Single, Double, FixedString, Record, FieldDecl, head, arg}
use Rattle.rows_table.specs.Rows.{Row}
use Rattle.rows_table.specs.Laws.{pick_true, pick_false}
use Rattle.rows_kinds.specs.Kinds.{has, type_row, replace_type}
use Rattle.rows_lookup.specs.Lookup.{type_words}
use Rattle.collect_buffers.specs.State.{State, running, stopped, Step, nothing, stop, change, push, fits}
use Rattle.collect_buffers.proofs.Compose.{Stays, stays_pick, stays_stop, stays_push, stays_change}
use Rattle.collect_definition.specs.Diagnostics.{field_twice, contains_itself, field_undefined}
use Rattle.collect_definition.specs.Collect.{FieldInfo, RecordInfo, has_field, type_rejected, rejected, with_field, field_rows, given, or_say, fields}
use Rattle.collect_type.specs.Types.{type_code, said, code_of, field_code, note_of, grown, sized, sized_by, looks, checks, total, kept_fields}

-- ---- a field said before: among the kept ones, or among those before it that may stand there

or_step : (t u v w : Bool) → u ≡ (v || w) → (t || u) ≡ ((t || v) || w)
or_step true u v w e = refl
or_step false u v w e = e

has_snoc : (x : ℕ) (fs : List FieldInfo) (f : FieldInfo) → has_field x (fs ++ (f ∷ [])) ≡ (has_field x fs || eqb f.name x)
unfolding has_field
has_snoc x [] f = or-false (eqb f.name x)
has_snoc x (g ∷ gs) f = or_step (eqb g.name x) _ _ _ (has_snoc x gs f)

module _ (rows : List Row) (owner : ℕ) where
  -- a field of the name x that may stand there by its type
  abbrev pub hit : ℕ → FieldDecl → Bool
  hit x f = eqb f.name x && eqb (type_code rows owner (head f.ty) (arg f.ty)) 0

  said_snoc : (x : ℕ) (fs : List FieldDecl) (f : FieldDecl) → said rows owner x (fs ++ (f ∷ [])) ≡ (said rows owner x fs || hit x f)
  unfolding said
  said_snoc x [] f = or-false (hit x f)
  said_snoc x (g ∷ gs) f = or_step (hit x g) _ _ _ (said_snoc x gs f)

  -- a name is among the kept fields exactly where it was said before
  abbrev pub Same : List FieldInfo → List FieldDecl → Type 0
  Same kept before = (x : ℕ) → has_field x kept ≡ said rows owner x before

  -- so it is at first
  pub same_none : Same [] []
  unfolding has_field said
  same_none x = refl

  -- a field of code 0 may stand there by its type
  pub code_kept : (before : List FieldDecl) (name h a : ℕ) → code_of rows owner before name h a ≡ 0 → type_code rows owner h a ≡ 0
  unfolding code_of
  code_kept before name h a e = go (said rows owner name before) e
    where
      go : (t : Bool) → pick t 5 (type_code rows owner h a) ≡ 0 → type_code rows owner h a ≡ 0
      go true q = absurd (omega arith)
      go false q = q

  -- after a kept field its name is said too
  pub said_kept : (x : ℕ) (before : List FieldDecl) (f : FieldDecl) → field_code rows owner before f ≡ 0 → (said rows owner x before || eqb f.name x) ≡ said rows owner x (before ++ (f ∷ []))
  said_kept x before f e =
      ap (λ (t : Bool). said rows owner x before || t) (sym (and-true (eqb f.name x)) ∙ ap (λ (t : Bool). eqb f.name x && t) (sym (eq-eqb _ 0 (code_kept before f.name (head f.ty) (arg f.ty) e))))
      ∙ sym (said_snoc x before f)

  -- after any other the same names are
  pub said_rejected : (x : ℕ) (before : List FieldDecl) (f : FieldDecl) → (field_code rows owner before f ≡ 0 → ⊥) → said rows owner x before ≡ said rows owner x (before ++ (f ∷ []))
  unfolding code_of
  said_rejected x before f n = go (said rows owner f.name before) refl (eqb (type_code rows owner (head f.ty) (arg f.ty)) 0) refl (eqb f.name x) refl ∙ sym (said_snoc x before f)
    where
      go : (t : Bool) → said rows owner f.name before ≡ t → (u : Bool) → eqb (type_code rows owner (head f.ty) (arg f.ty)) 0 ≡ u → (v : Bool) → eqb f.name x ≡ v
          → said rows owner x before ≡ (said rows owner x before || hit x f)
      go true e u p true q =
          let z : said rows owner x before ≡ true = ap (λ (y : ℕ). said rows owner y before) (sym (eqb-true f.name x q)) ∙ e in
          rw (z) refl
      go t e u p false q = rw (q) (sym (or-false (said rows owner x before)))
      go false e false p true q = rw (p, and-false (eqb f.name x)) (sym (or-false (said rows owner x before)))
      go false e true p true q = absurd (n (pick_false 5 _ e ∙ eqb-true _ 0 p))

  same_kept : (kept : List FieldInfo) (before : List FieldDecl) (f : FieldDecl) (word : ℕ) → Same kept before → field_code rows owner before f ≡ 0
      → Same (kept ++ (record { name = f.name; word = word; ty = f.ty } ∷ [])) (before ++ (f ∷ []))
  same_kept kept before f word S e x =
      has_snoc x kept (record { name = f.name; word = word; ty = f.ty }) ∙ ap (λ (t : Bool). t || eqb f.name x) (S x) ∙ said_kept x before f e

  same_rejected : (kept : List FieldInfo) (before : List FieldDecl) (f : FieldDecl) → Same kept before → (field_code rows owner before f ≡ 0 → ⊥) → Same kept (before ++ (f ∷ []))
  same_rejected kept before f S n x = S x ∙ said_rejected x before f n

  -- what is said of a field, by its code
  type_rejected_lem : (line field : ℕ) (t : TypeRef)
      → type_rejected rows line owner field t ≡ pick (eqb (type_code rows owner (head t) (arg t)) 0) none (some (note_of (type_code rows owner (head t) (arg t)) line owner field (arg t)))
  unfolding type_rejected type_code note_of
  type_rejected_lem line field Integer = refl
  type_rejected_lem line field Long = refl
  type_rejected_lem line field Single = refl
  type_rejected_lem line field Double = refl
  type_rejected_lem line field (FixedString n) = refl
  type_rejected_lem line field (Record x) = go (eqb x owner) (has rows 130 x 0)
    where
      go : (t u : Bool) → pick t (some (contains_itself line owner)) (pick u none (some (field_undefined line field x)))
          ≡ pick (eqb (pick t 6 (pick u 0 7)) 0) none (some (note_of (pick t 6 (pick u 0 7)) line owner field x))
      go true u = refl
      go false true = refl
      go false false = refl

  rejected_is : (line : ℕ) (info : RecordInfo) (before : List FieldDecl) (f : FieldDecl) → Same info.fields before
      → rejected rows line owner info f ≡ pick (eqb (field_code rows owner before f) 0) none (some (note_of (field_code rows owner before f) line owner f.name (arg f.ty)))
  unfolding rejected code_of note_of
  rejected_is line info before f S = rw (S f.name) (go (said rows owner f.name before))
    where
      go : (t : Bool) → pick t (some (field_twice line f.name owner)) (type_rejected rows line owner f.name f.ty)
          ≡ pick (eqb (pick t 5 (type_code rows owner (head f.ty) (arg f.ty))) 0) none (some (note_of (pick t 5 (type_code rows owner (head f.ty) (arg f.ty))) line owner f.name (arg f.ty)))
      go true = refl
      go false = type_rejected_lem line f.name f.ty

  -- ---- looking at the fields

  abbrev Look : ℕ → (line words : ℕ) → (before : List FieldDecl) → FieldDecl → Step
  Look D line words before f = looks D rows line owner words (field_code rows owner before f) f.name (head f.ty) (arg f.ty)

  looks_stays : (D line words code name h a : ℕ) → Stays (looks D rows line owner words code name h a)
  unfolding looks
  looks_stays D line words code name h a =
      stays_pick (eqb code 0) _ _ (stays_pick (leb (words + type_words rows h a) 65535) _ _ (λ k. refl) (stays_stop 9)) (stays_push D (note_of code line owner name a))

  -- a stopped run stays as it is
  pub checks_stays : (D line words : ℕ) (before fs : List FieldDecl) → Stays (checks D rows line owner words before fs)
  unfolding checks
  checks_stays D line words before [] k = refl
  checks_stays D line words before (f ∷ fs) k =
      ap (checks D rows line owner (sized_by rows owner words before f) (before ++ (f ∷ [])) fs) (looks_stays D line words (field_code rows owner before f) f.name (head f.ty) (arg f.ty) k)
      ∙ checks_stays D line (sized_by rows owner words before f) (before ++ (f ∷ [])) fs k

  -- the TYPE and the kept fields as one change
  abbrev pub Put : (N line words : ℕ) → List FieldInfo → Step
  Put N line words kept = change (some N) (replace_type owner (type_row owner words line ∷ field_rows owner 0 kept))

  module _ (N D line : ℕ) (bytes ends erased : List ℕ) where
    stopped_both : (words : ℕ) (before fs : List FieldDecl) (w : ℕ) (kept : List FieldInfo) (st : State)
        → stop 9 st ≡ Put N line w kept (checks D rows line owner words before fs (stop 9 st))
    unfolding stop
    stopped_both words before fs w kept (running r n) = sym (ap (Put N line w kept) (checks_stays D line words before fs 9) ∙ stays_change N _ 9)
    stopped_both words before fs w kept (stopped k) = sym (ap (Put N line w kept) (checks_stays D line words before fs k) ∙ stays_change N _ k)

    abbrev Split : RecordInfo → (before fs : List FieldDecl) → State → Type 0
    Split info before fs st =
        fields (given (some N) (some D) bytes ends erased) rows line owner info fs st
        ≡ Put N line (total rows owner info.words before fs) (info.fields ++ kept_fields rows owner info.words before fs) (checks D rows line owner info.words before fs st)

    -- one field: kept and not too long, too long, rejected
    split_kept : (info : RecordInfo) (before fs : List FieldDecl) (f : FieldDecl) (st : State) → eqb (field_code rows owner before f) 0 ≡ true
        → leb (info.words + type_words rows (head f.ty) (arg f.ty)) 65535 ≡ true → Split (with_field rows info f) (before ++ (f ∷ [])) fs st
        → fields (given (some N) (some D) bytes ends erased) rows line owner (with_field rows info f) fs st
        ≡ Put N line (total rows owner info.words before (f ∷ fs)) (info.fields ++ kept_fields rows owner info.words before (f ∷ fs)) (checks D rows line owner info.words before (f ∷ fs) st)
    unfolding with_field checks total kept_fields looks sized grown
    split_kept info before fs f st e l ih =
        rw (e, l) (ih ∙ ap (λ (k : List FieldInfo). Put N line
        (total rows owner (info.words + type_words rows (head f.ty) (arg f.ty)) (before ++ (f ∷ [])) fs) k
        (checks D rows line owner (info.words + type_words rows (head f.ty) (arg f.ty)) (before ++ (f ∷ [])) fs st))
        (append_snoc info.fields (record { name = f.name; word = info.words; ty = f.ty }) (kept_fields rows owner (info.words + type_words rows (head f.ty) (arg f.ty)) (before ++ (f ∷ [])) fs)))

    split_long : (info : RecordInfo) (before fs : List FieldDecl) (f : FieldDecl) (st : State) → eqb (field_code rows owner before f) 0 ≡ true
        → leb (info.words + type_words rows (head f.ty) (arg f.ty)) 65535 ≡ false
        → stop 9 st
        ≡ Put N line (total rows owner info.words before (f ∷ fs)) (info.fields ++ kept_fields rows owner info.words before (f ∷ fs)) (checks D rows line owner info.words before (f ∷ fs) st)
    unfolding checks looks
    split_long info before fs f st e l =
        let w : ℕ = total rows owner info.words before (f ∷ fs) in
        let k : List FieldInfo = info.fields ++ kept_fields rows owner info.words before (f ∷ fs) in
        stopped_both (sized_by rows owner info.words before f) (before ++ (f ∷ [])) fs w k st
        ∙ ap (λ (g : Step). Put N line w k (checks D rows line owner (sized_by rows owner info.words before f) (before ++ (f ∷ [])) fs (g st)))
        (sym (pick_true {A = Step} (pick (leb (info.words + type_words rows (head f.ty) (arg f.ty)) 65535) nothing (stop 9)) (push (some D) (note_of (field_code rows owner before f) line owner f.name (arg f.ty))) e ∙ pick_false {A = Step} nothing (stop 9) l))

    split_rejected : (info : RecordInfo) (before fs : List FieldDecl) (f : FieldDecl) (st : State) → eqb (field_code rows owner before f) 0 ≡ false
        → Split info (before ++ (f ∷ [])) fs (push (some D) (note_of (field_code rows owner before f) line owner f.name (arg f.ty)) st)
        → fields (given (some N) (some D) bytes ends erased) rows line owner info fs (push (some D) (note_of (field_code rows owner before f) line owner f.name (arg f.ty)) st)
        ≡ Put N line (total rows owner info.words before (f ∷ fs)) (info.fields ++ kept_fields rows owner info.words before (f ∷ fs)) (checks D rows line owner info.words before (f ∷ fs) st)
    unfolding checks total kept_fields looks sized
    split_rejected info before fs f st e ih = rw (e) ih

    -- the definition's fields are to look at all of them, and then to put the TYPE with the kept ones
    pub fields_split : (info : RecordInfo) (before fs : List FieldDecl) → Same info.fields before → (st : State) → Split info before fs st
    unfolding fields checks total kept_fields with_field
    fields_split info before [] S st = ap (λ (l : List FieldInfo). Put N line info.words l st) (sym (append-nil info.fields))
    fields_split info before (f ∷ fs) S st =
        rw (rejected_is line info before f S) (go (λ i b H t. fields_split i b fs H t) (eqb (field_code rows owner before f) 0) refl (leb (info.words + type_words rows (head f.ty) (arg f.ty)) 65535) refl)
      where
        go : ((i : RecordInfo) (b : List FieldDecl) → Same i.fields b → (t : State) → Split i b fs t)
            → (t : Bool) → eqb (field_code rows owner before f) 0 ≡ t → (u : Bool) → leb (info.words + type_words rows (head f.ty) (arg f.ty)) 65535 ≡ u
            → or_say (given (some N) (some D) bytes ends erased) (pick t none (some (note_of (field_code rows owner before f) line owner f.name (arg f.ty))))
            (pick u (fields (given (some N) (some D) bytes ends erased) rows line owner (with_field rows info f) fs) (stop 9))
            (fields (given (some N) (some D) bytes ends erased) rows line owner info fs) st
            ≡ Put N line (total rows owner info.words before (f ∷ fs)) (info.fields ++ kept_fields rows owner info.words before (f ∷ fs)) (checks D rows line owner info.words before (f ∷ fs) st)
        go ih true e true l = split_kept info before fs f st e l (ih (with_field rows info f) (before ++ (f ∷ [])) (same_kept info.fields before f info.words S (eqb-true _ 0 e)) st)
        go ih true e false l = split_long info before fs f st e l
        go ih false e u l = split_rejected info before fs f st e (ih info (before ++ (f ∷ [])) (same_rejected info.fields before f S (eqb-false _ 0 e)) _)

  -- ---- the rows stay as they are while the fields are looked at

  -- the rows of a run are these; of a stopped run nothing is said
  abbrev pub RowsAre : State → Type 0
  RowsAre (running r n) = r ≡ rows
  RowsAre (stopped k) = Unit {0}

  push_rows : (D : ℕ) (note : Row) (st : State) → RowsAre st → RowsAre (push (some D) note st)
  unfolding push
  push_rows D note (running r n) e = go (fits 6 (some D) (n ++ (note ∷ [])))
    where
      go : (t : Bool) → RowsAre (pick t (running r (n ++ (note ∷ []))) (stopped 8))
      go true = e
      go false = tt
  push_rows D note (stopped k) e = tt

  stop_rows : (st : State) → RowsAre (stop 9 st)
  unfolding stop
  stop_rows (running r n) = tt
  stop_rows (stopped k) = tt

  looks_rows : (D line words code name h a : ℕ) (st : State) → RowsAre st → RowsAre (looks D rows line owner words code name h a st)
  unfolding looks
  looks_rows D line words code name h a st e = go (eqb code 0) (leb (words + type_words rows h a) 65535)
    where
      go : (t u : Bool) → RowsAre (pick t (pick u nothing (stop 9)) (push (some D) (note_of code line owner name a)) st)
      go true true = e
      go true false = stop_rows st
      go false u = push_rows D (note_of code line owner name a) st e

  -- looking at the fields leaves them
  pub checks_rows : (D line words : ℕ) (before fs : List FieldDecl) (st : State) → RowsAre st → RowsAre (checks D rows line owner words before fs st)
  unfolding checks
  checks_rows D line words before [] st e = e
  checks_rows D line words before (f ∷ fs) st e =
      checks_rows D line (sized_by rows owner words before f) (before ++ (f ∷ [])) fs (Look D line words before f st)
      (looks_rows D line words (field_code rows owner before f) f.name (head f.ty) (arg f.ty) st e)
