-- The kept fields entered in order: the loop of `enter_fields`. What it asks of the rows is as it was before the first. Assumes nothing.
use Prim.Native.Nat.{ℕ, ◌+◌, ◌*◌, ◌≤◌, ◌<◌}
use mathlib.Core.Path.{◌≡◌, refl, sym, ap, ◌∙◌, subst}
use mathlib.Core.Bool.{Bool, true, false}
use mathlib.Core.List.{List, [], ◌∷◌, ◌++◌}
use mathlib.Core.Option.{some}
use native.Mathlib.Omega.{arith}
use lib.Dec.{eqb}
use lib.ListN.{length, get_or}
use Rattle.base_words.specs.Word.{pick}
use Rattle.tree_expr.specs.Expr.{Expr}
use Rattle.tree_stmt.specs.Sorts.{FieldDecl as FieldRow}
use Rattle.tree_stmt.specs.Tree.{Tree, row as one_row, rows as many_rows, count}
use Rattle.tree_stmt.specs.Stands.{Stands, SomeTree}
use Rattle.tree_views.specs.View.{head, arg, FieldDecl, rows_of, field_decl}
use Rattle.rows_table.specs.Rows.{Row, width, insert}
use Rattle.rows_runs.specs.Runs.{Keeps}
use Rattle.rows_kinds.specs.Kinds.{field_row}
use Rattle.collect_buffers.specs.State.{State, running, stopped, asking, each, enter}
use Rattle.collect_buffers.specs.declared.Counts.{Counts}
use Rattle.collect_buffers.specs.Held.{Held, Rows}
use Rattle.collect_buffers.proofs.Compose.{stays_each, stays_enter}
use Rattle.collect_definition.specs.Collect.{FieldInfo, field_rows}
use Rattle.collect_type.specs.Types.{SomeFields, FieldIs, Below, Marks, type_code, field_code, sized, sized_by, kept_fields, Codes, KeepsField, Enters}
use Rattle.collect_type.specs.declared.read.FieldAt.{FieldAt}
use Rattle.collect_type.specs.declared.Kept.{Kept}
use Rattle.collect_type.proofs.Alike.{Alike, alike_refl, alike_field, Small, small_right, type_code_alike, sized_alike, AlikeIn, change_alike, Entering}
use Rattle.collect_type.proofs.Walk.{rows_small, next_of, next_name, Rest, rest_all, rest_next, rest_none}
use Rattle.collect_type.proofs.Checking.{all_of, more_fields}
use Rattle.collect_type.proofs.Marks.{marks_none, marks_code, marks_next}

-- the rows that a run begins with
abbrev pub rows_in : State → List Row
rows_in (running r n) = r
rows_in (stopped k) = []

-- what is left to enter does the same as all of it
abbrev pub Inside : (owner N : ℕ) → List Row → (whole : State) → (k words : ℕ) → (seen : List ℕ) → (before after : List FieldDecl) → State → Type 0
Inside owner N rows whole k words seen before after (running r n) =
    Alike owner rows r × (each (enter (some N)) (field_rows owner k (kept_fields rows owner words before after)) (running r n) ≡ whole) × Marks 2 rows owner before seen
Inside owner N rows whole k words seen before after (stopped j) = stopped j ≡ whole

module _ (owner N : ℕ) (rows : List Row) (whole : State) where
  inside_of : (k words : ℕ) (seen : List ℕ) (before after : List FieldDecl) (st : State) → AlikeIn owner rows st
      → each (enter (some N)) (field_rows owner k (kept_fields rows owner words before after)) st ≡ whole → Marks 2 rows owner before seen → Inside owner N rows whole k words seen before after st
  inside_of k words seen before after (running r n) A e M = (A, e, M)
  inside_of k words seen before after (stopped j) A e M = sym (stays_each (enter (some N)) (field_rows owner k (kept_fields rows owner words before after)) (λ row. stays_enter N row) j) ∙ e

  inside_end : (k words : ℕ) (seen : List ℕ) (before : List FieldDecl) (st : State) → Inside owner N rows whole k words seen before [] st → st ≡ whole
  unfolding kept_fields field_rows each
  inside_end k words seen before (running r n) I = I.1
  inside_end k words seen before (stopped j) I = I

  keep_alike : (t : Bool) (i name word h a : ℕ) (st : State) → AlikeIn owner rows st → AlikeIn owner rows (each (enter (some N)) (pick t (field_row owner i name word h a ∷ []) []) st)
  unfolding each enter
  keep_alike true i name word h a st A = change_alike owner N rows (insert (field_row owner i name word h a)) (λ r. alike_field owner r i name word h a) st A
  keep_alike false i name word h a st A = A

  keep_one : (k w : ℕ) (f : FieldDecl) (st : State) (t : Bool) (ks : List FieldInfo)
      → each (enter (some N)) (field_rows owner (pick t (k + 1) k) ks) (each (enter (some N)) (pick t (field_row owner k f.name w (head f.ty) (arg f.ty) ∷ []) []) st)
      ≡ each (enter (some N)) (field_rows owner k (pick t (record { name = f.name; word = w; ty = f.ty } ∷ ks) ks)) st
  unfolding field_rows each
  keep_one k w f st true ks = refl
  keep_one k w f st false ks = refl

  keep_step : (k k' w w' code name h a : ℕ) (before tail : List FieldDecl) (f : FieldDecl) (st : State)
      → code ≡ field_code rows owner before f → name ≡ f.name → h ≡ head f.ty → a ≡ arg f.ty → w' ≡ sized rows w code h a → k' ≡ pick (eqb code 0) (k + 1) k
      → each (enter (some N)) (field_rows owner k' (kept_fields rows owner w' (before ++ (f ∷ [])) tail)) (each (enter (some N)) (pick (eqb code 0) (field_row owner k name w h a ∷ []) []) st)
      ≡ each (enter (some N)) (field_rows owner k (kept_fields rows owner w before (f ∷ tail))) st
  unfolding kept_fields
  keep_step k k' w w' code name h a before tail f st ec en eh ea ew ek = rw (ek, ew, ec, en, eh, ea) (keep_one k w f st (eqb (field_code rows owner before f) 0) (kept_fields rows owner (sized_by rows owner w before f) (before ++ (f ∷ [])) tail))

-- before the first all are left to enter
pub inside_start : (owner N D : ℕ) (fs : List FieldDecl) (seen : List ℕ) → Below 2 seen → (st : State) → Inside owner N (rows_in st) (Entering owner fs N D st) 0 0 seen [] fs st
unfolding asking
inside_start owner N D fs seen B (running r n) = (alike_refl, refl, marks_none 2 r owner seen B)
inside_start owner N D fs seen B (stopped k) = refl

-- one more field
module _ (owner N : ℕ) (rows : List Row) (whole : State) (k k' w w' code name h a cnt : ℕ) (before tail : List FieldDecl) (f : FieldDecl) (b seen seen' : List ℕ)
    (s : arg f.ty < 16777216) (en : name ≡ f.name) (eh : h ≡ head f.ty) (ea : a ≡ arg f.ty) (ek : k' ≡ pick (eqb code 0) (k + 1) k)
    (within : name < length seen) (U : Codes 2 owner cnt name h a code b seen seen') (told : (r : List Row) → Keeps r cnt b → w' ≡ sized r w code h a) where
  -- it is entered where it is kept; the others are left
  pub inside_next : (st : State) → ((r n : List Row) → st ≡ running r n → Keeps r cnt b) → Inside owner N rows whole k w seen before (f ∷ tail) st
      → Inside owner N rows whole k' w' seen' (before ++ (f ∷ [])) tail (each (enter (some N)) (pick (eqb code 0) (field_row owner k name w h a ∷ []) []) st)
  inside_next (running r n) H I =
      let small : a < 16777216 = omega (arith, ea, s) in
      let type : type_code r owner h a ≡ type_code rows owner h a = type_code_alike owner rows r I.0 h a small in
      let ec : code ≡ field_code rows owner before f =
      marks_code 2 rows owner before seen I.2 f name en code h a eh ea (U.code r (H r n refl) ∙ ap (λ (t : ℕ). pick (eqb (get_or seen name 0) 2) 5 t) type) in
      let q = told r (H r n refl) in
      let ew₁ : w' ≡ sized r w (field_code rows owner before f) (head f.ty) (arg f.ty) = rw (ec, eh, ea) at q in
      let ew₂ : w' ≡ sized rows w (field_code rows owner before f) (head f.ty) (arg f.ty) = ew₁ ∙ sized_alike owner rows r I.0 before w f.name (head f.ty) (arg f.ty) s in
      let ew : w' ≡ sized rows w code h a = rw (ec, eh, ea) ew₂ in
      inside_of owner N rows whole k' w' seen' (before ++ (f ∷ [])) tail _
      (keep_alike owner N rows whole (eqb code 0) k name w h a (running r n) I.0)
      (keep_step owner N rows whole k k' w w' code name h a before tail f (running r n) ec en eh ea ew ek ∙ I.1)
      (marks_next 2 rows owner before seen I.2 f name en code seen' ec within U.marked)
  inside_next (stopped j) H I =
      subst (Inside owner N rows whole k' w' seen' (before ++ (f ∷ [])) tail) (sym (stays_each (enter (some N)) (pick (eqb code 0) (field_row owner k name w h a ∷ []) []) (λ row. stays_enter N row) j)) I

-- ---- the loop

-- between two fields: the state, and that what is left leads to the same end
pub record Mid (N D owner : ℕ) (st₀ : State) (fs : List FieldDecl) (c : Kept) (b d seen : List ℕ) (before after : List FieldDecl) : Type 0 where
  pub state : State
  pub held : Held N D state c.counts b d
  pub inside : Inside owner N (rows_in st₀) (Entering owner fs N D st₀) c.fields c.words seen before after state

-- after i fields of v, whatever state the run began with
pub record EnteringAt (ws ns : List ℕ) (m : ℕ) (v : Tree Expr (many_rows FieldRow)) (end owner : ℕ) (s : Counts) (b₀ : List ℕ) (c : Kept) (a i : ℕ) (b seen : List ℕ) : Type 0 where
  pub past : Rest ws ns m v end a i
  pub mid : (d : List ℕ) (N D : ℕ) (st₀ : State) → Held N D st₀ s b₀ d → Mid N D owner st₀ (rows_of field_decl v) c b d seen past.before (rows_of field_decl past.rest)

-- the same of whatever fields stand there, and the counts fit
pub record EnteringMid (ws : List ℕ) (at n owner : ℕ) (s : Counts) (b₀ : List ℕ) (c : Kept) (a i : ℕ) (b seen : List ℕ) : Type 0 where
  pub fit : c.counts.rows * width ≤ length b
  pub kept : c.counts.notes ≡ s.notes
  pub few : c.words ≤ 65535
  pub fields : c.fields ≤ i
  pub upto : i ≤ n
  pub walked : (ns : List ℕ) (m : ℕ) (v : Tree Expr (many_rows FieldRow)) (end : ℕ) → Stands ws ns m at v end → n ≤ count v → EnteringAt ws ns m v end owner s b₀ c a i b seen

held_rows : {N D : ℕ} {c : Counts} {b d : List ℕ} (st : State) → Held N D st c b d → (r n : List Row) → st ≡ running r n → Keeps r c.rows b
held_rows {N} {D} {c} {b} {d} st H r n e = (subst (λ (x : State). Held N D x c b d) e H).inside.1

module _ {ws : List ℕ} {at n owner : ℕ} {s : Counts} {b₀ : List ℕ} where
  -- before the first all are left
  pub entering_all : {seen : List ℕ} → s.rows * width ≤ length b₀ → Below 2 seen → EnteringMid ws at n owner s b₀ (record { counts = s; fields = 0; words = 0 }) at 0 b₀ seen
  entering_all {seen} h B =
      record {
        fit = h;
        kept = refl;
        few = omega arith;
        fields = omega arith;
        upto = omega arith;
        walked = λ ns m v end S e. record { past = rest_all S; mid = λ d N D st₀ H. record { state = st₀; held = H; inside = inside_start owner N D (rows_of field_decl v) seen B st₀ } };
      }

  -- where some are left, the next field stands at a
  pub entering_some : {c : Kept} {a i : ℕ} {b seen : List ℕ} → SomeFields ws at n → EnteringMid ws at n owner s b₀ c a i b seen → i < n → SomeTree (one_row FieldRow) ws a
  entering_some {c} {a} {i} {b} {seen} F C h =
      let p = (C.walked F.names F.strings F.tree F.end F.stands F.enough).past in
      let q = next_of p.rest (omega (arith, p.counted, F.enough)) p.there in
      record { names = F.names; strings = F.strings; tree = q.field; end = q.mid; stands = q.here }

  -- and its name's number is below 1,024
  pub entering_name : {c : Kept} {a i : ℕ} {b seen : List ℕ} → SomeFields ws at n → EnteringMid ws at n owner s b₀ c a i b seen → i < n → (f : FieldAt) → FieldIs ws a f → f.name < 1024
  entering_name {c} {a} {i} {b} {seen} F C h f I =
      let p = (C.walked F.names F.strings F.tree F.end F.stands F.enough).past in
      next_name p.rest (next_of p.rest (omega (arith, p.counted, F.enough)) p.there) F.few f I

  -- one more entered, where it is kept
  pub entering_next : {c c' : Kept} {a i : ℕ} {b b' seen seen' : List ℕ} → EnteringMid ws at n owner s b₀ c a i b seen → i < n → (f : FieldAt) → FieldIs ws a f → f.name < length seen → (code : ℕ)
      → Codes 2 owner c.counts.rows f.name f.ty.head f.ty.arg code b seen seen'
      → KeepsField owner code f.name f.ty.head f.ty.arg c c' b b' → EnteringMid ws at n owner s b₀ c' f.next (i + 1) b' seen'
  entering_next {c} {c'} {a} {i} {b} {b'} {seen} {seen'} C h f F within code U K =
      record {
        fit = K.rows.fit;
        kept = K.rows.kept ∙ C.kept;
        few = K.few;
        fields = more_fields code c.fields c'.fields i K.more C.fields;
        upto = omega arith;
        walked = by;
      }
    where
      by : (ns : List ℕ) (m : ℕ) (v : Tree Expr (many_rows FieldRow)) (end : ℕ) → Stands ws ns m at v end → n ≤ count v → EnteringAt ws ns m v end owner s b₀ c' f.next (i + 1) b' seen'
      by ns m v end S e =
          let w = C.walked ns m v end S e in
          let p = w.past in
          let q = next_of p.rest (omega (arith, p.counted)) p.there in
          let g = F.is ns m q.field q.mid q.here in
          let tail : List FieldDecl = rows_of field_decl q.tail in
          let decl : FieldDecl = field_decl q.field in
          let small : Small (p.before ++ (decl ∷ tail)) = subst Small (p.is ∙ ap (λ (l : List FieldDecl). p.before ++ l) q.items) (rows_small ns m v S.valid) in
          record {
            past = rest_next p q f.next g.3;
            mid = λ d N D st₀ H.
                let M = w.mid d N D st₀ H in
                record {
                  state = each (enter (some N)) (pick (eqb code 0) (field_row owner c.fields f.name c.words f.ty.head f.ty.arg ∷ []) []) M.state;
                  held = K.rows.after d N D M.state M.held;
                  inside = inside_next owner N (rows_in st₀) (Entering owner (rows_of field_decl v) N D st₀) c.fields c'.fields c.words c'.words code f.name f.ty.head f.ty.arg c.counts.rows p.before tail decl b seen seen'
                      (small_right p.before (decl ∷ tail) small).0 g.0 g.1 g.2 K.more
                      within U K.size M.state (held_rows M.state M.held)
                      (subst (λ (l : List FieldDecl). Inside owner N (rows_in st₀) (Entering owner (rows_of field_decl v) N D st₀) c.fields c.words seen p.before l M.state) q.items M.inside);
                };
          }

  -- none is left: all kept ones were entered
  pub entering_done : {c : Kept} {a i : ℕ} {b seen : List ℕ} → EnteringMid ws at n owner s b₀ c a i b seen → (i < n → ⊥) → Enters ws at n owner s c.counts b₀ b
  entering_done {c} {a} {i} {b} {seen} C h = record { after = by }
    where
      last : i ≡ n
      last = all_of i n C.upto h

      by : (ns : List ℕ) (m : ℕ) (v : Tree Expr (many_rows FieldRow)) (end : ℕ) → Stands ws ns m at v end → count v ≡ n → Rows (Entering owner (rows_of field_decl v)) s c.counts b₀ b
      by ns m v end S e =
          let w = C.walked ns m v end S (omega arith) in
          let z : rows_of field_decl w.past.rest ≡ [] = rest_none w.past (e ∙ sym last) in
          record {
            fit = C.fit;
            kept = C.kept;
            after = λ d N D st H.
                let M = w.mid d N D st H in
                subst (λ (x : State). Held N D x c.counts b d)
                (inside_end owner N (rows_in st) (Entering owner (rows_of field_decl v) N D st) c.fields c.words seen w.past.before M.state
                (subst (λ (l : List FieldDecl). Inside owner N (rows_in st) (Entering owner (rows_of field_decl v) N D st) c.fields c.words seen w.past.before l M.state) z M.inside))
                M.held;
          }
