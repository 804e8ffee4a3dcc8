-- What a TYPE asks of the rows is the same after its own rows are changed: its name is never looked up. Assumes nothing.
use Prim.Native.Nat.{ℕ, suc, ◌+◌, ◌*◌, ◌≤◌, ◌<◌}
use mathlib.Core.Path.{◌≡◌, refl, sym, ap, ◌∙◌, subst}
use mathlib.Core.Bool.{Bool, true, false}
use mathlib.Core.Logic.{inl}
use mathlib.Core.List.{List, [], ◌∷◌, ◌++◌}
use mathlib.Core.Option.{Option, some}
use native.Mathlib.Omega.{arith}
use lib.Dec.{eqb}
use lib.ListN.{length}
use borrow.Author.Tests.{eqb-true, eqb-false}
use Rattle.base_words.specs.Word.{pick}
use Rattle.tree_views.specs.View.{FieldDecl, head, arg}
use Rattle.rows_table.specs.Rows.{Row, width, note_width, key, find, insert, remove}
use Rattle.rows_runs.specs.Laws.{keeps_same}
use Rattle.rows_runs.specs.Ordinals.{InTurn}
use Rattle.rows_table.specs.Laws.{pick_true, pick_false, find_insert_other, find_remove_out}
use Rattle.rows_kinds.specs.Kinds.{entry_key, has, has_row, type_row, field_row, replace_type}
use Rattle.rows_lookup.specs.Lookup.{record_words, type_words}
use Rattle.collect_buffers.specs.State.{State, running, stopped, asking, each, change, enter, fits}
use Rattle.collect_buffers.specs.declared.Counts.{Counts}
use Rattle.collect_buffers.specs.Held.{Held, Sized, Rows, changing, entering}
use Rattle.collect_buffers.proofs.Compose.{stays_each, stays_enter, stays_change, replaced}
use Rattle.collect_definition.specs.Collect.{FieldInfo, field_rows}
use Rattle.collect_type.specs.Types.{type_code, said, code_of, sized, sized_by, kept_fields}
use Rattle.collect_type.proofs.Laws.{code_kept, Put, RowsAre}

-- the TYPE rows of all other names are the same
pub record Alike (owner : ℕ) (rows rows' : List Row) : Type 0 where
  pub same : (x : ℕ) → x < 16777216 → (x ≡ owner → ⊥) → find (entry_key 130 x 0) rows' ≡ find (entry_key 130 x 0) rows

-- rows and themselves
pub alike_refl : {owner : ℕ} {rows : List Row} → Alike owner rows rows
alike_refl = record { same = λ x h n. refl }

-- by way of others
pub alike_trans : {owner : ℕ} {a b c : List Row} → Alike owner a b → Alike owner b c → Alike owner a c
alike_trans A B = record { same = λ x h n. B.same x h n ∙ A.same x h n }

module _ (owner : ℕ) (rows : List Row) where
  -- after fields of the TYPE's own were taken out
  pub alike_remove : (from : ℕ) → from < 16777216 → Alike owner rows (remove (entry_key 131 owner from) (entry_key 131 (owner + 1) 0) rows)
  alike_remove from s = record { same = λ x h n. find_remove_out (entry_key 130 x 0) (entry_key 131 owner from) (entry_key 131 (owner + 1) 0) rows (inl (omega arith)) (omega arith) }

  -- after its own row was entered
  pub alike_type : (words line : ℕ) → Alike owner rows (insert (type_row owner words line) rows)
  unfolding key
  alike_type words line = record { same = λ x h n. find_insert_other (entry_key 130 x 0) (type_row owner words line) rows (λ e. n (omega (arith, e))) }

  -- after a field of its own was
  pub alike_field : (i name word h a : ℕ) → Alike owner rows (insert (field_row owner i name word h a) rows)
  unfolding key
  alike_field i name word h a = record { same = λ x s n. find_insert_other (entry_key 130 x 0) (field_row owner i name word h a) rows (λ e. omega (arith, e)) }

-- the argument of each field's type is a payload
abbrev pub Small : List FieldDecl → Type 0
Small [] = Unit {0}
Small (f ∷ fs) = (arg f.ty < 16777216) × Small fs

-- one more such field
pub small_snoc : (fs : List FieldDecl) (f : FieldDecl) → Small fs → arg f.ty < 16777216 → Small (fs ++ (f ∷ []))
small_snoc [] f S h = (h, tt)
small_snoc (g ∷ gs) f S h = (S.0, small_snoc gs f S.1 h)

-- the second of two lists
pub small_right : (fs gs : List FieldDecl) → Small (fs ++ gs) → Small gs
small_right [] gs S = S
small_right (f ∷ fs) gs S = small_right fs gs S.1

module _ (owner : ℕ) (rows rows' : List Row) (A : Alike owner rows rows') where
  -- a type's code
  pub type_code_alike : (h a : ℕ) → a < 16777216 → type_code rows' owner h a ≡ type_code rows owner h a
  unfolding type_code
  type_code_alike h a s = go (eqb h 45) (eqb a owner) refl
    where
      go : (t u : Bool) → eqb a owner ≡ u → ◌≡◌ {A = ℕ} (pick t (pick u 6 (pick (has rows' 130 a 0) 0 7)) 0) (pick t (pick u 6 (pick (has rows 130 a 0) 0 7)) 0)
      go true true e = refl
      go true false e = ap (λ (r : Option Row). pick (has_row r) 0 7) (A.same a s (eqb-false a owner e))
      go false u e = refl

  said_alike : (x : ℕ) (fs : List FieldDecl) → Small fs → said rows' owner x fs ≡ said rows owner x fs
  unfolding said
  said_alike x [] S = refl
  said_alike x (f ∷ fs) S = rw (type_code_alike (head f.ty) (arg f.ty) S.0, said_alike x fs S.1) refl

  code_alike : (before : List FieldDecl) (name h a : ℕ) → Small before → a < 16777216 → code_of rows' owner before name h a ≡ code_of rows owner before name h a
  unfolding code_of
  code_alike before name h a S s = rw (said_alike name before S, type_code_alike h a s) refl

  words_alike : (h a : ℕ) → a < 16777216 → type_code rows owner h a ≡ 0 → type_words rows' h a ≡ type_words rows h a
  unfolding type_words type_code
  words_alike h a s e = go (eqb h 44) (eqb h 45) refl (eqb a owner) refl
    where
      go : (t u : Bool) → eqb h 45 ≡ u → (v : Bool) → eqb a owner ≡ v
          → ◌≡◌ {A = ℕ} (pick t 2 (pick u (record_words (find (entry_key 130 a 0) rows')) 1)) (pick t 2 (pick u (record_words (find (entry_key 130 a 0) rows)) 1))
      go true u p v q = refl
      go false false p v q = refl
      go false true p true q =
          let z : ◌≡◌ {A = ℕ} 6 0 = sym (pick_true _ _ p ∙ pick_true _ _ q) ∙ e in
          absurd (omega arith)
      go false true p false q = ap record_words (A.same a s (eqb-false a owner q))

  -- the words after a field
  pub sized_alike : (before : List FieldDecl) (words name h a : ℕ) → a < 16777216
      → sized rows' words (code_of rows owner before name h a) h a ≡ sized rows words (code_of rows owner before name h a) h a
  unfolding sized
  sized_alike before words name h a s = go (eqb (code_of rows owner before name h a) 0) refl
    where
      go : (t : Bool) → eqb (code_of rows owner before name h a) 0 ≡ t
          → sized rows' words (code_of rows owner before name h a) h a ≡ sized rows words (code_of rows owner before name h a) h a
      go true e = rw (words_alike h a s (code_kept rows owner before name h a (eqb-true _ 0 e))) refl
      go false e = pick_false _ _ e ∙ sym (pick_false _ _ e)

  -- the kept fields
  pub kept_alike : (words : ℕ) (before fs : List FieldDecl) → Small before → Small fs → kept_fields rows' owner words before fs ≡ kept_fields rows owner words before fs
  unfolding kept_fields
  kept_alike words before [] B S = refl
  kept_alike words before (f ∷ fs) B S =
      rw (
        code_alike before f.name (head f.ty) (arg f.ty) B S.0,
        sized_alike before words f.name (head f.ty) (arg f.ty) S.0,
        kept_alike (sized_by rows owner words before f) (before ++ (f ∷ [])) fs (small_snoc before f B S.0) S.1,
      ) refl

-- ---- states

-- a run's rows are such; of a stopped run nothing is said
abbrev pub AlikeIn : ℕ → List Row → State → Type 0
AlikeIn owner rows (running r n) = Alike owner rows r
AlikeIn owner rows (stopped k) = Unit {0}

-- a change that leaves them such does so in a run
pub change_alike : (owner N : ℕ) (rows : List Row) (f : List Row → List Row) → ((r : List Row) → Alike owner r (f r)) → (st : State) → AlikeIn owner rows st → AlikeIn owner rows (change (some N) f st)
unfolding change
change_alike owner N rows f g (running r n) A = go (fits width (some N) (f r))
  where
    go : (t : Bool) → AlikeIn owner rows (pick t (running (f r) n) (stopped 7))
    go true = alike_trans A (g r)
    go false = tt
change_alike owner N rows f g (stopped k) A = tt

-- the kept fields are entered, whatever the rows are of these
abbrev pub Entering : ℕ → List FieldDecl → Sized
Entering owner fs N D = asking (λ rows. each (enter (some N)) (field_rows owner 0 (kept_fields rows owner 0 [] fs)))

entering_alike : (owner N D : ℕ) (rows : List Row) (fs : List FieldDecl) → Small fs → (st : State) → AlikeIn owner rows st
    → Entering owner fs N D st ≡ each (enter (some N)) (field_rows owner 0 (kept_fields rows owner 0 [] fs)) st
unfolding asking
entering_alike owner N D rows fs S (running r n) A = ap (λ (ks : List FieldInfo). each (enter (some N)) (field_rows owner 0 ks) (running r n)) (kept_alike owner rows r A 0 [] fs tt S)
entering_alike owner N D rows fs S (stopped k) A = sym (stays_each (enter (some N)) (field_rows owner 0 (kept_fields rows owner 0 [] fs)) (λ row. stays_enter N row) k)

-- ---- the rows of the kept fields have the ordinals in turn

field_turn : (owner i : ℕ) (ks : List FieldInfo) → InTurn (entry_key 131 owner i) (field_rows owner i ks)
unfolding field_rows key
field_turn owner i [] = tt
field_turn owner i (k ∷ ks) =
    let next : entry_key 131 owner (i + 1) ≡ suc (entry_key 131 owner i) = omega arith in
    (refl, refl, subst (λ (n : ℕ). InTurn n (field_rows owner (i + 1) ks)) next (field_turn owner (i + 1) ks))

field_count : (owner i : ℕ) (ks : List FieldInfo) → length (field_rows owner i ks) ≡ length ks
unfolding field_rows
field_count owner i [] = refl
field_count owner i (k ∷ ks) = ap (λ (n : ℕ). suc n) (field_count owner (i + 1) ks)

-- the old fields that are not replaced go, the TYPE and the kept ones come
module _ (owner words line many : ℕ) (fs : List FieldDecl) {t t₁ t₂ r : Counts} {b b₁ b₂ b' : List ℕ} (S : Small fs) (few : many < 16777216)
    (R₁ : Rows (changing (remove (entry_key 131 owner many) (entry_key 131 (owner + 1) 0))) t t₁ b b₁) (R₂ : Rows (entering (type_row owner words line)) t₁ t₂ b₁ b₂) (R₃ : Rows (Entering owner fs) t₂ r b₂ b') where
  steps_put : (d : List ℕ) (N D : ℕ) (rows notes : List Row) → Held N D (running rows notes) t b d
      → Held N D (each (enter (some N)) (type_row owner words line ∷ field_rows owner 0 (kept_fields rows owner 0 [] fs)) (change (some N) (remove (entry_key 131 owner many) (entry_key 131 (owner + 1) 0)) (running rows notes))) r b' d
  unfolding changing entering each enter
  steps_put d N D rows notes H =
      let gone : State = change (some N) (remove (entry_key 131 owner many) (entry_key 131 (owner + 1) 0)) (running rows notes) in
      let typed : State = change (some N) (insert (type_row owner words line)) gone in
      let A : AlikeIn owner rows typed =
      change_alike owner N rows (insert (type_row owner words line)) (λ r. alike_type owner r words line) gone
      (change_alike owner N rows (remove (entry_key 131 owner many) (entry_key 131 (owner + 1) 0)) (λ r. alike_remove owner r many few) (running rows notes) alike_refl) in
      subst (λ (st : State). Held N D st r b' d) (entering_alike owner N D rows fs S typed A) (R₃.after d N D typed (R₂.after d N D gone (R₁.after d N D (running rows notes) H)))

  put_running : (d : List ℕ) → t.notes * note_width ≤ length d → (N D : ℕ) (rows notes : List Row) → many ≡ length (kept_fields rows owner 0 [] fs) → Held N D (running rows notes) t b d
      → Held N D (Put rows owner N line words (kept_fields rows owner 0 [] fs) (running rows notes)) r b' d
  unfolding changing key
  put_running d fit N D rows notes e H =
      (replaced 131 owner many (type_row owner words line) (field_rows owner 0 (kept_fields rows owner 0 [] fs)) (omega (arith, few)) (e ∙ sym (field_count owner 0 (kept_fields rows owner 0 [] fs))) refl (omega arith)
      (field_turn owner 0 (kept_fields rows owner 0 [] fs)) {s = t} {r = r} {b = b} {d = d} {b' = b'} {d' = d}
      (record { fit = (R₃.fit, omega (arith, R₁.kept, R₂.kept, R₃.kept)); after = by })).after N D (running rows notes) H
    where
      by : (N' D' : ℕ) (st : State) → Held N' D' st t b d
          → Held N' D' (each (enter (some N')) (type_row owner words line ∷ field_rows owner 0 (kept_fields rows owner 0 [] fs)) (change (some N') (remove (entry_key 131 owner many) (entry_key 131 (owner + 1) 0)) st)) r b' d
      by N' D' (running r' n') K =
          subst (λ (x : List Row). Held N' D' (each (enter (some N')) (type_row owner words line ∷ field_rows owner 0 (kept_fields x owner 0 [] fs)) (change (some N') (remove (entry_key 131 owner many) (entry_key 131 (owner + 1) 0)) (running r' n'))) r b' d)
          (keeps_same K.inside.1 H.inside.1) (steps_put d N' D' r' n' K)
      by N' D' (stopped k) K =
          let z : 0 ≡ k = sym H.inside.0 ∙ K.inside.0 in
          absurd (omega (arith, K.inside.1))

  put_stopped : (d : List ℕ) (N D k : ℕ) → Held N D (stopped k) t b d → Held N D (stopped k) r b' d
  unfolding changing entering enter change asking
  put_stopped d N D k H = R₃.after d N D (stopped k) (R₂.after d N D (stopped k) (R₁.after d N D (stopped k) H))

  -- what these three leave is what the one change of the rows leaves
  pub put_does : (d : List ℕ) → t.notes * note_width ≤ length d → (N D : ℕ) (rows : List Row) (st : State) → RowsAre rows owner st → many ≡ length (kept_fields rows owner 0 [] fs) → Held N D st t b d
      → Held N D (Put rows owner N line words (kept_fields rows owner 0 [] fs) st) r b' d
  put_does d fit N D rows (running r' n') e m H =
      subst (λ (x : List Row). Held N D (Put rows owner N line words (kept_fields x owner 0 [] fs) (running r' n')) r b' d) e
      (put_running d fit N D r' n' (m ∙ ap (λ (x : List Row). length (kept_fields x owner 0 [] fs)) (sym e)) H)
  put_does d fit N D rows (stopped k) e m H = subst (λ (st : State). Held N D st r b' d) (sym (stays_change N (replace_type owner (type_row owner words line ∷ field_rows owner 0 (kept_fields rows owner 0 [] fs))) k)) (put_stopped d N D k H)
