-- A declarator's step from what its parts did: its type, its array, both; and each of a list. No line here knows the code. Assumes nothing.
use Prim.Native.Nat.{ℕ, ◌+◌, ◌*◌, ◌<◌, ◌≤◌}
use native.Mathlib.Omega.{arith}
use mathlib.Core.Path.{◌≡◌, refl, sym, ap, subst, ◌∙◌}
use mathlib.Core.Bool.{Bool, true, false, not, ◌&&◌, ◌||◌}
use mathlib.Core.List.{List, [], ◌∷◌}
use mathlib.Core.Option.{Option, none, some}
use lib.Dec.{eqb}
use lib.ListN.{length, get_or}
use borrow.Author.Tests.{eq-eqb, ne_eqb, not-false}
use Rattle.base_words.specs.Word.{pick, pay_of}
use Rattle.base_strings.specs.Table.{string_at}
use Rattle.tree_expr.specs.Expr.{Expr}
use Rattle.tree_stmt.specs.Sorts.{Declarator as DeclaratorRow, many}
use Rattle.tree_stmt.specs.Tree.{Tree, one, row as fields, over}
use Rattle.tree_stmt.specs.Stands.{SomeTree}
use Rattle.tree_stmt.proofs.Nodes.{in_list}
use Rattle.rows_table.specs.Rows.{Row, width, note_width, find}
use Rattle.rows_runs.specs.Runs.{Keeps}
use Rattle.rows_kinds.specs.Kinds.{row as row_of, entry_key, has, row_word, bit, array_row, typed_var_row, dim_shared_row}
use Rattle.tree_views.specs.View.{TypeRef, Integer, Long, Single, Double, FixedString, Record, head, arg, Declarator, items, declarator}
use Rattle.collect_buffers.specs.State.{State, running, stopped, Step, ◌⨾◌, nothing, when, asking, each, enter, push}
use Rattle.collect_buffers.specs.declared.Counts.{Counts}
use Rattle.collect_buffers.specs.Held.{Fit, Sized, Does, Notes, Rows, entering, pushing, noting}
use Rattle.collect_buffers.proofs.Compose.{Stays, notes_does, rows_does, nothing_does, same, then, when_yes, pick_yes, pick_no, asked, each_none, each_next, stays_when, stays_push, stays_enter}
use Rattle.collect_buffers.proofs.RowSteps.{rows_each_none, rows_each_next}
use Rattle.collect_definition.specs.Diagnostics.{suffix_differs, undefined_type, declared_twice, no_dimension, other_rank, dim_shared_inside}
use Rattle.collect_definition.specs.Seen.{Seen, see}
use Rattle.base_builtins.specs.Builtins.{is_some}
use Rattle.collect_definition.specs.Collect.{given, last_of, disagrees, is_record, any_some, member, differs, undefined, declared_as, redeclared, declared_array, declared, shared_all, dim_shared}
use Rattle.std.specs.Prelude.{Option as RustOption, None, Some, is_some as is_there}
use Rattle.rows_lookup.specs.declared.Typed.{Typed}
use Rattle.collect_as_clause.specs.Parts.{NameAt, written, written_if}
use Rattle.collect_as_clause.specs.Names.{name_at_lem}
use Rattle.collect_as_clause.specs.Over.{items_over}
use Rattle.collect_as_clause.specs.Turns.{RowAt, Turn, turn_start, turn_row, turn_next, turn_end, list_all}
use Rattle.collect_dim.specs.declared.decl.Decl.{Decl}
use Rattle.collect_dim.specs.declared.Old.{Old}
use Rattle.collect_dim.specs.declared.Clash.{Clash}
use Rattle.collect_dim.specs.Declarators.{Is, DeclIs, Ready, Contradicts, old_of, old_lower, clash_of, clashes, rank_of, declares, DeclaresType, DeclaresArray, Declares, DeclaresAll, sharing, SharesAll, Shares}

-- ---- steps

noting_stays : (note : Row) (t : Bool) (N D : ℕ) → Stays (noting t note N D)
unfolding noting
noting_stays note t N D = stays_when t (push (some D) note) (stays_push D note)

entering_stays : (row : Row) (N D : ℕ) → Stays (entering row N D)
unfolding entering
entering_stays row N D = stays_enter N row

asking_same : (f g : List Row → Step) → ((rows : List Row) (st : State) → f rows st ≡ g rows st) → (st : State) → asking f st ≡ asking g st
unfolding asking
asking_same f g e (running rows notes) = e rows (running rows notes)
asking_same f g e (stopped k) = refl

asking_nothing : (st : State) → asking (λ rows. nothing) st ≡ st
unfolding asking
asking_nothing (running rows notes) = refl
asking_nothing (stopped k) = refl

-- ---- a type

abbrev undefined_in : ℕ → ℕ → List Row → Bool
undefined_in h a rows = eqb h 45 && not (has rows 130 a 0)

abbrev again_in : (is_redim : Bool) (scope name : ℕ) → List Row → Bool
again_in is_redim scope name rows = has rows 134 name scope && not is_redim

module _ (bytes ends erased : List ℕ) where
  undefined_is : (line : ℕ) (ty : TypeRef) (N D : ℕ) (st : State)
      → asking (λ rows. noting (undefined_in (head ty) (arg ty) rows) (undefined_type line (arg ty)) N D) st ≡ undefined (given (some N) (some D) bytes ends erased) ty (λ (r : ℕ). undefined_type line r) st
  unfolding undefined noting
  undefined_is line Integer N D st = asking_nothing st
  undefined_is line Long N D st = asking_nothing st
  undefined_is line Single N D st = asking_nothing st
  undefined_is line Double N D st = asking_nothing st
  undefined_is line (FixedString n) N D st = asking_nothing st
  undefined_is line (Record r) N D st = refl

  typed_does : (scope line : ℕ) (is_redim : Bool) (name : ℕ) (ty : TypeRef) {s s₁ s₂ s₃ r : Counts} {b d d₁ d₂ d₃ b' : List ℕ} → Fit s (length b) (length d) → (t₁ t₂ t₃ : Bool)
      → t₁ ≡ (not (is_record ty) && disagrees (last_of (string_at bytes ends name)) ty) → Notes (noting t₁ (suffix_differs line name)) s s₁ d d₁
      → ((rows : List Row) → Keeps rows s₁.rows b → t₂ ≡ undefined_in (head ty) (arg ty) rows) → Notes (noting t₂ (undefined_type line (arg ty))) s₁ s₂ d₁ d₂
      → ((rows : List Row) → Keeps rows s₂.rows b → t₃ ≡ again_in is_redim scope name rows) → Notes (noting t₃ (declared_twice line name)) s₂ s₃ d₂ d₃
      → Rows (entering (typed_var_row name scope (head ty) (arg ty))) s₃ r b b'
      → Does (λ N D. declared_as (given (some N) (some D) bytes ends erased) scope line is_redim name (some ty)) s r b d b' d₃
  unfolding declared_as differs noting entering
  typed_does scope line is_redim name ty {s} {s₁} {s₂} {s₃} {r} {b} {d} {d₁} {d₂} {d₃} fit t₁ t₂ t₃ e₁ F₁ e₂ F₂ e₃ F₃ G =
      let one = subst (λ (t : Bool). Does (noting t (suffix_differs line name)) s s₁ b d b d₁) e₁ (notes_does F₁ b fit.0) in
      let two = same (λ N D. undefined (given (some N) (some D) bytes ends erased) ty (λ (r : ℕ). undefined_type line r)) (undefined_is line ty)
      (asked t₂ (undefined_in (head ty) (arg ty)) (λ t. noting t (undefined_type line (arg ty))) (noting_stays (undefined_type line (arg ty))) e₂ (notes_does F₂ b one.fit.0)) in
      let three = asked t₃ (again_in is_redim scope name) (λ t. noting t (declared_twice line name)) (noting_stays (declared_twice line name)) e₃ (notes_does F₃ b two.fit.0) in
      then (then (then one two) three) (rows_does G d₃ three.fit.1)

module _ (bytes ends : List ℕ) (scope line : ℕ) (is_redim : Bool) (v : Decl) where
  -- without a type nothing is done
  pub type_none : v.ty ≡ None → {s : Counts} {b d : List ℕ} → Fit s (length b) (length d) → DeclaresType bytes ends scope line is_redim v s s b d b d
  unfolding declared_as
  type_none e {s} {b} {d} fit = record { fit = fit; does = λ erased x I. go erased x.name x.ty (I.ty ∙ e) }
    where
      go : (erased : List ℕ) (name : ℕ) (o : Option TypeRef) → written_if o ≡ None → Does (λ N D. declared_as (given (some N) (some D) bytes ends erased) scope line is_redim name o) s s b d b d
      go erased name none h = nothing_does fit
      go erased name (some ty) h =
          let z : ◌≡◌ {A = ℕ} 0 1 = cc in
          absurd (omega arith)

  -- 15, 16 and 17 where they are to be said, then its row
  pub type_some : {t : Typed} → v.ty ≡ Some t → {s s₁ s₂ s₃ r : Counts} {b d d₁ d₂ d₃ b' : List ℕ} → Fit s (length b) (length d) → {t₁ t₂ t₃ : Bool}
      → Contradicts bytes ends v.name t.head t₁ → Notes (noting t₁ (suffix_differs line v.name)) s s₁ d d₁
      → ((rows : List Row) → Keeps rows s₁.rows b → t₂ ≡ undefined_in t.head t.arg rows) → Notes (noting t₂ (undefined_type line t.arg)) s₁ s₂ d₁ d₂
      → ((rows : List Row) → Keeps rows s₂.rows b → t₃ ≡ again_in is_redim scope v.name rows) → Notes (noting t₃ (declared_twice line v.name)) s₂ s₃ d₂ d₃
      → Rows (entering (typed_var_row v.name scope t.head t.arg)) s₃ r b b'
      → DeclaresType bytes ends scope line is_redim v s r b d b' d₃
  type_some {t} z {s} {s₁} {s₂} {s₃} {r} {b} {d} {d₁} {d₂} {d₃} {b'} fit {t₁} {t₂} {t₃} e₁ F₁ e₂ F₂ e₃ F₃ G = record {
    fit = (G.fit, subst (λ (n : ℕ). n * note_width ≤ length d₃) (sym G.kept) F₃.fit);
    does = λ erased x I. subst (λ (n : ℕ). Does (λ N D. declared_as (given (some N) (some D) bytes ends erased) scope line is_redim n x.ty) s r b d b' d₃) (sym I.name) (go erased x.ty (I.ty ∙ z));
  }
    where
      go : (erased : List ℕ) (o : Option TypeRef) → written_if o ≡ Some t
          → Does (λ N D. declared_as (given (some N) (some D) bytes ends erased) scope line is_redim v.name o) s r b d b' d₃
      go erased none e =
          let z : ◌≡◌ {A = ℕ} 0 1 = cc in
          absurd (omega arith)
      go erased (some ty) e =
          let q : written ty ≡ t = cc in
          let h : head ty ≡ t.head = ap (λ (x : Typed). x.head) q in
          let a : arg ty ≡ t.arg = ap (λ (x : Typed). x.arg) q in
          typed_does bytes ends erased scope line is_redim v.name ty fit t₁ t₂ t₃
          (e₁ ty (sym h)) F₁
          (λ rows H. e₂ rows H ∙ ap (λ (k : ℕ). undefined_in k t.arg rows) (sym h) ∙ ap (λ (k : ℕ). undefined_in (head ty) k rows) (sym a))
          (subst (λ (k : ℕ). Notes (noting t₂ (undefined_type line k)) s₁ s₂ d₁ d₂) (sym a) F₂)
          e₃ F₃
          (subst (λ (k : ℕ). Rows (entering (typed_var_row v.name scope (head ty) k)) s₃ r b b') (sym a)
          (subst (λ (k : ℕ). Rows (entering (typed_var_row v.name scope k t.arg)) s₃ r b b') (sym h) G))

-- ---- an array

-- whether it had a lower bound, by its row's word
lower_is : (o : Option Row) → old_lower (old_of o) ≡ eqb (row_word 4 o) 1
lower_is none = refl
lower_is (some r) = refl

clashes_stays : (line name : ℕ) (c : RustOption Clash) (N D : ℕ) → Stays (clashes line name c N D)
unfolding pushing
clashes_stays line name None N D = noting_stays [] false N D
clashes_stays line name (Some c) N D = stays_push D (c.code ∷ line ∷ (name + 1) ∷ 0 ∷ c.number ∷ 0 ∷ [])

module _ (bytes ends erased : List ℕ) (line : ℕ) (is_redim preserve : Bool) (name rank : ℕ) where
  redeclared_is : (o : Option Row) (N D : ℕ) (st : State)
      → clashes line name (clash_of erased is_redim preserve name rank (old_of o)) N D st ≡ redeclared (given (some N) (some D) bytes ends erased) line is_redim preserve name rank o st
  unfolding redeclared clash_of noting pushing
  redeclared_is none N D st = refl
  redeclared_is (some prev) N D st = go (not is_redim && not (member name erased)) (eqb (get_or prev 2 0) rank) preserve
    where
      go : (t u p : Bool)
          → clashes line name (pick t (Some (record { code = 19; number = 0 })) (pick u None (Some (record { code = pick p 20 21; number = get_or prev 2 0 })))) N D st
          ≡ pick t (push (some D) (19 ∷ line ∷ (name + 1) ∷ 0 ∷ 0 ∷ 0 ∷ [])) (when (not u) (push (some D) (other_rank p line name (get_or prev 2 0)))) st
      go true u p = refl
      go false true p = refl
      go false false true = refl
      go false false false = refl

  arrayed_does : (scope : ℕ) (lowers : List (Option Seen)) (dims : List Seen) → length dims ≡ rank → {s s₁ s₂ r : Counts} {b d d₁ d₂ b' : List ℕ} → Fit s (length b) (length d) → (old : RustOption Old) (c : RustOption Clash) (low : Bool)
      → Notes (noting (eqb rank 0) (no_dimension line name)) s s₁ d d₁
      → ((rows : List Row) → Keeps rows s₁.rows b → old ≡ old_of (find (entry_key 133 name scope) rows))
      → c ≡ clash_of erased is_redim preserve name rank old → Notes (clashes line name c) s₁ s₂ d₁ d₂
      → low ≡ (any_some lowers || old_lower old)
      → Rows (entering (array_row name scope rank line low)) s₂ r b b'
      → Does (λ N D. declared_array (given (some N) (some D) bytes ends erased) scope line is_redim preserve name lowers (some dims)) s r b d b' d₂
  unfolding declared_array noting entering
  arrayed_does scope lowers dims k {s} {s₁} {s₂} {r} {b} {d} {d₁} {d₂} {b'} fit old c low F₁ O e F₂ l G =
      let one = notes_does F₁ b fit.0 in
      let F = subst (λ (x : RustOption Clash). Notes (clashes line name x) s₁ s₂ d₁ d₂) e F₂ in
      let two = same (λ N D. asking (λ rows. redeclared (given (some N) (some D) bytes ends erased) line is_redim preserve name rank (find (entry_key 133 name scope) rows)))
      (λ N D st. asking_same (λ rows. clashes line name (clash_of erased is_redim preserve name rank (old_of (find (entry_key 133 name scope) rows))) N D)
      (λ rows. redeclared (given (some N) (some D) bytes ends erased) line is_redim preserve name rank (find (entry_key 133 name scope) rows))
      (λ rows st. redeclared_is (find (entry_key 133 name scope) rows) N D st) st)
      (asked old (λ rows. old_of (find (entry_key 133 name scope) rows)) (λ o. clashes line name (clash_of erased is_redim preserve name rank o))
      (λ o N D. clashes_stays line name (clash_of erased is_redim preserve name rank o) N D)
      O (notes_does F b one.fit.0)) in
      let three = asked low (λ rows. any_some lowers || eqb (row_word 4 (find (entry_key 133 name scope) rows)) 1) (λ t. entering (array_row name scope rank line t))
      (λ t N D. entering_stays (array_row name scope rank line t) N D)
      (λ rows H. l ∙ ap (λ (u : Bool). any_some lowers || u) (ap old_lower (O rows (subst (λ (n : ℕ). Keeps rows n b) F₂.kept H)) ∙ lower_is (find (entry_key 133 name scope) rows)))
      (rows_does G d₂ two.fit.1) in
      subst (λ (n : ℕ). Does (λ N D. when (eqb n 0) (push (some D) (no_dimension line name))
      ⨾ asking (λ rows. redeclared (given (some N) (some D) bytes ends erased) line is_redim preserve name n (find (entry_key 133 name scope) rows))
      ⨾ asking (λ rows. enter (some N) (array_row name scope n line (any_some lowers || eqb (row_word 4 (find (entry_key 133 name scope) rows)) 1)))) s r b d b' d₂) (sym k)
      (then (then one two) three)

module _ (erased : List ℕ) (scope line : ℕ) (is_redim preserve : Bool) (v : Decl) where
  -- without dimensions nothing is done
  pub array_none : v.rank ≡ None → {s : Counts} {b d : List ℕ} → Fit s (length b) (length d) → DeclaresArray erased scope line is_redim preserve v s s b d b d
  unfolding declared_array
  array_none e {s} {b} {d} fit = record { fit = fit; does = λ bytes ends x I. go bytes ends x.name x.lowers x.dimensions (I.rank ∙ e) }
    where
      go : (bytes ends : List ℕ) (name : ℕ) (lowers : List (Option Seen)) (o : Option (List Seen)) → rank_of o ≡ None
          → Does (λ N D. declared_array (given (some N) (some D) bytes ends erased) scope line is_redim preserve name lowers o) s s b d b d
      go bytes ends name lowers none h = nothing_does fit
      go bytes ends name lowers (some dims) h =
          let z : ◌≡◌ {A = ℕ} 0 1 = cc in
          absurd (omega arith)

  -- 18 where it has none, what is said of the one that was there, then its row
  pub array_some : {rank : ℕ} → v.rank ≡ Some rank → {s s₁ s₂ r : Counts} {b d d₁ d₂ b' : List ℕ} → Fit s (length b) (length d) → {old : RustOption Old} {c : RustOption Clash} {t : Bool} {w : ℕ}
      → Notes (noting (eqb rank 0) (no_dimension line v.name)) s s₁ d d₁
      → ((rows : List Row) → Keeps rows s₁.rows b → old ≡ old_of (find (entry_key 133 v.name scope) rows))
      → c ≡ clash_of erased is_redim preserve v.name rank old → Notes (clashes line v.name c) s₁ s₂ d₁ d₂
      → t ≡ (v.lower || old_lower old) → w ≡ bit t
      → Rows (entering (row_of 133 v.name (scope ∷ rank ∷ line ∷ w ∷ 0 ∷ []))) s₂ r b b'
      → DeclaresArray erased scope line is_redim preserve v s r b d b' d₂
  array_some {rank} z {s} {s₁} {s₂} {r} {b} {d} {d₁} {d₂} {b'} fit {old} {c} {t} {w} F₁ O e F₂ l q G = record {
    fit = (G.fit, subst (λ (n : ℕ). n * note_width ≤ length d₂) (sym G.kept) F₂.fit);
    does = λ bytes ends x I. subst (λ (n : ℕ). Does (λ N D. declared_array (given (some N) (some D) bytes ends erased) scope line is_redim preserve n x.lowers x.dimensions) s r b d b' d₂) (sym I.name)
        (go bytes ends x.lowers x.dimensions (I.rank ∙ z) I.lower);
  }
    where
      go : (bytes ends : List ℕ) (lowers : List (Option Seen)) (o : Option (List Seen)) → rank_of o ≡ Some rank → any_some lowers ≡ v.lower
          → Does (λ N D. declared_array (given (some N) (some D) bytes ends erased) scope line is_redim preserve v.name lowers o) s r b d b' d₂
      go bytes ends lowers none k a =
          let z : ◌≡◌ {A = ℕ} 0 1 = cc in
          absurd (omega arith)
      go bytes ends lowers (some dims) k a =
          let many : length dims ≡ rank = cc in
          arrayed_does bytes ends erased line is_redim preserve v.name rank scope lowers dims many fit old c t F₁ O e F₂
          (l ∙ ap (λ (x : Bool). x || old_lower old) (sym a))
          (subst (λ (n : ℕ). Rows (entering (row_of 133 v.name (scope ∷ rank ∷ line ∷ n ∷ 0 ∷ []))) s₂ r b b') q G)

-- ---- a declarator

module _ {bytes ends erased : List ℕ} {scope line : ℕ} {is_redim preserve : Bool} where
  -- its type, then its array
  pub declared_does : {v : Decl} {s t r : Counts} {b d b₁ d₁ b' d' : List ℕ} → DeclaresType bytes ends scope line is_redim v s t b d b₁ d₁ → DeclaresArray erased scope line is_redim preserve v t r b₁ d₁ b' d'
      → Declares bytes ends erased scope line is_redim preserve v s r b d b' d'
  unfolding declared
  declared_does T A = record { fit = A.fit; does = λ x I. then (T.does erased x I) (A.does bytes ends x I) }

-- ---- a list of them

-- a declarator as collecting sees it
abbrev pub decl : Tree Expr (fields DeclaratorRow) → Declarator Seen
decl r = declarator (over see r)

module _ (bytes ends erased : List ℕ) (scope line : ℕ) (is_redim preserve : Bool) where
  -- i are declared
  abbrev pub Declaring : (ws : List ℕ) (from total at i : ℕ) (s c : Counts) (b d b' d' : List ℕ) → Type 0
  Declaring ws from total at i s c b d b' d' = Turn decl (λ l. Does (λ N D. each (λ x. declares bytes ends erased scope line is_redim preserve x N D) l) s c b d b' d') ws from total at i

  -- none is declared
  pub declare_start : (ws : List ℕ) (from total : ℕ) {s : Counts} {b d : List ℕ} → Fit s (length b) (length d) → Declaring ws from total from 0 s s b d b d
  declare_start ws from total {s} {b} {d} fit =
      turn_start (λ l. Does (λ N D. each (λ x. declares bytes ends erased scope line is_redim preserve x N D) l) s s b d b d) (each_none (λ x. declares bytes ends erased scope line is_redim preserve x) fit) ws from total

  module _ {ws : List ℕ} {from total m i : ℕ} {s c : Counts} {b d b' d' : List ℕ} (T : Declaring ws from total m i s c b d b' d') where
    -- one more is declared
    pub declare_next : {v : Decl} {r : Counts} {b'' d'' : List ℕ} → i < total → DeclIs ws m v → Declares bytes ends erased scope line is_redim preserve v c r b' d' b'' d''
        → Declaring ws from total v.next (i + 1) s r b d b'' d''
    declare_next {v} {r} {b''} {d''} h K F =
        turn_next T h (λ l. Does (λ N D. each (λ x. declares bytes ends erased scope line is_redim preserve x N D) l) s r b d b'' d'') v.next
        (λ ns n q end S. ((K.is ns n q end S).1, λ l many p. each_next (λ x. declares bytes ends erased scope line is_redim preserve x) l (decl q) p (F.does (decl q) (K.is ns n q end S).0)))

  -- all are declared
  pub declare_end : {ws : List ℕ} {at m i : ℕ} {s c : Counts} {b d b' d' : List ℕ} → Declaring ws (at + 1) (pay_of (get_or ws at 0)) m i s c b d b' d' → pay_of (get_or ws at 0) ≤ i → DeclaresAll ws bytes ends erased scope line is_redim preserve at s c b d b' d'
  declare_end {s = s} {c = c} {b = b} {d = d} {b' = b'} {d' = d'} T z = record {
    does = λ ns n v end S.
        subst (λ (l : List (Declarator Seen)). Does (λ N D. each (λ x. declares bytes ends erased scope line is_redim preserve x N D) l) s c b d b' d') (sym (items_over see declarator decl (λ r. refl) v))
        (list_all decl (λ l e. Does (λ N D. each (λ x. declares bytes ends erased scope line is_redim preserve x N D) l) s c b d b' d') (λ ns n rs end S e. (turn_end T z ns n rs end S e).1) ns n v end S);
  }

-- a list that is ready: as rows, and the next one's name
module _ {bytes ends ws : List ℕ} {at : ℕ} (R : Ready bytes ends ws at) where
  -- it is a list that stands there
  pub ready_tree : SomeTree (one (many DeclaratorRow)) ws at
  ready_tree = record { names = R.marks; strings = R.strings; tree = R.tree; end = R.end; stands = R.stands }

  -- where not all were read, the next one stands at the place
  pub ready_row : {A : Type 0} {f : Tree Expr (fields DeclaratorRow) → A} {P : List A → Type 0} {m i : ℕ} → Turn f P ws (at + 1) (pay_of (get_or ws at 0)) m i → i < pay_of (get_or ws at 0) → RowAt DeclaratorRow ws R.marks R.strings m
  ready_row T h =
      let l = in_list ws R.marks R.strings R.stands in
      turn_row T h l.there l.counted

  -- and its name is a name's number
  pub ready_name : {A : Type 0} {f : Tree Expr (fields DeclaratorRow) → A} {P : List A → Type 0} {m i : ℕ} → Turn f P ws (at + 1) (pay_of (get_or ws at 0)) m i → {v : Decl} → i < pay_of (get_or ws at 0) → DeclIs ws m v → NameAt bytes ends v.name
  ready_name T {v} h K =
      let q = ready_row T h in
      name_at_lem R.named v.name (K.is R.marks R.strings q.tree q.end q.stands).2

-- ---- DIM SHARED

abbrev shares_each : List (Declarator Seen) → Sized
shares_each l N D = each (λ x. sharing x N D) l

-- i are shared
abbrev pub Sharing : (ws : List ℕ) (from total at i : ℕ) (s c : Counts) (b b' : List ℕ) → Type 0
Sharing ws from total at i s c b b' = Turn decl (λ l. Rows (shares_each l) s c b b') ws from total at i

-- none is shared
pub share_start : (ws : List ℕ) (from total : ℕ) {s : Counts} {b : List ℕ} → s.rows * width ≤ length b → Sharing ws from total from 0 s s b b
share_start ws from total {s} {b} fit = turn_start (λ l. Rows (shares_each l) s s b b) (rows_each_none sharing fit) ws from total

ranked_is : (o : Option (List Seen)) → is_there (rank_of o) ≡ is_some o
ranked_is none = refl
ranked_is (some dims) = refl

shared_is : {v : Decl} {x : Declarator Seen} → Is v x → {w : ℕ} {t : Bool} → t ≡ is_there v.rank → w ≡ bit t → {s r : Counts} {b b' : List ℕ} → Rows (entering (row_of 137 v.name (w ∷ 0 ∷ 0 ∷ 0 ∷ 0 ∷ []))) s r b b' → Rows (sharing x) s r b b'
unfolding entering
shared_is {v} {x} I {w} {t} e q {s} {r} {b} {b'} G =
    let A = subst (λ (k : ℕ). Rows (entering (row_of 137 v.name (k ∷ 0 ∷ 0 ∷ 0 ∷ 0 ∷ []))) s r b b') q G in
    let B = subst (λ (t : Bool). Rows (entering (dim_shared_row v.name t)) s r b b') (e ∙ ap is_there (sym I.rank) ∙ ranked_is x.dimensions) A in
    subst (λ (n : ℕ). Rows (entering (dim_shared_row n (is_some x.dimensions))) s r b b') (sym I.name) B

module _ {ws : List ℕ} {from total m i : ℕ} {s c : Counts} {b b' : List ℕ} (T : Sharing ws from total m i s c b b') where
  -- one more is shared
  pub share_next : {v : Decl} {w : ℕ} {t : Bool} {r : Counts} {b'' : List ℕ} → i < total → DeclIs ws m v → t ≡ is_there v.rank → w ≡ bit t → Rows (entering (row_of 137 v.name (w ∷ 0 ∷ 0 ∷ 0 ∷ 0 ∷ []))) c r b' b''
      → Sharing ws from total v.next (i + 1) s r b b''
  share_next {v} {w} {t} {r} {b''} h K e q F =
      turn_next T h (λ l. Rows (shares_each l) s r b b'') v.next
      (λ ns n y end S. ((K.is ns n y end S).1, λ l many p. rows_each_next sharing l (decl y) p (shared_is (K.is ns n y end S).0 e q F)))

-- all are shared
pub share_end : {ws : List ℕ} {at m i : ℕ} {s c : Counts} {b b' : List ℕ} → Sharing ws (at + 1) (pay_of (get_or ws at 0)) m i s c b b' → pay_of (get_or ws at 0) ≤ i → SharesAll ws at s c b b'
share_end {s = s} {c = c} {b = b} {b' = b'} T z = record {
  does = λ ns n v end S.
      subst (λ (l : List (Declarator Seen)). Rows (shares_each l) s c b b') (sym (items_over see declarator decl (λ r. refl) v))
      (list_all decl (λ l e. Rows (shares_each l) s c b b') (λ ns n rs end S e. (turn_end T z ns n rs end S e).1) ns n v end S);
}

module _ {ws : List ℕ} {scope line : ℕ} {shared : Bool} {at : ℕ} {s : Counts} {b d : List ℕ} (fit : Fit s (length b) (length d)) where
  module _ (e : not shared ≡ false) where
    -- in a procedure it is 14
    pub share_inside : (scope ≡ 0 → ⊥) → {r : Counts} {d' : List ℕ} → Notes (pushing (dim_shared_inside line)) s r d d' → Shares ws scope line shared at s r b d b d'
    unfolding dim_shared pushing
    share_inside h F = record {
      does = λ bytes ends erased ns n v end S.
          when_yes shared (not-false shared e) (pick_no (λ N D. each (shared_all (given (some N) (some D) bytes ends erased)) (items declarator (over see v))) (eqb scope 0) (ne_eqb scope 0 h) (notes_does F b fit.0));
    }

    -- in the module all are shared
    pub share_module : scope ≡ 0 → {r : Counts} {b' : List ℕ} → SharesAll ws at s r b b' → Shares ws scope line shared at s r b d b' d
    unfolding dim_shared shared_all
    share_module h F = record {
      does = λ bytes ends erased ns n v end S.
          when_yes shared (not-false shared e) (pick_yes (λ N D. push (some D) (dim_shared_inside line)) (eqb scope 0) (eq-eqb scope 0 h) (rows_does (F.does ns n v end S) d fit.1));
    }
