-- From what the calls did, what is read of an item, what is done for it, for all items of a list, for a statement. No line here knows the code. Assumes nothing.
use Prim.Native.Nat.{ℕ, ◌+◌, ◌*◌, ◌%◌, ◌<◌, ◌≤◌}
use mathlib.Core.Path.{◌≡◌, refl, sym, ap, ◌∙◌, subst}
use mathlib.Core.Bool.{true, false}
use mathlib.Core.List.{List, [], ◌∷◌, append-nil}
use mathlib.Core.Option.{Option, none, some}
use native.Mathlib.Omega.{arith}
use lib.Dec.{eqb}
use lib.ListN.{length, get_or}
use borrow.Author.Tests.{eq-eqb, ne_eqb, le-leb, lt-leb}
use Rattle.base_words.specs.Word.{pay_of}
use Rattle.tree_expr.specs.Expr.{Expr}
use Rattle.tree_expr.proofs.Parts.{wrote_first, pay_is}
use Rattle.tree_stmt.specs.Sorts.{sorts, nil, ◌&◌, opt, many, TypeRef as TypeSort, ScopeItem as ItemRow, shared as shared_kind, static as static_kind}
use Rattle.tree_stmt.specs.Tree.{Tree, one, row as row_shape, Stmt, word, cons, done, words_t, Right, over}
use Rattle.tree_stmt.specs.Stands.{Stands, SomeTree}
use Rattle.tree_stmt.proofs.Nodes.{cons_last, stmt_line}
use Rattle.rows_table.specs.Rows.{Row, width, note_width, find}
use Rattle.rows_runs.specs.Runs.{Keeps}
use Rattle.rows_kinds.specs.Kinds.{row, entry_key, row_word}
use Rattle.tree_views.specs.View.{TypeRef, ScopeItem, View, Shared, Static, is_set, scope_item, items, view}
use Rattle.collect_buffers.specs.State.{each, enter}
use Rattle.collect_buffers.specs.declared.Counts.{Counts}
use Rattle.collect_buffers.specs.Held.{Does, Notes, Rows, entering, pushing}
use Rattle.collect_buffers.proofs.Compose.{stays_enter, then, rows_does, notes_does, pick_yes, pick_no}
use Rattle.collect_buffers.proofs.RowSteps.{rows_nothing, rows_asked, rows_each_none, rows_each_next}
use Rattle.collect_definition.specs.Diagnostics.{items_outside}
use Rattle.collect_definition.specs.Seen.{Seen, see}
use Rattle.collect_definition.specs.Collect.{given, marked, typed, item_type, item, statement}
use Rattle.collect_definition.specs.Collect as C
use Rattle.std.specs.Prelude.{Option as RustOption, None, Some}
use Rattle.rows_lookup.specs.declared.Typed.{Typed}
use Rattle.collect_as_clause.specs.Parts.{AsTypeIs, written, written_if}
use Rattle.collect_as_clause.specs.Over.{scope_items_over}
use Rattle.collect_as_clause.specs.Turns.{Turn, turn_start, turn_next, turn_some, turn_end, list_rows, list_all}
use Rattle.collect_definition.specs.Code.{SomeStmt, CollectsAny}
use Rattle.collect_shared_static.specs.declared.ItemAt.{ItemAt}
use Rattle.collect_shared_static.specs.Items.{ItemIs, item_as, Enters, EntersAll}

-- ---- an item, read

record InItem (ws ns : List ℕ) (n at : ℕ) (r : Tree Expr (row_shape ItemRow)) (end : ℕ) : Type 0 where
  name : ℕ
  flag : ℕ
  ty : Tree Expr (one (opt (TypeSort & nil)))
  inside : at + 1 < length ws
  name_is : pay_of (get_or ws at 0) ≡ name
  flag_is : pay_of (get_or ws (at + 1) 0) ≡ flag
  there : Stands ws ns n (at + 2) ty end
  is : r ≡ cons (word name) (cons (word flag) (cons ty done))

in_item : {ws ns : List ℕ} {n at end : ℕ} (r : Tree Expr (row_shape ItemRow)) → Stands ws ns n at r end → InItem ws ns n at r end
unfolding words_t Right
in_item {at = at} (cons (word x) (cons (word y) (cons t done))) S =
    let f = wrote_first S.wrote in
    let g = wrote_first f.rest in
    let q = g.rest in
    let p : at + 1 + 1 ≡ at + 2 = omega arith in
    record {
      name = x;
      flag = y;
      ty = t;
      inside = g.inside;
      name_is = ap pay_of f.is ∙ pay_is 2 x S.valid.0.1;
      flag_is = ap pay_of g.is ∙ pay_is 3 y S.valid.1.0.1;
      there = record { wrote = rw (append-nil (words_t t), p) at q; valid = S.valid.1.1.0 };
      is = refl;
    }

module _ {ws : List ℕ} {at : ℕ} where
  -- its name and its flag are within the words
  pub item_inside : SomeTree (row_shape ItemRow) ws at → at + 1 < length ws
  item_inside S = (in_item S.tree S.stands).inside

  -- its AS clause stands after them
  pub item_type_lem : SomeTree (row_shape ItemRow) ws at → SomeTree (one (opt (TypeSort & nil))) ws (at + 2)
  item_type_lem S =
      let i = in_item S.tree S.stands in
      record { names = S.names; strings = S.strings; tree = i.ty; end = S.end; stands = i.there }

  -- so the item is read from these words
  pub item_is : {ty : RustOption Typed} {next : ℕ} → AsTypeIs ws (at + 2) ty next
      → ItemIs ws at (record { name = pay_of (get_or ws at 0); array = eqb (pay_of (get_or ws (at + 1) 0)) 1; ty = ty; next = next })
  unfolding scope_item is_set
  item_is T = record {
    is = λ ns n r end S.
        let i = in_item r S in
        let e = T.is ns n i.ty end i.there in
        rw i.is (record { name_is = i.name_is; array_is = ap (λ (x : ℕ). eqb x 1) i.flag_is; ty_is = e.0 }, e.1);
  }

-- ---- marks

module _ (m : ℕ) where
  -- an array was there: the mark stays
  pub marked_array : 2 ≤ m → m ≡ marked true m
  unfolding marked
  marked_array h = rw (le-leb 2 m h) refl

  -- none was: 2 more
  pub marked_new_array : m < 2 → m + 2 ≡ marked true m
  unfolding marked
  marked_new_array h = rw (lt-leb 2 m h) refl

  -- a variable was there: the mark stays
  pub marked_variable : m % 2 ≡ 1 → m ≡ marked false m
  unfolding marked
  marked_variable h = rw (eq-eqb (m % 2) 1 h) refl

  -- none was: 1 more
  pub marked_new_variable : (m % 2 ≡ 1 → ⊥) → m + 1 ≡ marked false m
  unfolding marked
  marked_new_variable h = rw (ne_eqb (m % 2) 1 h) refl

-- ---- what is done for an item

module _ {s r : Counts} {b b' : List ℕ} {kind scope : ℕ} {i : ItemAt} where
  -- SHARED and STATIC: the item's row with the mark that it has then
  pub enters_mark : (kind ≡ 134 → ⊥) → (w : ℕ) {m : ℕ} → ((rows : List Row) → Keeps rows s.rows b → w ≡ row_word 2 (find (entry_key kind i.name scope) rows)) → m ≡ marked i.array w
      → Rows (entering (row kind i.name (scope ∷ m ∷ []))) s r b b' → Enters kind scope i s r b b'
  unfolding entering item_as
  enters_mark k w told e R = record {
    does = λ it I bytes ends erased. rw (ne_eqb kind 134 k, sym I.name_is, sym I.array_is)
        (rows_asked w (λ rows. row_word 2 (find (entry_key kind i.name scope) rows)) (λ (a : ℕ) N D. enter (some N) (row kind i.name (scope ∷ marked i.array a ∷ [])))
        (λ a N D. stays_enter N (row kind i.name (scope ∷ marked i.array a ∷ []))) told (rw e at R));
    room = R.fit;
  }

no_type : (o : Option TypeRef) → None ≡ written_if o → o ≡ none
no_type none e = refl
no_type (some t) e = let z : ◌≡◌ {A = ℕ} 0 1 = cc in absurd (omega arith)

module _ {s : Counts} {b : List ℕ} {kind scope : ℕ} {i : ItemAt} (k : kind ≡ 134) (fit : s.rows * width ≤ length b) where
  -- its type: none of an array
  pub enters_array : i.array ≡ true → Enters kind scope i s s b b
  unfolding item_as item_type
  enters_array e = record { does = λ it I bytes ends erased. rw (eq-eqb kind 134 k, sym I.array_is, e) (rows_nothing fit); room = fit }

  -- nor of an item without a type
  pub enters_untyped : i.array ≡ false → i.ty ≡ None → Enters kind scope i s s b b
  unfolding item_as item_type typed
  enters_untyped e z = record { does = λ it I bytes ends erased. rw (eq-eqb kind 134 k, sym I.array_is, e, no_type it.ty (sym z ∙ I.ty_is)) (rows_nothing fit); room = fit }

module _ {s r : Counts} {b b' : List ℕ} where
  typed_entered : (scope name : ℕ) (o : Option TypeRef) {t : Typed} → Some t ≡ written_if o → Rows (entering (row 134 name (scope ∷ t.head ∷ t.arg ∷ []))) s r b b'
      → (bytes ends erased : List ℕ) → Rows (λ N D. typed (given (some N) (some D) bytes ends erased) scope name o) s r b b'
  unfolding entering typed
  typed_entered scope name none e R bytes ends erased = let z : ◌≡◌ {A = ℕ} 0 1 = cc in absurd (omega arith)
  typed_entered scope name (some x) {t} e R bytes ends erased =
      let same : t ≡ written x = cc in
      rw same at R

  -- else the typed variable's row
  pub enters_typed : {kind scope : ℕ} {i : ItemAt} {t : Typed} → kind ≡ 134 → i.array ≡ false → i.ty ≡ Some t → Rows (entering (row 134 i.name (scope ∷ t.head ∷ t.arg ∷ []))) s r b b' → Enters kind scope i s r b b'
  unfolding item_as item_type
  enters_typed {kind} {scope} {i} k e z R = record {
    does = λ it I bytes ends erased. rw (eq-eqb kind 134 k, sym I.array_is, e)
        (typed_entered scope it.name it.ty (sym z ∙ I.ty_is) (rw I.name_is at R) bytes ends erased);
    room = R.fit;
  }

-- ---- all items of a list

-- what is done for the first of them
abbrev pub Done : (kind scope : ℕ) (s : Counts) (b : List ℕ) (t : Counts) (b' : List ℕ) → List ScopeItem → Type 0
Done kind scope s b t b' is = (bytes ends erased : List ℕ) → Rows (λ N D. each (item_as (given (some N) (some D) bytes ends erased) kind scope) is) s t b b'

-- where a loop over the list is: p is the next item's place, k were read
pub record Going (ws : List ℕ) (at kind scope : ℕ) (s : Counts) (b : List ℕ) (t : Counts) (b' : List ℕ) (p k : ℕ) : Type 0 where
  pub room : t.rows * width ≤ length b'
  pub long : length b' ≡ length b
  pub turn : Turn scope_item (Done kind scope s b t b') ws (at + 1) (pay_of (get_or ws at 0)) p k

module _ {ws : List ℕ} {at kind scope : ℕ} {s : Counts} {b : List ℕ} where
  -- nothing is done, and all are to come
  pub items_start : s.rows * width ≤ length b → Going ws at kind scope s b s b (at + 1) 0
  items_start fit = record {
    room = fit;
    long = refl;
    turn = turn_start (Done kind scope s b s b) (λ bytes ends erased. rows_each_none (λ (i : ScopeItem) N D. item_as (given (some N) (some D) bytes ends erased) kind scope i) fit) ws (at + 1) (pay_of (get_or ws at 0));
  }

  module _ {t : Counts} {b' : List ℕ} {p k : ℕ} (T : Going ws at kind scope s b t b' p k) where
    -- where some are to come, the next one stands at p
    pub item_there : k < pay_of (get_or ws at 0) → SomeTree (one (many ItemRow)) ws at → SomeTree (row_shape ItemRow) ws p
    item_there h S = turn_some T.turn h (list_rows S)

    -- one more is done
    pub items_next : k < pay_of (get_or ws at 0) → {i : ItemAt} → ItemIs ws p i → {u : Counts} {b'' : List ℕ} → length b'' ≡ length b' → Enters kind scope i t u b' b'' → Going ws at kind scope s b u b'' i.next (k + 1)
    items_next h {i} I {u} {b''} l E = record {
      room = E.room;
      long = l ∙ T.long;
      turn = turn_next T.turn h (Done kind scope s b u b'') i.next (λ ns n r end S.
          let e = I.is ns n r end S in
          (e.1, λ done many P bytes ends erased. rows_each_next (λ (x : ScopeItem) N D. item_as (given (some N) (some D) bytes ends erased) kind scope x) done (scope_item r) (P bytes ends erased) (E.does (scope_item r) e.0 bytes ends erased)));
    }

    -- none is to come: all are done
    pub items_all : pay_of (get_or ws at 0) ≤ k → EntersAll ws at kind scope s t b b'
    items_all z = record { does = λ ns n v end S. list_all scope_item (λ is e. Done kind scope s b t b' is) (λ ns n rs end S c. (turn_end T.turn z ns n rs end S c).1) ns n v end S; room = T.room }

-- ---- the statements

-- the line, where the list stands, and what collecting sees of it
record InItems (ws ns : List ℕ) (n at line end : ℕ) (v : View Seen) (made : List ScopeItem → View Seen) : Type 0 where
  items_of : Tree Expr (one (many ItemRow))
  inside : at < length ws
  line_is : pay_of (get_or ws at 0) ≡ line
  there : Stands ws ns n (at + 1) items_of end
  is : made (items scope_item items_of) ≡ v

module _ {ws ns : List ℕ} {n at line end : ℕ} where
  shared_seen : (fields : Tree Expr (row_shape (sorts shared_kind))) → Stands ws ns n at (Stmt shared_kind line fields) end → InItems ws ns n at line end (view shared_kind (over see fields)) Shared
  unfolding sorts over view
  shared_seen (cons v done) S =
      let l = stmt_line S in
      record { items_of = v; inside = l.0; line_is = l.1; there = cons_last l.2; is = ap Shared (sym (scope_items_over see v)) }

  static_seen : (fields : Tree Expr (row_shape (sorts static_kind))) → Stands ws ns n at (Stmt static_kind line fields) end → InItems ws ns n at line end (view static_kind (over see fields)) Static
  unfolding sorts over view
  static_seen (cons v done) S =
      let l = stmt_line S in
      record { items_of = v; inside = l.0; line_is = l.1; there = cons_last l.2; is = ap Static (sym (scope_items_over see v)) }

module _ {ws : List ℕ} {at : ℕ} where
  -- the head of a SHARED is within the words
  pub shared_head : SomeStmt shared_kind ws at → at < length ws
  shared_head S = (shared_seen S.stmt.fields S.stmt.stands).inside

  -- and that of a STATIC
  pub static_head : SomeStmt static_kind ws at → at < length ws
  static_head S = (static_seen S.stmt.fields S.stmt.stands).inside

  -- the list of a SHARED stands after it
  pub shared_list : SomeStmt shared_kind ws at → SomeTree (one (many ItemRow)) ws (at + 1)
  shared_list S = record { names = S.names; strings = S.strings; tree = _; end = S.stmt.end; stands = (shared_seen S.stmt.fields S.stmt.stands).there }

  -- and that of a STATIC
  pub static_list : SomeStmt static_kind ws at → SomeTree (one (many ItemRow)) ws (at + 1)
  static_list S = record { names = S.names; strings = S.strings; tree = _; end = S.stmt.end; stands = (static_seen S.stmt.fields S.stmt.stands).there }

-- what is done for the list that stands there is done for the statement
record ForItems (made : List ScopeItem → View Seen) (ws : List ℕ) (at scope : ℕ) (s r : Counts) (b d b' d' : List ℕ) : Type 0 where
  for : (ns : List ℕ) (n : ℕ) (v : Tree Expr (one (many ItemRow))) (end : ℕ) → Stands ws ns n (at + 1) v end → (bytes ends erased : List ℕ)
      → Does (λ N D. statement (given (some N) (some D) bytes ends erased) scope (pay_of (get_or ws at 0)) (made (items scope_item v))) s r b d b' d'

module _ {ws : List ℕ} {at scope : ℕ} {s r : Counts} {b d b' d' : List ℕ} where
  seen_does : {made : List ScopeItem → View Seen} → ForItems made ws at scope s r b d b' d' → (ns : List ℕ) (n : ℕ) (bytes ends erased : List ℕ) {line end : ℕ} {v : View Seen}
      → InItems ws ns n at line end v made → Does (λ N D. statement (given (some N) (some D) bytes ends erased) scope line v) s r b d b' d'
  seen_does {made} F ns n bytes ends erased {line} {end} {v} S =
      subst (λ (w : View Seen). Does (λ N D. statement (given (some N) (some D) bytes ends erased) scope line w) s r b d b' d') S.is
      (subst (λ (l : ℕ). Does (λ N D. statement (given (some N) (some D) bytes ends erased) scope l (made (items scope_item S.items_of))) s r b d b' d') S.line_is (F.for ns n S.items_of end S.there bytes ends erased))

  shared_does : ForItems Shared ws at scope s r b d b' d' → CollectsAny shared_kind ws scope at s r b d b' d'
  shared_does F = record { all = λ ns n bytes ends erased. record { does = λ line fields end S. seen_does F ns n bytes ends erased (shared_seen fields S) } }

  static_does : ForItems Static ws at scope s r b d b' d' → CollectsAny static_kind ws scope at s r b d b' d'
  static_does F = record { all = λ ns n bytes ends erased. record { does = λ line fields end S. seen_does F ns n bytes ends erased (static_seen fields S) } }

module _ {ws : List ℕ} {at scope : ℕ} {s r : Counts} {b d : List ℕ} where
  -- outside a procedure: 13
  pub shared_outside : {d' : List ℕ} → scope ≡ 0 → s.rows * width ≤ length b → Notes (pushing (items_outside (pay_of (get_or ws at 0)) false)) s r d d' → CollectsAny shared_kind ws scope at s r b d b d'
  unfolding statement C.items pushing
  shared_outside z h F = shared_does (record { for = λ ns n v end S bytes ends erased. pick_yes _ (eqb scope 0) (eq-eqb scope 0 z) (notes_does F b h) })

  -- the same of STATIC
  pub static_outside : {d' : List ℕ} → scope ≡ 0 → s.rows * width ≤ length b → Notes (pushing (items_outside (pay_of (get_or ws at 0)) true)) s r d d' → CollectsAny static_kind ws scope at s r b d b d'
  unfolding statement C.items pushing
  static_outside z h F = static_does (record { for = λ ns n v end S bytes ends erased. pick_yes _ (eqb scope 0) (eq-eqb scope 0 z) (notes_does F b h) })

  -- SHARED in a procedure: all items' rows
  pub shared_inside : {b' : List ℕ} → (scope ≡ 0 → ⊥) → s.notes * note_width ≤ length d → EntersAll ws (at + 1) 138 scope s r b b' → CollectsAny shared_kind ws scope at s r b d b' d
  unfolding statement C.items item item_as
  shared_inside z h E = shared_does (record { for = λ ns n v end S bytes ends erased. pick_no _ (eqb scope 0) (ne_eqb scope 0 z) (rows_does (E.does ns n v end S bytes ends erased) d h) })

  -- STATIC in a procedure: all items' rows, then all their types
  pub static_inside : {t : Counts} {b' b'' : List ℕ} → (scope ≡ 0 → ⊥) → s.notes * note_width ≤ length d → EntersAll ws (at + 1) 139 scope s t b b' → EntersAll ws (at + 1) 134 scope t r b' b''
      → CollectsAny static_kind ws scope at s r b d b'' d
  unfolding statement C.items item item_as
  static_inside {t} {b'} z h E F =
      static_does (record {
        for = λ ns n v end S bytes ends erased.
            let first = rows_does (E.does ns n v end S bytes ends erased) d h in
            pick_no _ (eqb scope 0) (ne_eqb scope 0 z) (then first (rows_does (F.does ns n v end S bytes ends erased) d first.fit.1));
      })
