-- From what the calls did, what a statement does: one law for each of the four kinds. No line here knows the code. Assumes nothing.
use Prim.Native.Nat.compare
use Prim.Native.Nat.{ℕ, suc, ◌+◌, ◌*◌, ◌<◌, ◌≤◌}
use mathlib.Core.Path.{◌≡◌, refl, sym, ap, ◌∙◌, subst}
use mathlib.Core.Bool.{Bool, true, false}
use mathlib.Core.Logic.{◌⊎◌, inl, inr}
use mathlib.Core.List.{List, [], ◌∷◌, append-nil}
use mathlib.Core.Option.{some}
use native.Mathlib.Omega.{arith}
use lib.Dec.{eqb}
use lib.ListN.{length, get_or}
use borrow.Author.Tests.{eq-eqb, ne_eqb}
use Rattle.base_words.specs.Word.{pay_of, word_of, pick}
use Rattle.tree_expr.specs.Expr.{Expr, words}
use Rattle.tree_expr.specs.Stands.{Wrote}
use Rattle.tree_expr.specs.Stands as W
use Rattle.tree_expr.proofs.Parts.{wrote_first, pay_is}
use Rattle.tree_stmt.specs.Sorts.{sorts, number_of, label as label_kind, label_name as label_name_kind, option_base as option_base_kind, const as const_kind}
use Rattle.tree_stmt.specs.Tree.{strings, row, Tree, Stmt, word, value, cons, done, words_t, Right, over}
use Rattle.tree_stmt.specs.Stands.{Stands}
use Rattle.rows_table.specs.Rows.{Row, width, note_width, key, find, insert, Table}
use Rattle.rows_runs.specs.Runs.{Keeps}
use Rattle.rows_runs.specs.Laws.{keeps_count, keeps_table}
use Rattle.rows_table.specs.Laws.{order₃, insert_lt, insert_eq, insert_gt, find_eq, find_ne, find_above}
use Rattle.rows_kinds.specs.Kinds.{row as row_of, entry_key, has_row, has, line_row, label_row, const_row, option_base_row}
use Rattle.tree_views.specs.View.{View, Label, LabelName, OptionBase, Const, view}
use Rattle.collect_buffers.specs.State.{State, Step, running, stopped, ◌⨾◌, asking, when, fits, change, enter, push}
use Rattle.collect_buffers.specs.declared.Counts.{Counts}
use Rattle.collect_buffers.specs.Held.{Fit, Held, Does, Notes, Rows, entering, pushing, noting}
use Rattle.collect_buffers.proofs.Compose.{Stays, then, asked, rows_does, notes_does, stays_when, stays_pick, stays_enter, stays_push, stopped_does}
use Rattle.fold_values.specs.Value.{literal_kind, low_of, high_of, Fold}
use Rattle.fold_values.specs.declared.Value.{Value}
use Rattle.fold_const_eval.specs.ConstEval.{const_eval}
use Rattle.fold_const_eval.specs.Evaluates.{fold_of, Ready, Evaluates}
use Rattle.fold_const_eval.specs.declared.Folded.{Folded}
use Rattle.collect_definition.specs.Diagnostics.{duplicate_line, duplicate_label, option_base_twice, option_base_late, const_defined, const_overflow, not_constant}
use Rattle.collect_definition.specs.Seen.{Seen, see}
use Rattle.collect_definition.specs.Collect.{given, statement, any_array, const_of, label, label_name, option_base, folded, const}
use Rattle.collect_definition.specs.Code.{SomeStmt, CollectsAny}
use Rattle.collect_labels_const.specs.Labels.{ConstAt, say_base, code_of}
use Rattle.fold_values.specs.declared.Unfolded.{Unfolded}
use Rattle.std.specs.Prelude.{Ok, Err}
use Rattle.fold_values.specs.declared.Unfolded.TheVariants.{Overflow, NotConstant}

-- ---- a statement whose first field is a plain word: its line, and the word's payload

-- where the words have them
pub record Leads (ws : List ℕ) (at line x : ℕ) : Type 0 where
  pub inside : at + 1 < length ws
  pub line_is : pay_of (get_or ws at 0) ≡ line
  pub word_is : pay_of (get_or ws (at + 1) 0) ≡ x

leads : (j k : ℕ) {ws : List ℕ} {at line x end : ℕ} {rest : List ℕ} → Wrote ws at (word_of j line ∷ (word_of k x ∷ rest)) end → line < 16777216 → x < 16777216 → Leads ws at line x
leads j k {line} {x} W l h =
    let f = wrote_first W in
    let g = wrote_first f.rest in
    record { inside = g.inside; line_is = ap pay_of f.is ∙ pay_is j line l; word_is = ap pay_of g.is ∙ pay_is k x h }

-- what collecting sees of a statement of one plain word
pub record Sees (ws : List ℕ) (at line : ℕ) (v : View Seen) (made : ℕ → View Seen) : Type 0 where
  pub payload : ℕ
  pub leads : Leads ws at line payload
  pub is : made payload ≡ v

module _ {ws ns : List ℕ} {n at line end : ℕ} where
  -- a line number: its line and its number
  pub label_seen : (fields : Tree Expr (row (sorts label_kind))) → Stands ws ns n at (Stmt label_kind line fields) end → Sees ws at line (view label_kind (over see fields)) Label
  unfolding sorts number_of words_t Right over view
  label_seen (cons (word x) done) S = record { payload = x; leads = leads 64 4 S.wrote S.valid.0 S.valid.1.0.1; is = refl }

  name_seen : (fields : Tree Expr (row (sorts label_name_kind))) → Stands ws ns n at (Stmt label_name_kind line fields) end → Sees ws at line (view label_name_kind (over see fields)) LabelName
  unfolding sorts number_of words_t Right over view
  name_seen (cons (word x) done) S = record { payload = x; leads = leads 65 2 S.wrote S.valid.0 S.valid.1.0.1; is = refl }

  base_seen : (fields : Tree Expr (row (sorts option_base_kind))) → Stands ws ns n at (Stmt option_base_kind line fields) end → Sees ws at line (view option_base_kind (over see fields)) OptionBase
  unfolding sorts number_of words_t Right over view
  base_seen (cons (word x) done) S = record { payload = x; leads = leads 92 4 S.wrote S.valid.0 S.valid.1.0.1; is = refl }

module _ {ws : List ℕ} {at : ℕ} where
  -- the word after its head is within the words
  pub label_inside : SomeStmt label_kind ws at → at + 1 < length ws
  label_inside S = (label_seen S.stmt.fields S.stmt.stands).leads.inside

  -- so is that of a label
  pub name_inside : SomeStmt label_name_kind ws at → at + 1 < length ws
  name_inside S = (name_seen S.stmt.fields S.stmt.stands).leads.inside

  -- so is that of an OPTION BASE
  pub base_inside : SomeStmt option_base_kind ws at → at + 1 < length ws
  base_inside S = (base_seen S.stmt.fields S.stmt.stands).leads.inside

-- what is done for the line and the payload that the words say is done for the statement that stands there
seen_does : {ws : List ℕ} {at line : ℕ} {v : View Seen} {made : ℕ → View Seen} (scope : ℕ) {s r : Counts} {b d b' d' : List ℕ} (bytes ends erased : List ℕ) → Sees ws at line v made
    → Does (λ N D. statement (given (some N) (some D) bytes ends erased) scope (pay_of (get_or ws at 0)) (made (pay_of (get_or ws (at + 1) 0)))) s r b d b' d'
    → Does (λ N D. statement (given (some N) (some D) bytes ends erased) scope line v) s r b d b' d'
seen_does {ws} {at} {line} {v} {made} scope {s} {r} {b} {d} {b'} {d'} bytes ends erased S F =
    subst (λ (w : View Seen). Does (λ N D. statement (given (some N) (some D) bytes ends erased) scope line w) s r b d b' d') (ap made S.leads.word_is ∙ S.is)
    (subst (λ (l : ℕ). Does (λ N D. statement (given (some N) (some D) bytes ends erased) scope l (made (pay_of (get_or ws (at + 1) 0)))) s r b d b' d') S.leads.line_is F)

-- ---- a line number, a label: entered, and said to be double where one was there

-- the line and the payload of a statement whose first field is a plain word
abbrev pub line_at : List ℕ → ℕ → ℕ
line_at ws at = pay_of (get_or ws at 0)

-- the payload
abbrev pub leaf_at : List ℕ → ℕ → ℕ
leaf_at ws at = pay_of (get_or ws (at + 1) 0)

-- a row was there before where putting it in makes no more of them
same_len : (b : ℕ) (r : Row) (rows : List Row) → Table b rows → eqb (length (insert r rows)) (length rows) ≡ has_row (find (key r) rows)
unfolding insert find
same_len b r [] T = refl
same_len b r (x ∷ xs) T = go (same_len (suc (key x)) r xs T.2) (order₃ (key x) (key r))
  where
    go : eqb (length (insert r xs)) (length xs) ≡ has_row (find (key r) xs) → (key x < key r) ⊎ ((key x ≡ key r) ⊎ (key r < key x)) → eqb (length (insert r (x ∷ xs))) (length (x ∷ xs)) ≡ has_row (find (key r) (x ∷ xs))
    go ih (inl h) = rw (insert_lt r x xs h, find_ne (key r) x xs (λ e. omega (arith, h, e)), compare.suc-suc (length (insert r xs)) (length xs)) ih
    go ih (inr (inl e)) = rw (insert_eq r x xs e, find_eq (key r) x xs e) (eq-eqb (length (x ∷ xs)) (length (x ∷ xs)) refl)
    go ih (inr (inr h)) = rw (insert_gt r x xs h, find_ne (key r) x xs (λ e. omega (arith, h, e)), find_above (key r) xs T.2 (omega (arith, h))) (ne_eqb (length (r ∷ x ∷ xs)) (length (x ∷ xs)) (λ e. omega (arith, e)))

-- a row's key
key_is : (kind name : ℕ) (more : List ℕ) → key (row_of kind name (0 ∷ more)) ≡ entry_key kind name 0
unfolding key
key_is kind name more = refl

module _ {s t r : Counts} {b d b' d' : List ℕ} where
  twice_does : (new note : Row) (kind name : ℕ) → key new ≡ entry_key kind name 0
      → Rows (entering new) s t b b' → Notes (noting (eqb t.rows s.rows) note) t r d d'
      → Does (λ N D. asking (λ rows. enter (some N) new ⨾ when (has rows kind name 0) (push (some D) note))) s r b d b' d'
  unfolding entering noting asking enter change
  twice_does new note kind name q R F = record { fit = (notes_does F b' R.fit).fit; after = by }
    where
      x : Bool
      x = eqb t.rows s.rows

      said : (N D : ℕ) (y : Bool) (st : State) → Held N D st t b' d → (Held N D (when x (push (some D) note) st) r b' d' → Held N D (when y (push (some D) note) st) r b' d') → Held N D (when y (push (some D) note) st) r b' d'
      said N D y st H f = f (F.after b' N D st H)

      entered : (N D : ℕ) (rows notes : List Row) → Held N D (running rows notes) s b d → (y : Bool) → fits width (some N) (insert new rows) ≡ y
          → Held N D (pick y (running (insert new rows) notes) (stopped 7)) t b' d
          → Held N D (when (has rows kind name 0) (push (some D) note) (pick y (running (insert new rows) notes) (stopped 7))) r b' d'
      entered N D rows notes H true e K = said N D (has rows kind name 0) (running (insert new rows) notes) K (λ h. rw yes h)
        where
          yes : has rows kind name 0 ≡ x
          yes = rw (sym q) (sym (same_len 0 new rows (keeps_table H.inside.1)) ∙ rw (keeps_count K.inside.1, keeps_count H.inside.1) refl)
      entered N D rows notes H false e K = said N D (has rows kind name 0) (stopped 7) K (λ h. rw (stays_when (has rows kind name 0) (push (some D) note) (stays_push D note) 7) (rw (stays_when x (push (some D) note) (stays_push D note) 7) at h))

      by : (N D : ℕ) (st : State) → Held N D st s b d → Held N D (asking (λ rows. enter (some N) new ⨾ when (has rows kind name 0) (push (some D) note)) st) r b' d'
      by N D (running rows notes) H = entered N D rows notes H (fits width (some N) (insert new rows)) refl (R.after d N D (running rows notes) H)
      by N D (stopped k) H = rw (stays_when x (push (some D) note) (stays_push D note) k) at (F.after b' N D (stopped k) (R.after d N D (stopped k) H))

  module _ {ws : List ℕ} {at scope : ℕ} where
    -- a line number: 1 where no row was added
    pub label_collects : Rows (entering (line_row (leaf_at ws at) scope)) s t b b'
        → Notes (noting (eqb t.rows s.rows) (duplicate_line (line_at ws at) (leaf_at ws at))) t r d d' → CollectsAny label_kind ws scope at s r b d b' d'
    unfolding statement label
    label_collects R F =
        record { all = λ ns n bytes ends erased. record { does = λ line fields end S. seen_does scope bytes ends erased (label_seen fields S) (twice_does (line_row (leaf_at ws at) scope) (duplicate_line (line_at ws at) (leaf_at ws at)) 128 (leaf_at ws at) (key_is 128 (leaf_at ws at) (scope ∷ [])) R F) } }

    -- a label: 2 where no row was added
    pub name_collects : Rows (entering (label_row (leaf_at ws at) scope)) s t b b'
        → Notes (noting (eqb t.rows s.rows) (duplicate_label (line_at ws at) (leaf_at ws at))) t r d d' → CollectsAny label_name_kind ws scope at s r b d b' d'
    unfolding statement label_name
    name_collects R F =
        record { all = λ ns n bytes ends erased. record { does = λ line fields end S. seen_does scope bytes ends erased (name_seen fields S) (twice_does (label_row (leaf_at ws at) scope) (duplicate_label (line_at ws at) (leaf_at ws at)) 129 (leaf_at ws at) (key_is 129 (leaf_at ws at) (scope ∷ [])) R F) } }

-- ---- OPTION BASE

module _ {s r : Counts} {d d' : List ℕ} where
  -- 8 where there was one
  pub say_twice : (twice late : Bool) (line : ℕ) → twice ≡ true → Notes (pushing (option_base_twice line)) s r d d' → Notes (say_base twice late line) s r d d'
  unfolding pushing say_base
  say_twice twice late line e F = record { fit = F.fit; kept = F.kept; after = λ b N D st H. rw e (F.after b N D st H) }

  -- else 9 where there is an array
  pub say_late : (twice late : Bool) (line : ℕ) → twice ≡ false → Notes (noting late (option_base_late line)) s r d d' → Notes (say_base twice late line) s r d d'
  unfolding noting say_base
  say_late twice late line e F = record { fit = F.fit; kept = F.kept; after = λ b N D st H. rw e (F.after b N D st H) }

say_stays : (twice late : Bool) (line N D : ℕ) → Stays (say_base twice late line N D)
unfolding say_base
say_stays twice late line N D =
    stays_pick twice (push (some D) (option_base_twice line)) (when late (push (some D) (option_base_late line))) (stays_push D (option_base_twice line))
    (stays_when late (push (some D) (option_base_late line)) (stays_push D (option_base_late line)))

-- of another than the first it doesn't matter whether there is an array
said_same : (x y h a : Bool) (line N D : ℕ) → x ≡ h → (x ≡ false → y ≡ a) → say_base x y line N D ≡ say_base h a line N D
unfolding say_base
said_same true y h a line N D e f = rw (sym e) refl
said_same false y h a line N D e f = rw (sym e, f refl) refl

module _ {s t : Counts} {b d d' : List ℕ} {x y : Bool} (fit : Fit s (length b) (length d)) where
  base_said : (line : ℕ) → ((rows : List Row) → Keeps rows s.rows b → x ≡ has rows 143 0 0) → (x ≡ false → (rows : List Row) → Keeps rows s.rows b → y ≡ any_array rows)
      → Notes (say_base x y line) s t d d' → Does (λ N D. asking (λ rows. say_base (has rows 143 0 0) (any_array rows) line N D)) s t b d b d'
  unfolding asking
  base_said line first second F = record { fit = G.fit; after = by }
    where
      G : Does (say_base x y line) s t b d b d'
      G = notes_does F b fit.0

      by : (N D : ℕ) (st : State) → Held N D st s b d → Held N D (asking (λ rows. say_base (has rows 143 0 0) (any_array rows) line N D) st) t b d'
      by N D (running rows notes) H =
          subst (λ (g : Step). Held N D (g (running rows notes)) t b d') (said_same x y (has rows 143 0 0) (any_array rows) line N D (first rows H.inside.1) (λ e. second e rows H.inside.1))
          (G.after N D (running rows notes) H)
      by N D (stopped k) H = subst (λ (st : State). Held N D st t b d') (say_stays x y line N D k) (G.after N D (stopped k) H)

  -- both asked, the second where it matters, what is to be said said, and the row entered
  pub base_collects : {r : Counts} {b' ws : List ℕ} {at : ℕ} → ((rows : List Row) → Keeps rows s.rows b → x ≡ has rows 143 0 0) → (x ≡ false → (rows : List Row) → Keeps rows s.rows b → y ≡ any_array rows)
      → Notes (say_base x y (line_at ws at)) s t d d' → Rows (entering (option_base_row (leaf_at ws at))) t r b b' → (scope : ℕ) → CollectsAny option_base_kind ws scope at s r b d b' d'
  unfolding statement option_base entering say_base
  base_collects {ws = ws} {at} first second F R scope =
      record { all = λ ns n bytes ends erased. record { does = λ line fields end S. seen_does scope bytes ends erased (base_seen fields S) (then (base_said (line_at ws at) first second F) (rows_does R d' F.fit)) } }

-- ---- CONST

-- a row with a value's words is the value's row
pub const_entered : (name : ℕ) (v : Value) {kind low high : ℕ} {s r : Counts} {b b' : List ℕ} → (kind ≡ literal_kind v) × (low ≡ low_of v) × (high ≡ high_of v)
    → Rows (entering (const_row name kind low high)) s r b b' → Rows (entering (const_of name v)) s r b b'
unfolding const_of
const_entered name v e R = rw (sym e.0, sym e.1, sym e.2) R

module _ {s r : Counts} {b d : List ℕ} (line name : ℕ) where
  -- a value is entered
  pub folded_value : {b' : List ℕ} {v : Value} {f : Fold} → Ok v ≡ f → s.notes * note_width ≤ length d → Rows (entering (const_of name v)) s r b b'
      → (bytes ends erased : List ℕ) → Does (λ N D. folded (given (some N) (some D) bytes ends erased) line name f) s r b d b' d
  unfolding folded entering
  folded_value e h R bytes ends erased = rw (sym e) (rows_does R d h)

  -- an overflow is 11
  pub folded_over : {d' : List ℕ} {f : Fold} → (Err Overflow) ≡ f → s.rows * width ≤ length b → Notes (pushing (const_overflow line name)) s r d d'
      → (bytes ends erased : List ℕ) → Does (λ N D. folded (given (some N) (some D) bytes ends erased) line name f) s r b d b d'
  unfolding folded pushing
  folded_over e h F bytes ends erased = rw (sym e) (notes_does F b h)

  -- what isn't constant is 12
  pub folded_not : {d' : List ℕ} {f : Fold} → (Err NotConstant) ≡ f → s.rows * width ≤ length b → Notes (pushing (not_constant line name)) s r d d'
      → (bytes ends erased : List ℕ) → Does (λ N D. folded (given (some N) (some D) bytes ends erased) line name f) s r b d b d'
  unfolding folded pushing
  folded_not e h F bytes ends erased = rw (sym e) (notes_does F b h)

  -- so what is said of one that doesn't fold
  pub folded_unfolded : {d' : List ℕ} {f : Fold} (why : Unfolded) → Err why ≡ f → s.rows * width ≤ length b → Notes (pushing (code_of why ∷ line ∷ (name + 1) ∷ 0 ∷ 0 ∷ 0 ∷ [])) s r d d'
      → (bytes ends erased : List ℕ) → Does (λ N D. folded (given (some N) (some D) bytes ends erased) line name f) s r b d b d'
  folded_unfolded Overflow e h F = folded_over e h F
  folded_unfolded NotConstant e h F = folded_not e h F

folded_stays : (bytes ends erased : List ℕ) (line name : ℕ) (f : Fold) (N D : ℕ) → Stays (folded (given (some N) (some D) bytes ends erased) line name f)
unfolding folded
folded_stays bytes ends erased line name (Ok v) N D = stays_enter N (const_of name v)
folded_stays bytes ends erased line name (Err Overflow) N D = stays_push D (const_overflow line name)
folded_stays bytes ends erased line name (Err NotConstant) N D = stays_push D (not_constant line name)

-- what collecting sees of a CONST, and where its expression stands
pub record SeesConst (ws ns : List ℕ) (n at line : ℕ) (v : View Seen) (end : ℕ) : Type 0 where
  pub name : ℕ
  pub expression : Expr
  pub leads : Leads ws at line name
  pub there : W.Stands ws (strings ns n) (at + 2) expression end
  pub is : Const name (see expression) ≡ v

const_seen : {ws ns : List ℕ} {n at line end : ℕ} (fields : Tree Expr (row (sorts const_kind))) → Stands ws ns n at (Stmt const_kind line fields) end
    → SeesConst ws ns n at line (view const_kind (over see fields)) end
unfolding sorts number_of words_t Right over view
const_seen {at = at} (cons (word x) (cons (value e) done)) S =
    let q = (wrote_first (wrote_first S.wrote).rest).rest in
    let p : at + 1 + 1 ≡ at + 2 = omega arith in
    record { name = x; expression = e; leads = leads 89 2 S.wrote S.valid.0 S.valid.1.0.1; there = record { wrote = rw (append-nil (words e), p) at q; valid = S.valid.1.1.0 }; is = refl }

module _ {ws : List ℕ} {at : ℕ} {s : Counts} {b : List ℕ} where
  -- the name is within the words
  pub const_inside : ConstAt ws at s b → at + 1 < length ws
  const_inside C = (const_seen C.any.stmt.fields C.any.stmt.stands).leads.inside

  -- where the run goes on, the expression may be folded
  pub const_ready : ConstAt ws at s b → s.stop ≡ 0 → Ready ws (at + 2) b s.rows
  const_ready C go =
      let h = C.held go in
      let S = const_seen C.any.stmt.fields C.any.stmt.stands in
      record { strings = strings C.any.names C.any.strings; expr = S.expression; end = C.any.stmt.end; stands = S.there; rows = h.rows; holds = h.holds; consts = h.consts }

module _ {s : Counts} {b d : List ℕ} {ws : List ℕ} {at : ℕ} where
  const_does : {r : Counts} {b' d' : List ℕ} → ((bytes ends erased : List ℕ) (e : Expr) (end : ℕ) (ns : List ℕ) (n : ℕ) → W.Stands ws (strings ns n) (at + 2) e end
      → Does (λ N D. const (given (some N) (some D) bytes ends erased) (line_at ws at) (leaf_at ws at) (see e)) s r b d b' d') → (scope : ℕ) → CollectsAny const_kind ws scope at s r b d b' d'
  unfolding statement
  const_does {r} {b'} {d'} F scope = record { all = λ ns n bytes ends erased. record { does = λ line fields end S. by ns n bytes ends erased (const_seen fields S) } }
    where
      by : (ns : List ℕ) (n : ℕ) (bytes ends erased : List ℕ) {line : ℕ} {v : View Seen} {end : ℕ} → SeesConst ws ns n at line v end
          → Does (λ N D. statement (given (some N) (some D) bytes ends erased) scope line v) s r b d b' d'
      by ns n bytes ends erased {line} {v} {end} S =
          subst (λ (w : View Seen). Does (λ N D. statement (given (some N) (some D) bytes ends erased) scope line w) s r b d b' d') (ap (λ (x : ℕ). Const x (see S.expression)) S.leads.word_is ∙ S.is)
          (subst (λ (l : ℕ). Does (λ N D. const (given (some N) (some D) bytes ends erased) l (leaf_at ws at) (see S.expression)) s r b d b' d') S.leads.line_is (F bytes ends erased S.expression end ns n S.there))

  -- a stopped run passes by
  pub const_stopped : Fit s (length b) (length d) → (s.stop ≡ 0 → ⊥) → (scope : ℕ) → CollectsAny const_kind ws scope at s s b d b d
  unfolding const asking
  const_stopped fit h = const_does (λ bytes ends erased e end ns n S. stopped_does (λ N D. stays bytes ends erased N D e) h fit)
    where
      stays : (bytes ends erased : List ℕ) (N D : ℕ) (e : Expr) → Stays (const (given (some N) (some D) bytes ends erased) (line_at ws at) (leaf_at ws at) (see e))
      stays bytes ends erased N D e k = refl

  -- 10 where there was one, then what it folds to
  pub const_collects : {t r : Counts} {b' d' d'' : List ℕ} {x : Bool} {f : Folded} {g : Fold} → g ≡ fold_of f → Fit s (length b) (length d) → ((rows : List Row) → Keeps rows s.rows b → x ≡ has rows 132 (leaf_at ws at) 0)
      → Evaluates ws (at + 2) b s.rows f → Notes (noting x (const_defined (line_at ws at) (leaf_at ws at))) s t d d'
      → ((bytes ends erased : List ℕ) → Does (λ N D. folded (given (some N) (some D) bytes ends erased) (line_at ws at) (leaf_at ws at) g) t r b d' b' d'')
      → (scope : ℕ) → CollectsAny const_kind ws scope at s r b d b' d''
  unfolding const noting see
  const_collects {t} {r} {b'} {d'} {d''} {x} {f} {g} q fit told E F G = const_does by
    where
      by : (bytes ends erased : List ℕ) (e : Expr) (end : ℕ) (ns : List ℕ) (n : ℕ) → W.Stands ws (strings ns n) (at + 2) e end
          → Does (λ N D. const (given (some N) (some D) bytes ends erased) (line_at ws at) (leaf_at ws at) (see e)) s r b d b' d''
      by bytes ends erased e end ns n S =
          then
          (asked x (λ rows. has rows 132 (leaf_at ws at) 0) (λ (y : Bool) N D. when y (push (some D) (const_defined (line_at ws at) (leaf_at ws at))))
          (λ y N D. stays_when y (push (some D) (const_defined (line_at ws at) (leaf_at ws at))) (stays_push D (const_defined (line_at ws at) (leaf_at ws at)))) told (notes_does F b fit.0))
          (asked g (λ rows. const_eval rows e) (λ (g : Fold) N D. folded (given (some N) (some D) bytes ends erased) (line_at ws at) (leaf_at ws at) g)
          (λ g N D. folded_stays bytes ends erased (line_at ws at) (leaf_at ws at) g N D)
          (λ rows H. q ∙ (E (strings ns n) e end S rows (subst (λ (m : ℕ). Keeps rows m b) F.kept H)).answer) (G bytes ends erased))
