-- The steps of an entry: what was read, the rules of rows, scope and room, the run on the part of the words that was read, and what that
-- comes to. Assumes nothing.
use Prim.Native.Nat.{ℕ, zero, suc, ◌-◌, ◌*◌, ◌≤◌, ◌<◌}
use native.Mathlib.Omega.{arith}
use mathlib.Core.Path.{◌≡◌, refl, sym, ap, subst, ◌∙◌}
use mathlib.Core.Bool.{Bool, true, false, ◌&&◌, and-eq-true_iff}
use mathlib.Core.List.{List, [], ◌∷◌, ◌++◌, append-nil}
use lib.ListN.{length, take, drop, get_or, set}
use lib.Seq.{sets, take-append_seam, drop-length}
use borrow.Author.Tests.{le-leb, lt-leb, eq-eqb, ne_eqb}
use Rattle.base_words.specs.Word.{word_of, pay_of}
use Rattle.base_words.specs.Sizes.{max_strings, max_depth}
use Rattle.base_words.specs.Told.{Told, gives, after, unless}
use Rattle.base_words.specs.Refusals.{refused}
use Rattle.base_words.specs.declared.Refusal.{Refusal}
use Rattle.base_words.specs.declared.Refusal.TheVariants.{Word, Rows as NoRows, Lookup, Output}
use Rattle.base_strings.specs.Open.{Answers}
use Rattle.tree_expr.specs.Expr.{Strings, Exprs, many, words, words_all}
use Rattle.tree_expr.specs.Got.{Got}
use Rattle.tree_expr.specs.Reader.{expr_at, list_at}
use Rattle.tree_expr.specs.Answer.{step_of, refusal_of, Step}
use Rattle.tree_expr.specs.Stands.{Wrote, Stands, StandsAll}
use Rattle.tree_expr.proofs.Parts.{wrote_first, pay_is}
use Rattle.tree_expr.proofs.Sound.{sound, list_sound}
use Rattle.tree_stmt.specs.Tree.{strings, words_t, Program}
use Rattle.tree_stmt.specs.Reader.{program_at}
use Rattle.tree_stmt.proofs.Sound.{program_sound}
use Rattle.entry_read.specs.Program.{whole_of, program_of}
use Rattle.rows_table.specs.Rows.{rows_of, width, Holds}
use Rattle.rows_table.specs.Images.{holds_fits}
use Rattle.rows_lent.specs.Rules.{is_marked, scope_ok}
use Rattle.rows_lent.specs.Lent.{checked, lent_rows}
use Rattle.rows_lent.specs.LentLaws.{checked_sound}
use Rattle.rows_lent.specs.RuleLaws.{name_below, scope_below}
use Rattle.resolve_definition.specs.Tables.{Tables, places}
use Rattle.resolve_definition.specs.FromRows.{tables_of}
use Rattle.resolve_definition.specs.Resolve.{resolve_expr, resolve_args, resolve_array_accesses}
use Rattle.resolve_exprs.specs.Post.{Room, Ready, ReadyAll, Resolved, ResolvedArgs}
use Rattle.resolve_scan.specs.Post.{ReadyProgram, ResolvedProgram}
use Rattle.entry_resolve.specs.Entries.{Written, taken_of, ruling, rewritten, resolve_expr_at, resolve_args_at, resolve_all, told, counted, written, Tells, Rewrites}
use Rattle.entry_read.specs.Answered.{ReadTo, answer_read, answer_wrong, answer_deep}
use Rattle.entry_resolve.specs.Inner.{Passed}
use Rattle.std.specs.Prelude.{Option as RustOption, Ok, Err, None, Some, Result}
use Rattle.std.specs.Option.{ok_or}
use Rattle.tree_expr.specs.declared.Misread.{Misread}
use Rattle.tree_expr.specs.declared.Misread.TheVariants.{Wrong, Deep}
use Rattle.entry_resolve.specs.declared.Reached.{Reached}

-- ---- 6, 11, 10

module _ (names rows : List ℕ) (right : Bool) (size room : ℕ) where
  -- rows that are no lent table: 6
  pub ruled_bad : checked names rows ≡ None → ruling names rows right size room ≡ refused NoRows
  unfolding ruling lent_rows after refused
  ruled_bad e = rw e

  module _ (n : ℕ) (e : checked names rows ≡ Some n) where
    -- a scope or a name that is not right: 11
    pub ruled_no : right ≡ false → ruling names rows right size room ≡ refused Lookup
    unfolding ruling lent_rows after refused unless
    ruled_no a = rw (e, a)

    -- an output that is too short: 10
    pub ruled_short : right ≡ true → room < size → ruling names rows right size room ≡ refused Output
    unfolding ruling lent_rows after refused unless
    ruled_short a h = rw (e, a, lt-leb size room h)

  ruled_yes : {n : ℕ} → Passed names rows right size room n → ruling names rows right size room ≡ gives (rows_of n rows)
  unfolding ruling lent_rows after unless
  ruled_yes p = rw (p.rows_are, p.admitted, le-leb size room p.roomy)

-- the rows' count, or why there is none
refusal_in : Result ℕ Refusal → Refusal
refusal_in (Ok n) = NoRows
refusal_in (Err f) = f

pub rows_counted : {o : RustOption ℕ} {v : Result ℕ Refusal} {n : ℕ} → v ≡ ok_or o NoRows → v ≡ Ok n → o ≡ Some n
rows_counted {o = Some m} e q = cc
rows_counted {o = None} e q = cc

pub rows_missing : {o : RustOption ℕ} {v : Result ℕ Refusal} {f : Refusal} → v ≡ ok_or o NoRows → v ≡ Err f → (o ≡ None) × (f ≡ NoRows)
unfolding refusal_in
rows_missing {o = Some m} e q = absurd (cc)
rows_missing {o = None} e q = (refl, ap refusal_in (sym q ∙ e))

-- the code's test in the place of the definition's
pub ruled_as : (names rows : List ℕ) (size room : ℕ) {b t : Bool} (s : Refusal) → b ≡ t → ruling names rows b size room ≡ refused s → ruling names rows t size room ≡ refused s
ruled_as names rows size room s e = subst (λ (x : Bool). ruling names rows x size room ≡ refused s) e

-- the same where all passed
pub passed_as : {names rows : List ℕ} {size room n : ℕ} {b t : Bool} → b ≡ t → Passed names rows b size room n → Passed names rows t size room n
passed_as {names} {rows} {size} {room} {n} e = subst (λ (x : Bool). Passed names rows x size room n) e

-- ---- what was read

-- a refusal leaves the output as it came
pub stopped : (f : Refusal) (out : List ℕ) {u : Told Written} → u ≡ refused f → Tells (Err f) out out u
unfolding told counted written refused
stopped f out e = rw e (record { answer = refl; output = refl })

-- what was written is told, with its count and the place past what was read
pub said : {out last : List ℕ} {end count : ℕ} {w : List ℕ} {u : Told Written} → u ≡ gives (record { words' = w; end = end }) → count ≡ length w → last ≡ sets out 0 w → Tells (Ok (record { end = end; count = count })) out last u
unfolding told counted written
said e c o = rw (e, c) (record { answer = refl; output = o })

module _ {A : Type 0} (names rows : List ℕ) (right : Bool) (at room : ℕ) (f : Tables → A → List ℕ) (g : Got A) where
  abbrev all : Told Written
  all = after (taken_of g) (rewritten names rows right at room f)

  -- it was not read: the refusal that a `?` makes of what was wrong
  pub at_misread : {s : Step} {m : Misread} → s ≡ step_of g → s ≡ Err m → all ≡ refused (refusal_of m)
  unfolding taken_of after refused
  at_misread {m = Wrong p} e q = rw (answer_wrong g e q)
  at_misread {m = Deep p} e q = rw (answer_deep g e q)

  module _ {end : ℕ} (r : ReadTo g end) where
    -- one of these rules refuses
    pub at_shut : (s : Refusal) → ruling names rows right (end - at) room ≡ refused s → all ≡ refused s
    unfolding taken_of rewritten after refused
    at_shut s q = rw (r.is, q)

    -- all passed: the words by f under these rows
    pub at_open : {n : ℕ} → Passed names rows right (end - at) room n → all ≡ gives (record { words' = f (tables_of (rows_of n rows)) r.tree; end = end })
    unfolding taken_of rewritten after
    at_open p = rw (r.is, ruled_yes names rows right (end - at) room p)

-- ---- the part of the words that was read

-- words that stand from `at` to `end` stand in that part from 0 on
pub wrote_part : {ws : List ℕ} {at end : ℕ} {xs : List ℕ} → Wrote ws at xs end → Wrote (take (end - at) (drop at ws)) 0 xs (end - at)
wrote_part {ws} {at} {end} {xs} w =
    let l : end - at ≡ length xs = omega (arith, w.span) in
    let e : take (end - at) (drop at ws) ≡ xs = ap (λ (k : ℕ). take k (drop at ws)) l ∙ ap (take (length xs)) w.is ∙ take-append_seam xs (drop end ws) in
    rw (e, l) (record { span = omega arith; inside = omega arith; is = sym (append-nil xs) ∙ ap (λ (y : List ℕ). xs ++ y) (sym (drop-length xs)) })

-- the rows that were checked fit the buffer
pub checked_fit : (names rows : List ℕ) {n : ℕ} → checked names rows ≡ Some n → n * width ≤ length rows
checked_fit names rows {n} e = holds_fits (checked_sound names n rows e).holds.filled

-- room for a run that begins where the part does
room_for : {names rows : List ℕ} {right : Bool} {size room n scope : ℕ} (ws : List ℕ) → Passed names rows right size room n → length ws ≤ size → scope ≤ 16777216 → (at : ℕ) → Room ws rows n scope at at room
room_for {names} {rows} {n = n} ws p l s at =
    let L = checked_sound names n rows p.rows_are in
    record { rows = rows_of n rows; holds = L.holds; held = checked_fit names rows p.rows_are; scoped = s; behind = omega arith; fits = omega (arith, p.roomy) }

-- the buffer holds the rows that passed
pub holds_of : {names rows : List ℕ} {right : Bool} {size room n : ℕ} → Passed names rows right size room n → Holds (rows_of n rows) n rows
holds_of {names} {rows} {n = n} p = (checked_sound names n rows p.rows_are).holds

take_short : (k : ℕ) (l : List ℕ) → length (take k l) ≤ k
take_short zero [] = omega arith
take_short zero (x ∷ l) = omega arith
take_short (suc k) [] = omega arith
take_short (suc k) (x ∷ l) = omega (arith, take_short k l)

scope_fits : (names : List ℕ) (scope : ℕ) → length names ≤ max_strings → scope_ok names scope ≡ true → scope ≤ 16777216
scope_fits names scope few e = omega (arith, scope_below names scope e)

-- ---- an expression

module _ (names ws rows : List ℕ) (room scope at end : ℕ) (few : length names ≤ max_strings) (r : ReadTo (expr_at ws (strings names (length names)) max_depth at) end) where
  stands : Stands ws (strings names (length names)) at r.tree end
  stands = let S = sound ws (strings names (length names)) max_depth at r.tree end r.is in record { wrote = S.wrote; valid = S.valid }

  -- an expression that was read ends within the words
  pub expr_span : (at ≤ end) × (end ≤ length ws)
  expr_span = let s = stands in (omega (arith, s.wrote.span), s.wrote.inside)

  part : Stands (take (end - at) (drop at ws)) (strings names (length names)) 0 r.tree (end - at)
  part = let s = stands in record { wrote = wrote_part s.wrote; valid = s.valid }

  -- it may be resolved
  pub ready_expr : {n : ℕ} → Passed names rows (scope_ok names scope) (end - at) room n → Ready (take (end - at) (drop at ws)) rows n scope 0 0 room
  ready_expr p = record { some = record { strings = strings names (length names); tree = r.tree; end = end - at; stands = part }; room = room_for (take (end - at) (drop at ws)) p (take_short (end - at) (drop at ws)) (scope_fits names scope few p.admitted) 0 }

  -- a rule refuses: so does the entry
  pub expr_shut : (s : Refusal) → ruling names rows (scope_ok names scope) (end - at) room ≡ refused s → resolve_expr_at names ws rows room scope at ≡ refused s
  unfolding resolve_expr_at
  expr_shut s q = at_shut names rows (scope_ok names scope) at room (λ T x. words (resolve_expr T scope x)) _ r s q

  -- it was resolved: that is what the entry tells
  pub expr_told : {n a t : ℕ} {out last : List ℕ} → room ≡ length out → Passed names rows (scope_ok names scope) (end - at) room n → Resolved (take (end - at) (drop at ws)) rows out last n scope 0 0 a t → Tells (Ok (record { end = end; count = t })) out last (resolve_expr_at names ws rows room scope at)
  unfolding resolve_expr_at
  expr_told {n} q p d =
      let e = d.gives (rows_of n rows) (holds_of p) (strings names (length names)) r.tree (end - at) part in
      said (at_open names rows (scope_ok names scope) at room (λ T x. words (resolve_expr T scope x)) _ r p) (omega (arith, e.upto)) e.now

-- ---- a list of arguments

module _ (names ws rows : List ℕ) (room scope name at end : ℕ) (few : length names ≤ max_strings) (r : ReadTo (list_at ws (strings names (length names)) (λ x. expr_at ws (strings names (length names)) max_depth x) at) end) where
  abbrev S : Strings
  S = strings names (length names)

  abbrev es : Exprs
  es = r.tree

  record Listed : Type 0 where
    wrote : Wrote ws at (word_of 1 (many es) ∷ words_all es) end
    small : many es < 16777216
    part : Wrote (take (end - at) (drop at ws)) 0 (word_of 1 (many es) ∷ words_all es) (end - at)
    there : StandsAll (take (end - at) (drop at ws)) S 1 es (end - at)

  listed : Listed
  listed =
      let L = list_sound ws S max_depth (λ x. expr_at ws S max_depth x) (sound ws S max_depth) at es end r.is in
      let p = wrote_part L.0 in
      record { wrote = L.0; small = L.1; part = p; there = record { wrote = (wrote_first p).rest; valid = L.2 } }

  -- a list that was read ends after its place, within the words
  pub list_span : (at < end) × (end ≤ length ws)
  list_span = let w = listed.wrote in (omega (arith, w.span), w.inside)

  -- its head
  pub head_is_lem : get_or ws at 0 ≡ word_of 1 (many es)
  head_is_lem = (wrote_first listed.wrote).is

  abbrev right : Bool
  right = scope_ok names scope && is_marked names name

  ready_there : {n : ℕ} → Passed names rows right (end - at) room n → ReadyAll (take (end - at) (drop at ws)) rows n scope 1 1 room (pay_of (get_or ws at 0))
  ready_there p =
      let b = (and-eq-true_iff (scope_ok names scope) (is_marked names name)).0 p.admitted in
      record { strings = S; trees = es; end = end - at; stands = listed.there; counted = sym (ap pay_of head_is_lem ∙ pay_is 1 (many es) listed.small); room = room_for (take (end - at) (drop at ws)) p (take_short (end - at) (drop at ws)) (scope_fits names scope few b.0) 1 }

  -- one word is written already, and the output is as long as it was
  pub ready_args : {n size : ℕ} → size ≡ room → Passed names rows right (end - at) room n → ReadyAll (take (end - at) (drop at ws)) rows n scope 1 1 size (pay_of (get_or ws at 0))
  ready_args {n} {size} q p = rw q (ready_there p)

  -- the output has room for its head
  pub room_first : {n : ℕ} → Passed names rows right (end - at) room n → 0 < room
  room_first p = omega (arith, list_span.0, p.roomy)

  -- the name's number fits a payload
  pub name_fits : {n : ℕ} → Passed names rows right (end - at) room n → name < 16777216
  name_fits p =
      let b = (and-eq-true_iff (scope_ok names scope) (is_marked names name)).0 p.admitted in
      omega (arith, name_below names name b.1)

  -- a rule refuses: so does the entry
  pub args_shut : (s : Refusal) → ruling names rows right (end - at) room ≡ refused s → resolve_args_at names ws rows room scope name at ≡ refused s
  unfolding resolve_args_at
  args_shut s q = at_shut names rows right at room (λ T es. word_of 1 (many es) ∷ words_all (resolve_args T scope (places T name) es)) _ r s q

  -- the head copied and the arguments resolved: that is what the entry tells
  pub args_told : {n a t : ℕ} {out last : List ℕ} → Passed names rows right (end - at) room n → ResolvedArgs name (pay_of (get_or ws at 0)) (take (end - at) (drop at ws)) rows (set out 0 (get_or ws at 0)) last n scope 1 1 a t → Tells (Ok (record { end = end; count = t })) out last (resolve_args_at names ws rows room scope name at)
  unfolding resolve_args_at
  args_told {n} {out = out} {last} p d =
      let T : Tables = tables_of (rows_of n rows) in
      let e = d.gives (rows_of n rows) (holds_of p) S es (end - at) listed.there (sym (ap pay_of head_is_lem ∙ pay_is 1 (many es) listed.small)) in
      let y : List ℕ = words_all (resolve_args T scope (places T name) es) in
      let o : last ≡ sets out 0 (word_of 1 (many es) ∷ y) = e.now ∙ ap (λ (w : ℕ). sets (set out 0 w) 1 y) head_is_lem in
      said (at_open names rows right at room (λ T es. word_of 1 (many es) ∷ words_all (resolve_args T scope (places T name) es)) _ r p) (omega (arith, e.upto)) o

-- ---- a whole tree

module _ (names ws rows : List ℕ) (room : ℕ) (r : ReadTo (program_at ws names (length names)) (length ws)) where
  whole_is : program_of names ws ≡ gives r.tree
  unfolding program_of whole_of
  whole_is = rw (r.is, eq-eqb (length ws) (length ws) refl)

  abbrev F : Tables → Program → List ℕ
  F T p = words_t (resolve_array_accesses T 0 p)

  -- as for a node that ends with the words
  all_read : resolve_all names ws rows room ≡ after (taken_of (program_at ws names (length names))) (rewritten names rows true 0 room F)
  unfolding resolve_all taken_of after
  all_read = rw (whole_is, r.is)

  whole_size : length ws ≡ length ws - 0
  whole_size = omega arith

  -- a rule refuses: so does the entry
  pub all_shut : (s : Refusal) → ruling names rows true (length ws) room ≡ refused s → resolve_all names ws rows room ≡ refused s
  all_shut s q = all_read ∙ at_shut names rows true 0 room F _ r s (subst (λ (k : ℕ). ruling names rows true k room ≡ refused s) whole_size q)

  -- the program may be resolved
  pub ready_all : {n : ℕ} → length names ≤ max_strings → Passed names rows true (length ws) room n → ReadyProgram names ws rows n room
  ready_all few p =
      let S = program_sound ws names (length names) r.tree (length ws) r.is in
      record { room = room_for ws p (omega arith) (omega arith) 0; few = few; program = r.tree; stands = record { wrote = S.wrote; valid = S.valid }; shallow = S.deep }

  -- it was resolved: that is what the entry tells
  pub all_told : {n t : ℕ} {out last : List ℕ} → Passed names rows true (length ws) room n → ResolvedProgram names ws rows out last n t → Tells (Ok (record { end = length ws; count = t })) out last (resolve_all names ws rows room)
  unfolding resolve_array_accesses
  all_told {n} p d =
      let S = program_sound ws names (length names) r.tree (length ws) r.is in
      let e = d.gives (rows_of n rows) (holds_of p) r.tree (record { wrote = S.wrote; valid = S.valid }) in
      said (all_read ∙ at_open names rows true 0 room F _ r (subst (λ (k : ℕ). Passed names rows true k room n) whole_size p)) (omega (arith, e.upto)) e.now

-- words over, and what is wrong or too deep
module _ (names ws rows : List ℕ) (room : ℕ) where
  abbrev S₀ : Strings
  S₀ = strings names (length names)

  -- an expression that was not read
  pub expr_misread : (scope at : ℕ) {s : Step} {m : Misread} → s ≡ step_of (expr_at ws S₀ max_depth at) → s ≡ Err m → resolve_expr_at names ws rows room scope at ≡ refused (refusal_of m)
  unfolding resolve_expr_at
  expr_misread scope at e q = at_misread names rows (scope_ok names scope) at room (λ T x. words (resolve_expr T scope x)) (expr_at ws S₀ max_depth at) e q

  abbrev listed_at : ℕ → Got Exprs
  listed_at at = list_at ws S₀ (λ x. expr_at ws S₀ max_depth x) at

  -- a list that was not read
  pub args_misread : (scope name at : ℕ) {s : Step} {m : Misread} → s ≡ step_of (listed_at at) → s ≡ Err m → resolve_args_at names ws rows room scope name at ≡ refused (refusal_of m)
  unfolding resolve_args_at
  args_misread scope name at e q = at_misread names rows (scope_ok names scope && is_marked names name) at room (λ T es. word_of 1 (many es) ∷ words_all (resolve_args T scope (places T name) es)) (listed_at at) e q

  -- a program with words over: 2 at the first of them
  pub all_over : {s : Step} {m : ℕ} → s ≡ step_of (program_at ws names (length names)) → s ≡ Ok (record { at = m }) → (m ≡ length ws → ⊥) → resolve_all names ws rows room ≡ refused (Word m)
  unfolding resolve_all program_of whole_of after refused
  all_over {m = m} e q f = let r = answer_read (program_at ws names (length names)) e q in rw (r.is, ne_eqb m (length ws) f)

  -- one that was not read
  pub all_misread : {s : Step} {m : Misread} → s ≡ step_of (program_at ws names (length names)) → s ≡ Err m → resolve_all names ws rows room ≡ refused (refusal_of m)
  unfolding resolve_all program_of whole_of after refused
  all_misread {m = Wrong p} e q = rw (answer_wrong (program_at ws names (length names)) e q)
  all_misread {m = Deep p} e q = rw (answer_deep (program_at ws names (length names)) e q)

-- ---- 5 and 1 before

-- what is told behind 5 and 1 is told by the entry
pub rewrites : {sized : Bool} {bytes ends : List ℕ} {r : Result Reached Refusal} {out last : List ℕ} {t u : Told Written} → Answers sized bytes ends t u → Tells r out last t → Rewrites sized bytes ends r out last u
rewrites {r = r} {out} {last} a w = record { at = a.at; place = a.place; is = subst (λ (t : Told Written). Tells r out last t) a.is w }
