-- The steps of an entry: a stop of the first checks stops the whole, what the rows are told is carried on to the answer; and what a name's number says of
-- the string table. Assumes nothing.
use mathlib.Core.Path.{◌≡◌, refl, sym, ap, ◌∙◌}
use mathlib.Core.Bool.{Bool, true, false, and-eq-true_iff}
use mathlib.Core.Logic.{◌⊎◌, inl, inr}
use mathlib.Core.List.{List, [], ◌∷◌, ◌++◌}
use Prim.Native.Nat.{ℕ, zero, suc, ◌+◌, ◌-◌, ◌*◌, ◌≤◌, ◌<◌}
use native.Mathlib.Omega.{arith}
use native.Mathlib.Nat.{not-suc-le-zero}
use lib.Dec.{leb, ltb, eqb}
use lib.ListN.{length, take, drop, get_or, get_or-append, length-drop}
use lib.Seq.{get_or_at, get_or-take, get_or-drop, length-take-le}
use borrow.Author.Tests.{eqb-true, ltb-true}
use Rattle.base_words.specs.Word.{pick}
use Rattle.base_words.specs.Told.{Told, stops, gives, after, unless}
use Rattle.base_words.specs.Refusals.{refused}
use Rattle.base_words.specs.declared.Refusal.TheVariants.{Rows as NoRows, Lookup}
use Rattle.base_strings.specs.Name.{is_name as spells_name}
use Rattle.base_strings.specs.Table.{start_of, string_at, sound, marks_below, names_of}
use Rattle.base_strings.specs.Open.{entry_of, Answers}
use Rattle.base_strings.specs.declared.right.Sound.{Sound}
use Rattle.base_strings.proofs.Laws.{marks_length, marks_all, names_length, sound_at, ends_in, name_empty}
use Rattle.rows_table.specs.Rows.{Row, width, rows_of}
use Rattle.rows_table.specs.Images.{holds_fits}
use Rattle.rows_table.specs.Laws.{order, pick_false}
use Rattle.rows_table.specs.declared.rows.Rows.{Rows}
use Rattle.rows_lent.specs.Rules.{is_marked, scope_ok, type_ok}
use Rattle.rows_lent.specs.RuleLaws.{name_below, scope_below}
use Rattle.rows_lent.specs.Lent.{Lent, checked, lent_rows}
use Rattle.rows_lent.specs.LentLaws.{checked_sound}
use Rattle.entry_lookup.specs.Leaves.{admits, ruled, asked, last_byte}
use Rattle.entry_lookup.specs.Entries.{tell, tell_rows, Small, Passing, Judged, Ready}
use Rattle.entry_lookup.specs.declared.Question.{Question}
use Rattle.entry_lookup.specs.declared.Question.TheVariants.{InProc, InScope, OfType}
use Rattle.std.specs.Prelude.{Option, None, Some, Result, Err, Ok}
use Rattle.std.specs.Option.{ok_or}
use Rattle.std.specs.Result.{IsErrAnd}
use Rattle.std.proofs.lemmas.Result.{err_from_is_err_and}
use Rattle.base_words.specs.declared.Refusal.{Refusal}

-- ---- what an entry tells

-- the first checks stopped
pub answers_stop : {A : Type 0} {s : Bool} {bytes ends : List ℕ} {n p : ℕ} {u : Told A} → Answers s bytes ends (stops n p) (gives (tt {0})) → Answers s bytes ends (stops n p) u
unfolding entry_of unless
answers_stop {A} {s} {bytes} {ends} {n} {p} {u} a = record { at = a.at; place = a.place; is = go s (sound bytes ends) a.is }
  where
    go : (s t : Bool) → stops n p ≡ unless s 5 0 (unless t 1 a.at (gives (tt {0}))) → stops n p ≡ unless s 5 0 (unless t 1 a.at u)
    go true true e =
        let z : ◌≡◌ {A = ℕ} 0 1 = cc in
        absurd (omega arith)
    go true false e = cc
    go false t e = cc

-- what comes behind the checks goes on
pub answers_after : {A B : Type 0} {s : Bool} {bytes ends : List ℕ} {t u : Told A} {r : Told B} (k : A → Told B) → Answers s bytes ends t u → r ≡ after t k → Answers s bytes ends r (after u k)
unfolding entry_of after unless
answers_after {A} {B} {s} {bytes} {ends} {t} {u} {r} k a e = record { at = a.at; place = a.place; is = e ∙ ap (λ (x : Told A). after x k) a.is ∙ go s (sound bytes ends) }
  where
    go : (s t : Bool) → after (unless s 5 0 (unless t 1 a.at u)) k ≡ unless s 5 0 (unless t 1 a.at (after u k))
    go true true = refl
    go true false = refl
    go false t = refl

-- a call that `open` refuses is refused
pub entry_stopped : {A B : Type 0} (f : A → B) {s : Bool} {bytes ends : List ℕ} (rows : List ℕ) (q : Question) (h : List Row → B) (r : Refusal) (x : Result A Refusal)
    → Answers s bytes ends (refused r) (ruled (names_of bytes ends) rows q) → IsErrAnd x (λ y. y ≡ r) → Answers s bytes ends (tell f x) (asked bytes ends rows q h)
unfolding asked after refused
entry_stopped f rows q h r x T e = let p = err_from_is_err_and x e in rw (p.1, p.2) (answers_after (λ rs. gives (h rs)) T refl)

-- what `rows_lookup` gives for the rows is what is asked of them
pub entry_given : {B : Type 0} {s : Bool} {bytes ends : List ℕ} (rows : List ℕ) (q : Question) (h : List Row → B) {rs : List Row} {b : B} → Answers s bytes ends (gives rs) (ruled (names_of bytes ends) rows q)
    → b ≡ h rs → Answers s bytes ends (gives b) (asked bytes ends rows q h)
unfolding asked after
entry_given rows q h T e = answers_after (λ rs. gives (h rs)) T (ap gives e)

-- ---- 6 and 11

module _ (names rows : List ℕ) (q : Question) {o : Option ℕ} (e : o ≡ checked names rows) where
  -- rows that are no lent table: 6
  pub ruled_none : {f : Refusal} (x : Result Rows Refusal) → o ≡ None → Err f ≡ ok_or o NoRows → IsErrAnd x (λ y. y ≡ f) → tell_rows x ≡ ruled names rows q
  unfolding ruled lent_rows after refused
  ruled_none {f} x n v i =
      let p = err_from_is_err_and x i in
      let w : ◌≡◌ {A = Result ℕ Refusal} (Err f) (Err NoRows) = rw n at v in
      let g : f ≡ NoRows = cc in
      rw (p.1, p.2, g, ← e, n)

  module _ {n : ℕ} (some : o ≡ Some n) where
    lent : Lent names (rows_of n rows) n rows
    lent = checked_sound names n rows (sym e ∙ some)

    -- the rows lie in their words
    pub rows_fit : n * width ≤ length rows
    rows_fit = holds_fits lent.holds.filled

    -- a question that isn't right: 11
    pub ruled_no : false ≡ admits names q → refused Lookup ≡ ruled names rows q
    unfolding ruled lent_rows after refused unless
    ruled_no a = rw (← e, some, ← a)

    -- else the rows
    pub ruled_yes : true ≡ admits names q → gives (rows_of n rows) ≡ ruled names rows q
    unfolding ruled lent_rows after unless
    ruled_yes a = rw (← e, some, ← a)

    -- and they are known to be a table
    pub rows_judged : (held : Rows) → held.count ≡ n → held.words.now ≡ rows → true ≡ admits names q → Passing names rows q held
    rows_judged held k l a = record { lent = l; holds = rw (k, l) lent.holds; admitted = sym a }

-- ---- numbers of names

arg_below : (names : List ℕ) (head arg : ℕ) → length names ≤ 1024 → type_ok names head arg ≡ true → arg < 16777216
unfolding type_ok
arg_below names head arg l e = go (eqb head 44) (eqb head 45) (leb 40 head) (leb head 43) e
  where
    go : (s t u v : Bool) → pick s (ltb arg 16777216) (pick t (is_marked names arg) (pick u (pick v (eqb arg 0) false) false)) ≡ true → arg < 16777216
    go true t u v f = ltb-true arg 16777216 f
    go false true u v f = omega (arith, name_below names arg f)
    go false false true true f = omega (arith, eqb-true arg 0 f)
    go false false true false f =
        let z : ◌≡◌ {A = ℕ} 0 1 = cc in
        absurd (omega arith)
    go false false false v f =
        let z : ◌≡◌ {A = ℕ} 0 1 = cc in
        absurd (omega arith)

-- the numbers of a right question are those that `rows_lookup` takes
pub small_admitted : (names : List ℕ) (q : Question) → length names ≤ 1024 → admits names q ≡ true → Small q
unfolding admits
small_admitted names (InProc proc name) l e =
    let b = (and-eq-true_iff (is_marked names proc) (is_marked names name)).0 e in
    (omega (arith, name_below names proc b.0), omega (arith, name_below names name b.1))
small_admitted names (InScope scope name) l e =
    let b = (and-eq-true_iff (scope_ok names scope) (is_marked names name)).0 e in
    (omega (arith, scope_below names scope b.0), omega (arith, name_below names name b.1))
small_admitted names (OfType head arg) l e = arg_below names head arg l e

-- its name is a name's number
pub scope_admitted : (names : List ℕ) (scope name : ℕ) → admits names (InScope scope name) ≡ true → is_marked names name ≡ true
unfolding admits
scope_admitted names scope name e = ((and-eq-true_iff (scope_ok names scope) (is_marked names name)).0 e).1

-- ---- names of a string table

mark_at_lem : (bytes ends : List ℕ) (n x : ℕ) → x < n → get_or (marks_below bytes ends n) x 0 ≡ pick (spells_name (string_at bytes ends x)) 1 0
unfolding marks_below
mark_at_lem bytes ends zero x h = absurd (not-suc-le-zero h)
mark_at_lem bytes ends (suc n) x h = go (λ k. mark_at_lem bytes ends n x k) (order x n)
  where
    go : (x < n → get_or (marks_below bytes ends n) x 0 ≡ pick (spells_name (string_at bytes ends x)) 1 0) → (x < n) ⊎ (n ≤ x) → get_or (marks_below bytes ends n ++ (pick (spells_name (string_at bytes ends n)) 1 0 ∷ [])) x 0 ≡ pick (spells_name (string_at bytes ends x)) 1 0
    go ih (inl k) = get_or-append (marks_below bytes ends n) (pick (spells_name (string_at bytes ends n)) 1 0 ∷ []) 0 x (omega (arith, marks_length bytes ends n)) ∙ ih k
    go ih (inr k) =
        let e : n ≡ x = omega arith in
        get_or_at (marks_below bytes ends n) (pick (spells_name (string_at bytes ends n)) 1 0) [] 0 x (marks_length bytes ends n ∙ e) ∙ ap (λ (i : ℕ). pick (spells_name (string_at bytes ends i)) 1 0) e

module _ (strings : Sound) (x : ℕ) (e : is_marked (names_of strings.bytes.now strings.ends.now) x ≡ true) where
  abbrev bytes : List ℕ
  bytes = strings.bytes.now

  abbrev ends : List ℕ
  ends = strings.ends.now

  -- a name's number is below the number of strings
  pub inside : x < length ends
  inside = omega (arith, name_below (names_of bytes ends) x e, names_length bytes ends)

  spells : spells_name (string_at bytes ends x) ≡ true
  spells = go (spells_name (string_at bytes ends x)) refl
    where
      one : get_or (names_of bytes ends) x 0 ≡ 1
      one = eqb-true (get_or (names_of bytes ends) x 0) 1 e

      go : (t : Bool) → spells_name (string_at bytes ends x) ≡ t → spells_name (string_at bytes ends x) ≡ true
      go true q = q
      go false q =
          let m : get_or (names_of bytes ends) x 0 ≡ pick (spells_name (string_at bytes ends x)) 1 0 =
          ap (λ (l : List ℕ). get_or l x 0) (sym (marks_all bytes ends (length ends) refl)) ∙ mark_at_lem bytes ends (length ends) x inside in
          absurd (omega (arith, one, m ∙ pick_false 1 0 q))

  ordered : (start_of ends x ≤ get_or ends x 0) × (get_or ends x 0 ≤ length bytes)
  ordered = ends_in bytes ends x (sound_at bytes ends x strings.right inside)

  string_length : length (string_at bytes ends x) ≡ get_or ends x 0 - start_of ends x
  unfolding string_at
  string_length = length-take-le (get_or ends x 0 - start_of ends x) (drop (start_of ends x) bytes) (omega (arith, length-drop (start_of ends x) bytes, ordered.0, ordered.1))

  -- the string of a name's number is not empty
  pub more : start_of ends x < get_or ends x 0
  more = go (order (start_of ends x) (get_or ends x 0))
    where
      go : (start_of ends x < get_or ends x 0) ⊎ (get_or ends x 0 ≤ start_of ends x) → start_of ends x < get_or ends x 0
      go (inl h) = h
      go (inr h) =
          let f : true ≡ false = sym spells ∙ name_empty (string_at bytes ends x) (omega (arith, string_length)) in
          let z : ◌≡◌ {A = ℕ} 0 1 = cc in
          absurd (omega arith)

  -- and stands within the bytes
  pub fits : get_or ends x 0 ≤ length bytes
  fits = ordered.1

  -- its end is at least 1
  pub past_first : 1 ≤ get_or ends x 0
  past_first = omega (arith, more)

  -- the byte before its end is one of the bytes
  pub last_inside : get_or ends x 0 - 1 < length bytes
  last_inside = omega (arith, past_first, fits)

  -- its last byte
  pub last_is : get_or bytes (get_or ends x 0 - 1) 0 ≡ last_byte (string_at bytes ends x)
  unfolding last_byte string_at
  last_is =
      let a : ℕ = start_of ends x in
      let z : ℕ = get_or ends x 0 in
      let m : z - 1 ≡ a + (z - a - 1) = omega (arith, more) in
      ap (λ (i : ℕ). get_or bytes i 0) m ∙ sym (get_or-drop a bytes (z - a - 1) 0) ∙ sym (get_or-take (z - a) (drop a bytes) (z - a - 1) 0 (omega (arith, more)))
      ∙ ap (λ (l : ℕ). get_or (take (z - a) (drop a bytes)) (l - 1) 0) (sym string_length)

-- what passed is known
pub ready_judged : (bytes ends rows : List ℕ) (q : Question) (o : Result Rows Refusal) → sound bytes ends ≡ true → length ends ≤ 1024 → Judged (names_of bytes ends) rows q o → Ready bytes ends rows q o
ready_judged bytes ends rows q (Err f) s l j = tt
ready_judged bytes ends rows q (Ok held) s l j =
    record { passing = j; right = s; small = small_admitted (names_of bytes ends) q (omega (arith, names_length bytes ends)) j.admitted }
