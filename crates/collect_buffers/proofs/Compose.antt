-- How steps on the two buffers follow each other: in turn, under a test, over a list, with a fact read from the rows; rows replaced one by one; a whole
-- run. Assumes nothing.
use Rattle.std.specs.Prelude.{◌≡◌, Bool}
use Rattle.std.proofs.Math.Path.{refl, sym, ap}
use Rattle.std.proofs.Common.{◌∙◌, subst, arith}
use Rattle.std.proofs.Math.Bool.{true, false}
use mathlib.Core.List.{List, [], ◌∷◌, ◌++◌}
use Rattle.std.proofs.Math.Option.{some}
use Prim.Native.Nat.{ℕ, ◌+◌, ◌*◌, ◌≤◌, ◌<◌}
use Rattle.std.proofs.Math.Dec.{leb}
use Rattle.std.proofs.Math.ListN.{length}
use borrow.Author.Tests.{le-leb, lt-leb, leb-true, leb-false}
use Rattle.base_words.specs.Word.{pick}
use Rattle.rows_table.specs.Rows.{Row, width, note_width, key, Table, insert, insert_all, remove, replace}
use Rattle.rows_table.specs.Laws.{pick_true, pick_false, insert_all_len, remove_len}
use Rattle.rows_runs.specs.Runs.{Keeps}
use Rattle.rows_runs.specs.Laws.{keeps_fits, keeps_count, keeps_table}
use Rattle.rows_runs.specs.Ordinals.{InTurn, replace_turn}
use Rattle.rows_kinds.specs.Kinds.{entry_key, replace_under}
use Rattle.collect_buffers.specs.State.{State, running, stopped, Step, ◌⨾◌, nothing, when, asking, each, stop, fits, change, enter, push}
use Rattle.collect_buffers.specs.declared.Counts.{Counts}
use Rattle.collect_buffers.specs.Held.{Fit, Held, Sized, Does, Notes, Rows, changing, Left}

-- ---- a step on one buffer is one on both

-- a step done on the diagnostics is done on both, whatever rows the other buffer has that fit
pub notes_does : {f : Sized} {s r : Counts} {d d' : List ℕ} → Notes f s r d d' → (b : List ℕ) → s.rows * width ≤ length b → Does f s r b d b d'
notes_does F b h = record { fit = (subst (λ (n : ℕ). n * width ≤ length b) (sym F.kept) h, F.fit); after = F.after b }

-- a step done on the rows is done on both, whatever diagnostics the other has that fit
pub rows_does : {f : Sized} {s r : Counts} {b b' : List ℕ} → Rows f s r b b' → (d : List ℕ) → s.notes * note_width ≤ length d → Does f s r b d b' d
rows_does F d h = record { fit = (F.fit, subst (λ (n : ℕ). n * note_width ≤ length d) (sym F.kept) h); after = F.after d }

-- ---- nothing, the same by another name, one after the other

-- to do nothing leaves counts and buffers as they are
pub nothing_does : {s : Counts} {b d : List ℕ} → Fit s (length b) (length d) → Does (λ N D. nothing) s s b d b d
nothing_does h = record { fit = h; after = λ N D st H. H }

-- a step that gives the same state for each is done where the other is
pub same : {f : Sized} (g : Sized) {s r : Counts} {b d b' d' : List ℕ} → ((N D : ℕ) (st : State) → f N D st ≡ g N D st) → Does f s r b d b' d' → Does g s r b d b' d'
same g {s} {r} {b} {d} {b'} {d'} e F = record { fit = F.fit; after = λ N D st H. subst (λ (x : State). Held N D x r b' d') (e N D st) (F.after N D st H) }

-- two steps done, one on what the other left, are done in turn
pub then : {f g : Sized} {s r t : Counts} {b d b' d' b'' d'' : List ℕ} → Does f s r b d b' d' → Does g r t b' d' b'' d'' → Does (λ N D. f N D ⨾ g N D) s t b d b'' d''
then {f} F G = record { fit = G.fit; after = λ N D st H. G.after N D (f N D st) (F.after N D st H) }

-- ---- by a test

-- where the test holds, the step is done
pub when_yes : {f : Sized} {s r : Counts} {b d b' d' : List ℕ} (t : Bool) → t ≡ true → Does f s r b d b' d' → Does (λ N D. when t (f N D)) s r b d b' d'
when_yes t e F = record { fit = F.fit; after = λ N D st H. rw e (F.after N D st H) }

-- where it fails, nothing is to be done
pub when_no : (f : Sized) {s : Counts} {b d : List ℕ} (t : Bool) → t ≡ false → Fit s (length b) (length d) → Does (λ N D. when t (f N D)) s s b d b d
when_no f t e h = record { fit = h; after = λ N D st H. rw e H }

-- where the test holds, the first of two steps is done
pub pick_yes : {f : Sized} (g : Sized) {s r : Counts} {b d b' d' : List ℕ} (t : Bool) → t ≡ true → Does f s r b d b' d' → Does (λ N D. pick t (f N D) (g N D)) s r b d b' d'
pick_yes g t e F = record { fit = F.fit; after = λ N D st H. rw e (F.after N D st H) }

-- where it fails, the second
pub pick_no : (f : Sized) {g : Sized} {s r : Counts} {b d b' d' : List ℕ} (t : Bool) → t ≡ false → Does g s r b d b' d' → Does (λ N D. pick t (f N D) (g N D)) s r b d b' d'
pick_no f t e F = record { fit = F.fit; after = λ N D st H. rw e (F.after N D st H) }

-- ---- over a list: a loop that has done the first of them does one more

-- a step for each of two lists in turn is a step for each of both
pub each_append : {A : Type 0} (f : A → Step) (xs ys : List A) (st : State) → each f (xs ++ ys) st ≡ each f ys (each f xs st)
unfolding each
each_append f [] ys st = refl
each_append f (x ∷ xs) ys st = each_append f xs ys (f x st)

-- the steps for a list and then one for x are those for the list with x last
pub each_snoc : {A : Type 0} (f : A → Step) (xs : List A) (x : A) (st : State) → (each f xs ⨾ f x) st ≡ each f (xs ++ (x ∷ [])) st
unfolding each
each_snoc f xs x st = sym (each_append f xs (x ∷ []) st)

-- of an empty list nothing is to be done
pub each_none : {A : Type 0} (f : A → Sized) {s : Counts} {b d : List ℕ} → Fit s (length b) (length d) → Does (λ N D. each (λ x. f x N D) []) s s b d b d
unfolding each
each_none f h = nothing_does h

-- the step for the next element, after those for the elements before it
pub each_next : {A : Type 0} (f : A → Sized) (done : List A) (x : A) {s r t : Counts} {b d b' d' b'' d'' : List ℕ}
    → Does (λ N D. each (λ x. f x N D) done) s r b d b' d' → Does (f x) r t b' d' b'' d'' → Does (λ N D. each (λ x. f x N D) (done ++ (x ∷ []))) s t b d b'' d''
each_next f done x F G = same (λ N D. each (λ x. f x N D) (done ++ (x ∷ []))) (λ N D st. each_snoc (λ x. f x N D) done x st) (then F G)

-- ---- a step that leaves a stopped run as it is

-- a run that stopped with k stays stopped with k
abbrev pub Stays : Step → Type 0
Stays f = (k : ℕ) → f (stopped k) ≡ stopped k

-- two such steps in turn are such a step
pub stays_then : (f g : Step) → Stays f → Stays g → Stays (f ⨾ g)
stays_then f g p q k = ap g (p k) ∙ q k

-- such a step under a test
pub stays_when : (t : Bool) (f : Step) → Stays f → Stays (when t f)
stays_when true f p k = p k
stays_when false f p k = refl

-- the one of two such steps that a test picks
pub stays_pick : (t : Bool) (f g : Step) → Stays f → Stays g → Stays (pick t f g)
stays_pick true f g p q k = p k
stays_pick false f g p q k = q k

-- such a step for each of a list
pub stays_each : {A : Type 0} (f : A → Step) (xs : List A) → ((x : A) → Stays (f x)) → Stays (each f xs)
unfolding each
stays_each f [] p k = refl
stays_each f (x ∷ xs) p k = ap (each f xs) (p x k) ∙ stays_each f xs p k

-- every step that the rows decide is such a step
pub stays_asking : (f : List Row → Step) → Stays (asking f)
unfolding asking
stays_asking f k = refl

-- so is stopping
pub stays_stop : (n : ℕ) → Stays (stop n)
unfolding stop
stays_stop n k = refl

-- changing the rows
pub stays_change : (N : ℕ) (f : List Row → List Row) → Stays (change (some N) f)
unfolding change
stays_change N f k = refl

-- entering a row
pub stays_enter : (N : ℕ) (row : Row) → Stays (enter (some N) row)
unfolding enter change
stays_enter N row k = refl

-- and pushing a diagnostic
pub stays_push : (D : ℕ) (note : Row) → Stays (push (some D) note)
unfolding push
stays_push D note k = refl

-- such a step needs no code there
pub stopped_does : {f : Sized} {s : Counts} {b d : List ℕ} → ((N D : ℕ) → Stays (f N D)) → (s.stop ≡ 0 → ⊥) → Fit s (length b) (length d) → Does f s s b d b d
stopped_does {f} {s} {b} {d} stays h fit = record { fit = fit; after = by }
  where
    by : (N D : ℕ) (st : State) → Held N D st s b d → Held N D (f N D st) s b d
    by N D (running rows notes) H = absurd (h H.inside.0)
    by N D (stopped k) H = subst (λ (st : State). Held N D st s b d) (sym (stays N D k)) H

-- ---- with a value that the rows decide: the code asked for it before

-- a step by x, which is what f gives of the rows that the buffer keeps, is the step that asks the rows for it
pub asked : {A : Type 0} (x : A) (f : List Row → A) (g : A → Sized) {s r : Counts} {b d b' d' : List ℕ} → ((a : A) (N D : ℕ) → Stays (g a N D))
    → ((rows : List Row) → Keeps rows s.rows b → x ≡ f rows) → Does (g x) s r b d b' d' → Does (λ N D. asking (λ rows. g (f rows) N D)) s r b d b' d'
unfolding asking
asked {A} x f g {s} {r} {b} {d} {b'} {d'} stays told F = record { fit = F.fit; after = by }
  where
    by : (N D : ℕ) (st : State) → Held N D st s b d → Held N D (asking (λ rows. g (f rows) N D) st) r b' d'
    by N D (running rows notes) H = subst (λ (a : A). Held N D (g a N D (running rows notes)) r b' d') (told rows H.inside.1) (F.after N D (running rows notes) H)
    by N D (stopped k) H = subst (λ (st : State). Held N D st r b' d') (stays x N D k) (F.after N D (stopped k) H)

-- ---- rows replaced one by one: 7 where one has no room is 7 where all of them have none, for no row makes a table shorter

module _ (N : ℕ) where
  enter_next : (x : Row) (new rows notes : List Row)
      → (length (insert x rows) * width ≤ N → each (enter (some N)) new (running (insert x rows) notes) ≡ change (some N) (insert_all new) (running (insert x rows) notes))
      → (t : Bool) → leb (length (insert x rows) * width) N ≡ t
      → each (enter (some N)) new (pick t (running (insert x rows) notes) (stopped 7)) ≡ change (some N) (insert_all new) (running (insert x rows) notes)
  unfolding change fits
  enter_next x new rows notes ih true e = ih (leb-true (length (insert x rows) * width) N e)
  enter_next x new rows notes ih false e =
      let last : List Row = insert_all new (insert x rows) in
      let no : leb (length last * width) N ≡ false =
      lt-leb (length last * width) N (omega (arith, leb-false (length (insert x rows) * width) N e, insert_all_len new (insert x rows))) in
      stays_each (enter (some N)) new (λ r. stays_enter N r) 7 ∙ sym (pick_false (running last notes) (stopped 7) no)

  enter_all : (new rows notes : List Row) → length rows * width ≤ N → each (enter (some N)) new (running rows notes) ≡ change (some N) (insert_all new) (running rows notes)
  unfolding each enter change insert_all fits
  enter_all [] rows notes h = sym (pick_true (running rows notes) (stopped 7) (le-leb (length rows * width) N h))
  enter_all (x ∷ new) rows notes h = enter_next x new rows notes (λ k. enter_all new (insert x rows) notes k) (leb (length (insert x rows) * width) N) refl

  replace_all : (lo hi : ℕ) (new rows notes : List Row) → length rows * width ≤ N
      → (change (some N) (remove lo hi) ⨾ each (enter (some N)) new) (running rows notes) ≡ change (some N) (replace lo hi new) (running rows notes)
  unfolding change replace fits
  replace_all lo hi new rows notes h =
      let fit : length (remove lo hi rows) * width ≤ N = omega (arith, remove_len lo hi rows) in
      ap (each (enter (some N)) new) (pick_true (running (remove lo hi rows) notes) (stopped 7) (le-leb (length (remove lo hi rows) * width) N fit))
      ∙ enter_all new (remove lo hi rows) notes fit

-- the rows under a name: of the old ones only those are taken out whose ordinals no new one has
module _ (kind name many : ℕ) (top : Row) (new : List Row) (few : many < 4294967296) (counted : many ≡ length new) (wide : length top ≡ width) (before : key top < entry_key kind name 0)
    (turn : InTurn (entry_key kind name 0) new) where
  under_turn : (rows : List Row) → Table 0 rows → replace (entry_key kind name many) (entry_key kind (name + 1) 0) (top ∷ new) rows ≡ replace_under kind name (top ∷ new) rows
  under_turn rows T =
      let from : entry_key kind name many ≡ entry_key kind name 0 + length new = omega (arith, counted) in
      ap (λ (k : ℕ). replace k (entry_key kind (name + 1) 0) (top ∷ new) rows) from
      ∙ replace_turn (entry_key kind name 0) (entry_key kind (name + 1) 0) top new rows wide before turn (omega (arith, counted, few)) T

  -- taking these out and entering the new ones in turn is replacing all under the name at once
  pub replaced : {s r : Counts} {b d b' d' : List ℕ}
      → Does (λ N D. changing (remove (entry_key kind name many) (entry_key kind (name + 1) 0)) N D ⨾ each (enter (some N)) (top ∷ new)) s r b d b' d'
      → Does (changing (replace_under kind name (top ∷ new))) s r b d b' d'
  unfolding changing change
  replaced {s} {r} {b} {d} {b'} {d'} F = record { fit = F.fit; after = by }
    where
      lo : ℕ
      lo = entry_key kind name many

      hi : ℕ
      hi = entry_key kind (name + 1) 0

      by : (N D : ℕ) (st : State) → Held N D st s b d → Held N D (change (some N) (replace_under kind name (top ∷ new)) st) r b' d'
      by N D (running rows notes) H =
          let fit : length rows * width ≤ N = omega (arith, keeps_fits H.inside.1, keeps_count H.inside.1, H.rows_long) in
          subst (λ (st : State). Held N D st r b' d')
          (replace_all N lo hi (top ∷ new) rows notes fit ∙ ap (λ (l : List Row). pick (fits width (some N) l) (running l notes) (stopped 7)) (under_turn rows (keeps_table H.inside.1)))
          (F.after N D (running rows notes) H)
      by N D (stopped k) H =
          let e : each (enter (some N)) (top ∷ new) (change (some N) (remove lo hi) (stopped k)) ≡ stopped k =
          stays_then (change (some N) (remove lo hi)) (each (enter (some N)) (top ∷ new)) (stays_change N (remove lo hi)) (stays_each (enter (some N)) (top ∷ new) (λ row. stays_enter N row)) k in
          subst (λ (st : State). Held N D st r b' d') (e ∙ sym (stays_change N (replace_under kind name (top ∷ new)) k)) (F.after N D (stopped k) H)

-- ---- a whole run: begun, done, finished

-- from no rows and no diagnostics: the step done, and what is held then finished, leave what the definition leaves
pub whole : {f : Sized} {N D : ℕ} {s r t : Counts} {b d b' d' b'' d'' : List ℕ} → Held N D (running [] []) s b d → Does f s r b d b' d'
    → ((N D : ℕ) (st : State) → Held N D st r b' d' → Left N D st t b'' d'') → Left N D (f N D (running [] [])) t b'' d''
whole {f} {N} {D} H F L = L N D (f N D (running [] [])) (F.after N D (running [] []) H)
