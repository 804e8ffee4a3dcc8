-- From what the calls did, what is done for one array, and for all of them. No line here knows the code. Assumes nothing.
use Prim.Native.Nat.{ℕ, ◌+◌, ◌*◌, ◌<◌, ◌≤◌}
use mathlib.Core.Path.{◌≡◌, refl, sym, ap, ◌∙◌, subst}
use mathlib.Core.Bool.{Bool, true, false, ◌||◌}
use mathlib.Core.List.{List, [], ◌∷◌, ◌++◌}
use mathlib.Core.Option.{Option, none, some}
use native.Mathlib.Omega.{arith}
use native.Mathlib.Numerals.{add-one}
use lib.Dec.{eqb}
use lib.ListN.{length, take, drop, get_or, take-append-drop}
use lib.Seq.{take-suc}
use borrow.Author.Tests.{eq-eqb}
use Rattle.base_words.specs.Word.{kind_of, pay_of}
use Rattle.base_strings.specs.Table.{string_at, names_of}
use Rattle.rows_lent.specs.Rules.{is_marked}
use Rattle.rows_table.specs.Rows.{Row, width, note_width, rank, find, Holds}
use Rattle.rows_table.specs.Laws.{rank_mono, rank_le}
use Rattle.rows_table.specs.Images.{word_at_lem}
use Rattle.rows_runs.specs.Runs.{row_of, row_in, Keeps}
use Rattle.rows_runs.specs.Laws.{holds_keeps, keeps_same}
use Rattle.rows_runs.specs.Places.{row_word_lem}
use Rattle.rows_kinds.specs.Kinds.{entry_key}
use Rattle.base_builtins.specs.Answers.{arguments_of}
use Rattle.base_builtins.specs.Builtins.{Builtin, builtin, is_builtin, is_some}
use Rattle.fold_const_eval.specs.EvalLaws.{Words32}
use Rattle.collect_buffers.specs.State.{State, running, stopped, Step, when, asking, each}
use Rattle.collect_buffers.specs.declared.Counts.{Counts}
use Rattle.collect_buffers.specs.Held.{Fit, Held, Sized, Does, Notes, pushing, noting}
use Rattle.collect_buffers.proofs.Compose.{same, nothing_does, each_next, notes_does, when_yes, stays_asking, stopped_does, each_append}
use Rattle.collect_definition.specs.Diagnostics.{array_and_proc, array_and_builtin}
use Rattle.collect_definition.specs.Collect.{Given, given, any_array, collides, collision, check_name_collisions}
use Rattle.collect_labels_const.specs.Arrays.{keeps_small, arrays_from, arrays_to, take_quiet, drop_quiet, array_between}
use Rattle.entry_collisions.specs.Collisions.{Ready, Checks, head_at, word_at, NamedAt, Collides}
use Rattle.std.specs.Prelude.{Option as RustOption, Some, None, is_some as is_there}
use Rattle.base_builtins.specs.declared.Arguments.{Arguments}

-- ---- a builtin's name

known : (o : Option Builtin) → is_there (arguments_of o) ≡ is_some o
known none = refl
known (some b) = refl

-- a name is a builtin's where the code knows its arguments
pub knows : (name : List ℕ) {a : RustOption Arguments} → a ≡ arguments_of (builtin name) → is_there a ≡ is_builtin name
unfolding is_builtin
knows name e = ap is_there e ∙ known (builtin name)

-- where the code knows its arguments, it is one
pub is_some_lem : (name : List ℕ) {a : RustOption Arguments} {t : Arguments} → a ≡ arguments_of (builtin name) → a ≡ Some t → true ≡ is_builtin name
is_some_lem name e q = sym (ap is_there q) ∙ knows name e

-- ---- one array

module _ {bytes ends b : List ℕ} {count i : ℕ} {s r : Counts} {d d' : List ℕ} {f : RustOption ℕ}
    (told : (rows : List Row) → Keeps rows count b → row_in b f ≡ find (entry_key 135 (pay_of (head_at b i)) 0) rows) where
  -- a procedure has the name: 27
  pub collides_proc : (j : ℕ) → f ≡ Some j → Notes (pushing (array_and_proc (word_at b i 3) (pay_of (head_at b i)) (word_at b j 2) (word_at b j 3))) s r d d' → Collides bytes ends b count i s r d d'
  unfolding collides pushing
  collides_proc j e F = record {
    does = λ rows H erased.
        let there : find (entry_key 135 (pay_of (head_at b i)) 0) rows ≡ some (row_of b j) = sym (told rows (holds_keeps H)) ∙ ap (row_in b) e in
        let two : get_or (row_of b j) 2 0 ≡ word_at b j 2 = row_word_lem b j 2 (omega arith) in
        let three : get_or (row_of b j) 3 0 ≡ word_at b j 3 = row_word_lem b j 3 (omega arith) in
        rw (there, two, three) F;
  }

  -- none has: 28 where a builtin has
  pub collides_none : f ≡ None → {x : Bool} → x ≡ is_builtin (string_at bytes ends (pay_of (head_at b i))) → Notes (noting x (array_and_builtin (word_at b i 3) (pay_of (head_at b i)))) s r d d'
      → Collides bytes ends b count i s r d d'
  unfolding collides noting
  collides_none e {x} q F = record {
    does = λ rows H erased.
        let there : find (entry_key 135 (pay_of (head_at b i)) 0) rows ≡ none = sym (told rows (holds_keeps H)) ∙ ap (row_in b) e in
        rw (there, sym q) F;
  }

-- ---- all of them

head_is_lem : {b : List ℕ} {count i : ℕ} (rows : List Row) → Holds rows count b → i < count → head_at b i ≡ get_or (get_or rows i []) 0 0
head_is_lem {b} {count} {i} rows H h =
    let e : i * width ≡ i * width + 0 = omega arith in
    ap (λ (k : ℕ). get_or b k 0) e ∙ word_at_lem H.filled i 0 h (omega arith)

-- rows without an array say nothing
quiet : (G : Given) (rows xs : List Row) → any_array xs ≡ false → (st : State) → each (collision G rows) xs st ≡ st
unfolding each collision any_array
quiet G rows [] e st = refl
quiet G rows (x ∷ xs) e st = go (eqb (kind_of (get_or x 0 0)) 133) e (λ f. quiet G rows xs f st)
  where
    go : (t : Bool) → (t || any_array xs) ≡ false → (any_array xs ≡ false → each (collision G rows) xs st ≡ st)
        → each (collision G rows) xs (when t (collides G (get_or x 3 0) (pay_of (get_or x 0 0)) (find (entry_key 135 (pay_of (get_or x 0 0)) 0) rows)) st) ≡ st
    go true f ih =
        let z : ◌≡◌ {A = ℕ} 0 1 = cc in
        absurd (omega arith)
    go false f ih = ih f

-- a step that the rows decide, where the run goes on and the buffer holds its rows in order
asking_does : {f : List Row → Sized} {s r : Counts} {b d b' d' : List ℕ} {there : List Row} → Holds there s.rows b → s.stop ≡ 0 → Fit r (length b') (length d') → ((rows : List Row) → Holds rows s.rows b → Does (f rows) s r b d b' d')
    → Does (λ N D. asking (λ rows. f rows N D)) s r b d b' d'
unfolding asking
asking_does {f} {s} {r} {b} {d} {b'} {d'} T go fit F = record { fit = fit; after = by }
  where
    by : (N D : ℕ) (st : State) → Held N D st s b d → Held N D (asking (λ rows. f rows N D) st) r b' d'
    by N D (running rows notes) H = (F rows (subst (λ (l : List Row). Holds l s.rows b) (keeps_same (holds_keeps T) H.inside.1) T)).after N D (running rows notes) H
    by N D (stopped k) H =
        let z : k ≡ 0 = sym H.inside.0 ∙ go in
        absurd (omega (arith, H.inside.1))

-- the places of the arrays' rows
pub record Between (b : List ℕ) (count from to : ℕ) : Type 0 where
  pub from_is : (rows : List Row) → Holds rows count b → from ≡ rank arrays_from rows
  pub to_is : (rows : List Row) → Holds rows count b → to ≡ rank arrays_to rows

-- the code's two searches give them
pub between : {b : List ℕ} {count from to k l : ℕ} → k ≡ arrays_from → l ≡ arrays_to → ((rows : List Row) → Holds rows count b → from ≡ rank k rows)
    → ((rows : List Row) → Holds rows count b → to ≡ rank l rows) → Between b count from to
between p q f t = record { from_is = λ rows H. f rows H ∙ ap (λ (k : ℕ). rank k rows) p; to_is = λ rows H. t rows H ∙ ap (λ (k : ℕ). rank k rows) q }

-- what is done up to row i
pub record Upto (bytes ends b : List ℕ) (count from to : ℕ) (s : Counts) (d : List ℕ) (t : Counts) (d' : List ℕ) (i : ℕ) : Type 0 where
  pub bounds : Between b count from to
  pub low : from ≤ i
  pub high : i ≤ to
  pub long : length d' ≡ length d
  pub room : t.notes * note_width ≤ length d'
  pub done : (rows : List Row) → Holds rows count b → (erased : List ℕ) → Does (λ N D. each (collision (given (some N) (some D) bytes ends erased) rows) (take i rows)) s t b d b d'

module _ {bytes ends b d : List ℕ} {s : Counts} where
  -- before the first array nothing is done
  pub upto_start : Ready bytes ends b s → s.stop ≡ 0 → Fit s (length b) (length d) → {from to : ℕ} → Between b s.rows from to → Upto bytes ends b s.rows from to s d s d from
  upto_start R go fit {from} {to} B =
      let h = R.held go in
      record {
        bounds = B;
        low = omega arith;
        high = omega (arith, B.from_is h.rows h.holds, B.to_is h.rows h.holds, rank_mono arrays_from arrays_to h.rows (omega arith));
        long = refl;
        room = fit.1;
        done = λ rows H erased.
            same (λ N D. each (collision (given (some N) (some D) bytes ends erased) rows) (take from rows))
            (λ N D st. sym (quiet (given (some N) (some D) bytes ends erased) rows (take from rows) (ap (λ (n : ℕ). any_array (take n rows)) (B.from_is rows H) ∙ take_quiet rows) st)) (nothing_does fit);
      }

  module _ {from to : ℕ} {t : Counts} {d' : List ℕ} {i : ℕ} (W : Words32 b) (U : Upto bytes ends b s.rows from to s d t d' i) where
    -- the row there is an array's
    array_at : (rows : List Row) → Holds rows s.rows b → i < to → (i < length rows) × (kind_of (get_or (get_or rows i []) 0 0) ≡ 133)
    array_at rows H h =
        let p = U.bounds.from_is rows H in
        let q = U.bounds.to_is rows H in
        (omega (arith, q, rank_le arrays_to rows), array_between rows H.table (keeps_small W (holds_keeps H)) i (omega (arith, p, U.low)) (omega (arith, q)))

    -- the row there names an array
    pub named_at : Ready bytes ends b s → s.stop ≡ 0 → s.rows * width ≤ length b → i < to → NamedAt bytes ends b s.rows i
    named_at R go fit h =
        let n = R.held go in
        let a = array_at n.rows n.holds h in
        let inside : i < s.rows = omega (arith, a.0, n.holds.filled.count) in
        let e = head_is_lem n.rows n.holds inside in
        record { strings = R.strings; inside = inside; fits = fit; named = ap (λ (w : ℕ). is_marked (names_of bytes ends) (pay_of w)) e ∙ n.named i a.0 a.1 }

    -- one more was looked at
    next_done : i < to → {u : Counts} {d'' : List ℕ} → Collides bytes ends b s.rows i t u d' d''
        → (rows : List Row) → Holds rows s.rows b → (erased : List ℕ) → Does (λ N D. each (collision (given (some N) (some D) bytes ends erased) rows) (take (i + 1) rows)) s u b d b d''
    unfolding collision
    next_done h {u} {d''} C rows H erased =
        let a = array_at rows H h in
        let inside : i < s.rows = omega (arith, a.0, H.filled.count) in
        let zero_is = head_is_lem rows H inside in
        let three_is : word_at b i 3 ≡ get_or (get_or rows i []) 3 0 = word_at_lem H.filled i 3 inside (omega arith) in
        let F = U.done rows H erased in
        let G = notes_does (C.does rows H erased) b F.fit.0 in
        let all : take (i + 1) rows ≡ take i rows ++ (get_or rows i [] ∷ []) = ap (λ (n : ℕ). take n rows) (add-one i) ∙ take-suc rows i [] a.0 in
        subst (λ (l : List Row). Does (λ N D. each (collision (given (some N) (some D) bytes ends erased) rows) l) s u b d b d'') (sym all)
        (each_next (λ (x : Row) N D. collision (given (some N) (some D) bytes ends erased) rows x) (take i rows) (get_or rows i []) F
        (when_yes (eqb (kind_of (get_or (get_or rows i []) 0 0)) 133) (eq-eqb (kind_of (get_or (get_or rows i []) 0 0)) 133 a.1) (rw (zero_is, three_is) at G)))

    -- one more array
    pub upto_next : i < to → Ready bytes ends b s → s.stop ≡ 0 → {u : Counts} {d'' : List ℕ} → length d'' ≡ length d' → Collides bytes ends b s.rows i t u d' d'' → Upto bytes ends b s.rows from to s d u d'' (i + 1)
    upto_next h R go {u} {d''} l C =
        let w = R.held go in
        record { bounds = U.bounds; low = omega (arith, U.low); high = omega (arith, h); long = l ∙ U.long; room = (C.does w.rows w.holds []).fit; done = next_done h C }

    -- no array is left
    pub upto_end : to ≤ i → Ready bytes ends b s → s.stop ≡ 0 → Checks bytes ends s t b d d'
    unfolding check_name_collisions
    upto_end h R go =
        let w = R.held go in
        record { does = λ erased. asking_does w.holds go (U.done w.rows w.holds erased).fit (λ rows H. all erased rows H) }
      where
        left_quiet : (rows : List Row) → Holds rows s.rows b → any_array (drop i rows) ≡ false
        left_quiet rows H =
            let e : i ≡ rank arrays_to rows = omega (arith, h, U.high, U.bounds.to_is rows H) in
            ap (λ (n : ℕ). any_array (drop n rows)) e ∙ drop_quiet 0 rows H.table (keeps_small W (holds_keeps H))

        all : (erased : List ℕ) (rows : List Row) → Holds rows s.rows b → Does (λ N D. each (collision (given (some N) (some D) bytes ends erased) rows) rows) s t b d b d'
        all erased rows H =
            same (λ N D. each (collision (given (some N) (some D) bytes ends erased) rows) rows)
            (λ N D st.
            let f : Row → Step = collision (given (some N) (some D) bytes ends erased) rows in
            sym (ap (λ (l : List Row). each f l st) (sym (take-append-drop i rows)) ∙ each_append f (take i rows) (drop i rows) st ∙ quiet (given (some N) (some D) bytes ends erased) rows (drop i rows) (left_quiet rows H) (each f (take i rows) st)))
            (U.done rows H erased)

-- a stopped run passes by
pub stopped_checks : {bytes ends b d : List ℕ} {s : Counts} → (s.stop ≡ 0 → ⊥) → Fit s (length b) (length d) → Checks bytes ends s s b d d
unfolding check_name_collisions
stopped_checks {bytes} {ends} h fit = record { does = λ erased. stopped_does (λ N D. stays_asking (λ rows. each (collision (given (some N) (some D) bytes ends erased) rows) rows)) h fit }
