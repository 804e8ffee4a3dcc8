-- What the entry's answers tell, by the way that they took. No line here knows the code. Assumes nothing.
use Prim.Native.Nat.{ℕ}
use mathlib.Core.Path.{◌≡◌, refl, sym, ap, ◌∙◌}
use mathlib.Core.Bool.{Bool, true, false}
use mathlib.Core.List.{List, [], ◌∷◌, ◌++◌}
use mathlib.Core.Option.{Option, none, some}
use native.Mathlib.Omega.{arith}
use lib.Dec.{eqb}
use lib.ListN.{length, get_or}
use Rattle.base_words.specs.Word.{kind_of, pay_of, pick}
use Rattle.base_words.specs.Told.{gives, after, unless}
use Rattle.base_words.specs.Refusals.{refused}
use Rattle.base_words.specs.declared.Refusal.{Refusal}
use Rattle.base_words.specs.declared.Refusal.TheVariants.{Rows as RowsRefused, DiagnosticsFull}
use Rattle.base_strings.specs.Open.{entry_of, Answers}
use Rattle.base_strings.specs.Table.{sound, names_of}
use Rattle.rows_table.specs.Rows.{Row, note_width, zeros, image, rows_of, find, Filled}
use Rattle.rows_kinds.specs.Kinds.{entry_key}
use Rattle.base_builtins.specs.Builtins.{is_builtin}
use Rattle.rows_runs.specs.Laws.{holds_keeps}
use Rattle.rows_lent.specs.Lent.{checked, lent_rows}
use Rattle.rows_lent.specs.LentLaws.{checked_sound}
use Rattle.entry_lookup.specs.Leaves.{sized}
use Rattle.collect_buffers.specs.State.{State, running, stopped, Step, when, asking, each, fits, push}
use Rattle.collect_buffers.specs.declared.Counts.{Counts}
use Rattle.collect_buffers.specs.Held.{Held}
use Rattle.collect_definition.specs.Diagnostics.{array_and_proc, array_and_builtin}
use Rattle.collect_definition.specs.Collect.{Given, given, collides, collision, check_name_collisions}
use Rattle.collect_definition.specs.Code.{Named}
use Rattle.entry_collisions.specs.Collisions.{Ready, Checks}
use Rattle.entry_collisions.specs.Laws.{arrays_named}
use Rattle.entry_collisions.specs.Entry.{end_of, said_of, over_of, checked_of, counted, left_of, told_as, Tells, Entry, LentReady}
use Rattle.std.specs.Prelude.{Option as RustOption, None, Some, Result, Err, Ok, IsErrAnd, ok_or}

-- ---- only 8 stops the check

abbrev Eight : State → Type 0
Eight (running rows notes) = Unit {0}
Eight (stopped k) = k ≡ 8

push_eight : (D : Option ℕ) (note : Row) (st : State) → Eight st → Eight (push D note st)
unfolding push
push_eight D note (running rows notes) e = go (fits note_width D (notes ++ (note ∷ [])))
  where
    go : (t : Bool) → Eight (pick t (running rows (notes ++ (note ∷ []))) (stopped 8))
    go true = tt
    go false = refl
push_eight D note (stopped k) e = e

when_eight : (t : Bool) (f : Step) (st : State) → (Eight st → Eight (f st)) → Eight st → Eight (when t f st)
when_eight true f st h e = h e
when_eight false f st h e = e

module _ (G : Given) where
  collides_eight : (line name : ℕ) (o : Option Row) (st : State) → Eight st → Eight (collides G line name o st)
  unfolding collides
  collides_eight line name (some proc) st e = push_eight G.note_room (array_and_proc line name (get_or proc 2 0) (get_or proc 3 0)) st e
  collides_eight line name none st e = when_eight (is_builtin (G.string name)) (push G.note_room (array_and_builtin line name)) st (push_eight G.note_room (array_and_builtin line name) st) e

  each_eight : (rows xs : List Row) (st : State) → Eight st → Eight (each (collision G rows) xs st)
  unfolding each collision
  each_eight rows [] st e = e
  each_eight rows (x ∷ xs) st e =
      let name : ℕ = pay_of (get_or x 0 0) in
      let f : Step = collides G (get_or x 3 0) name (find (entry_key 135 name 0) rows) in
      each_eight rows xs (when (eqb (kind_of (get_or x 0 0)) 133) f st) (when_eight (eqb (kind_of (get_or x 0 0)) 133) f st (collides_eight (get_or x 3 0) name (find (entry_key 135 name 0) rows) st) e)

  check_eight : (rows : List Row) → Eight (check_name_collisions G (running rows []))
  unfolding check_name_collisions asking
  check_eight rows = each_eight rows rows (running rows []) tt

-- ---- behind all checks

module _ {bytes ends buf : List ℕ} {n : ℕ} (L : LentReady bytes ends buf n) where
  -- the counts before the run
  abbrev pub fresh : Counts
  fresh = record { stop = 0; rows = n; notes = 0 }

  -- the check may run
  pub ready : Ready bytes ends buf fresh
  ready = record { strings = L.strings; held = λ go. record { rows = rows_of n buf; holds = L.lent.holds; named = arrays_named (names_of bytes ends) (rows_of n buf) L.lent.ok } }

  module _ (d : List ℕ) {d₁ d₂ : List ℕ} {t : Counts} (l : length d₁ ≡ length d) (E : Filled note_width [] 0 d₁) (C : Checks bytes ends fresh t buf d₁ d₂) where
    after_run : Held (length buf) (length d) (check_name_collisions (given (some (length buf)) (some (length d)) bytes ends []) (running (rows_of n buf) [])) t buf d₂
    after_run = (C.does []).after (length buf) (length d) (running (rows_of n buf) []) (record { rows_long = refl; notes_long = l; inside = (refl, holds_keeps L.lent.holds, E) })

    -- it went through: how many diagnostics there are
    pub over_fine : t.stop ≡ 0 → Tells d (Ok t.notes) d₂ (over_of bytes ends buf (length d) n)
    unfolding over_of said_of end_of told_as counted left_of
    over_fine go = by (check_name_collisions (given (some (length buf)) (some (length d)) bytes ends []) (running (rows_of n buf) [])) after_run
      where
        by : (st : State) → Held (length buf) (length d) st t buf d₂ → Tells d (Ok t.notes) d₂ (end_of st)
        by (running rows notes) H = record { told = ap gives (sym H.inside.2.count); left = H.inside.2.words ∙ ap (λ (k : ℕ). image note_width k notes) H.notes_long }
        by (stopped k) H =
            let z : k ≡ 0 = sym H.inside.0 ∙ go in
            absurd (omega (arith, H.inside.1))

    -- it stopped: 8, and zeros
    pub over_full : (t.stop ≡ 0 → ⊥) → {d₃ : List ℕ} → d₃ ≡ zeros (length d₂) → Tells d (Err DiagnosticsFull) d₃ (over_of bytes ends buf (length d) n)
    unfolding over_of said_of end_of told_as counted left_of refused
    over_full h {d₃} z = by (check_name_collisions (given (some (length buf)) (some (length d)) bytes ends []) (running (rows_of n buf) [])) after_run (check_eight (given (some (length buf)) (some (length d)) bytes ends []) (rows_of n buf))
      where
        by : (st : State) → Held (length buf) (length d) st t buf d₂ → Eight st → Tells d (Err DiagnosticsFull) d₃ (end_of st)
        by (running rows notes) H e = absurd (h H.inside.0)
        by (stopped k) H e = rw e (record { told = refl; left = z ∙ ap zeros H.notes_long })

-- an answer that is handed on is the same
pub handed : {r : Result ℕ Refusal} {f : Refusal} → IsErrAnd r (λ x. x ≡ f) → r ≡ Err f
handed {r = Ok n} h = absurd h
handed {r = Err x} h = ap Err h

-- no rows, made into a refusal and handed on
pub no_rows : {k : RustOption ℕ} {x r : Result ℕ Refusal} {f : Refusal} → x ≡ ok_or k RowsRefused → x ≡ Err f → IsErrAnd r (λ y. y ≡ f) → (k ≡ None) × (r ≡ Err RowsRefused)
no_rows {k = Some n} e q h = let z : ◌≡◌ {A = ℕ} 0 1 = cc in absurd (omega arith)
no_rows {k = None} {f = f} e q h =
    let same : f ≡ RowsRefused = cc in
    (refl, handed h ∙ ap Err same)

-- ---- number 6

module _ {bytes ends names : List ℕ} (buf : List ℕ) (M : Named bytes ends names) {k : RustOption ℕ} (e : k ≡ checked names buf) where
  -- no lent table: 6, and the buffer as it came
  pub rows_bad : (d : List ℕ) → k ≡ None → Tells d (Err RowsRefused) d (checked_of bytes ends buf (length d))
  unfolding checked_of said_of lent_rows after told_as counted left_of refused
  rows_bad d q =
      let b : checked (names_of bytes ends) buf ≡ None = ap (λ (l : List ℕ). checked l buf) (sym M.names) ∙ sym e ∙ q in
      rw b (record { told = refl; left = refl })

  module _ {n : ℕ} (q : k ≡ Some n) where
    is_rows : checked (names_of bytes ends) buf ≡ Some n
    is_rows = ap (λ (l : List ℕ). checked l buf) (sym M.names) ∙ sym e ∙ q

    -- a lent table: its rows passed
    pub lent_ready : LentReady bytes ends buf n
    lent_ready = record { strings = M.strings; lent = checked_sound (names_of bytes ends) n buf is_rows }

    -- then what the check tells is told
    pub rows_fine : {d d' : List ℕ} {r : Result ℕ Refusal} → Tells d r d' (over_of bytes ends buf (length d) n) → Tells d r d' (checked_of bytes ends buf (length d))
    unfolding checked_of over_of lent_rows after
    rows_fine T = rw is_rows T

-- ---- numbers 5 and 1

module _ {bytes ends buf d : List ℕ} where
  -- one of them: the buffer as it came
  pub entry_shut : {f : Refusal} → Answers (sized bytes ends) bytes ends (refused f) (gives (tt {0})) → Entry bytes ends buf d (Err f) d
  unfolding refused entry_of unless told_as counted left_of
  entry_shut {f} a = record { at = a.at; place = a.place; tells = go (sized bytes ends) (sound bytes ends) a.is }
    where
      go : (s t : Bool) → refused f ≡ unless s 5 0 (unless t 1 a.at (gives (tt {0}))) → Tells d (Err f) d (unless s 5 0 (unless t 1 a.at (checked_of bytes ends buf (length d))))
      go true true e =
          let z : ◌≡◌ {A = ℕ} 0 1 = cc in
          absurd (omega arith)
      go true false e = record { told = cc; left = refl }
      go false t e = record { told = cc; left = refl }

  -- neither: what is told behind them
  pub entry_open : {r : Result ℕ Refusal} {d' : List ℕ} → Answers (sized bytes ends) bytes ends (gives (tt {0})) (gives (tt {0})) → Tells d r d' (checked_of bytes ends buf (length d)) → Entry bytes ends buf d r d'
  unfolding entry_of unless
  entry_open {r} {d'} a T = record { at = a.at; place = a.place; tells = go (sized bytes ends) (sound bytes ends) a.is }
    where
      go : (s t : Bool) → gives (tt {0}) ≡ unless s 5 0 (unless t 1 a.at (gives (tt {0}))) → Tells d r d' (unless s 5 0 (unless t 1 a.at (checked_of bytes ends buf (length d))))
      go true true e = T
      go true false e =
          let z : ◌≡◌ {A = ℕ} 0 1 = cc in
          absurd (omega arith)
      go false t e =
          let z : ◌≡◌ {A = ℕ} 0 1 = cc in
          absurd (omega arith)
