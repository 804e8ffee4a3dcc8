-- One field: what its code does to the run, by its code and its words. Assumes nothing.
use Prim.Native.Nat.{ℕ, ◌+◌, ◌-◌, ◌*◌, ◌≤◌, ◌<◌}
use mathlib.Core.Path.{◌≡◌, refl, sym, ap, ◌∙◌, subst}
use mathlib.Core.Bool.{Bool, true, false, false≢true}
use mathlib.Core.List.{List, [], ◌∷◌}
use mathlib.Core.Option.{some}
use native.Mathlib.Omega.{arith}
use lib.Dec.{leb, eqb}
use lib.ListN.{length}
use borrow.Author.Tests.{eq-eqb, ne_eqb, le-leb, lt-leb}
use Rattle.base_words.specs.Word.{pick}
use Rattle.rows_table.specs.Rows.{Row, width, note_width}
use Rattle.rows_runs.specs.Runs.{Keeps}
use Rattle.rows_table.specs.Laws.{pick_true, pick_false}
use Rattle.rows_kinds.specs.Kinds.{has, field_row}
use Rattle.rows_lookup.specs.Lookup.{type_words}
use Rattle.collect_buffers.specs.State.{State, Step, nothing, each, stop, enter, push}
use Rattle.collect_buffers.specs.declared.Counts.{Counts}
use Rattle.collect_buffers.specs.Held.{Held, Sized, Notes, Rows, Counted, entering, pushing}
use Rattle.collect_buffers.proofs.RowSteps.{rows_same}
use Rattle.std.specs.Prelude.{Result, Ok, Err, IsErrAnd}
use Rattle.std.specs.Result.{is_err}
use Rattle.collect_type.specs.declared.Rejected.{Rejected}
use Rattle.collect_type.specs.declared.Rejected.TheVariants.{Twice, Itself, Undefined}
use Rattle.collect_type.specs.Types.{type_code, code_told, code_of_why, note_of, grown, sized, looks, Looks, KeepsField}
use Rattle.collect_type.specs.declared.Kept.{Kept}

-- ---- a type's code

module _ (rows : List Row) (owner head arg : ℕ) where
  -- a type that is no TYPE's name is right
  pub code_plain : (head ≡ 45 → ⊥) → 0 ≡ type_code rows owner head arg
  unfolding type_code
  code_plain h = sym (pick_false _ _ (ne_eqb head 45 h))

  -- the TYPE's own name is 6
  pub code_itself : head ≡ 45 → arg ≡ owner → 6 ≡ type_code rows owner head arg
  unfolding type_code
  code_itself h e = sym (pick_true _ _ (eq-eqb head 45 h) ∙ pick_true _ _ (eq-eqb arg owner e))

  -- any other is 0 where there is such a TYPE, else 7
  pub code_record : head ≡ 45 → (arg ≡ owner → ⊥) → (t : Bool) → t ≡ has rows 130 arg 0 → pick t 0 7 ≡ type_code rows owner head arg
  unfolding type_code
  code_record h n t e = ap (λ (u : Bool). pick u 0 7) e ∙ sym (pick_true _ _ (eq-eqb head 45 h) ∙ pick_false _ _ (ne_eqb arg owner n))

-- a reason's code is not 0
pub why_some : (why : Rejected) → code_of_why why ≡ 0 → ⊥
why_some Twice e = absurd (omega arith)
why_some Itself e = absurd (omega arith)
why_some Undefined e = absurd (omega arith)

-- a field that is rejected has a code, one that is kept has none
pub failed_some : (r : Result (Unit {0}) Rejected) → is_err r ≡ true → code_told r ≡ 0 → ⊥
failed_some (Ok u) h = absurd (false≢true h)
failed_some (Err why) h = why_some why

pub passed_none : (r : Result (Unit {0}) Rejected) → is_err r ≡ false → code_told r ≡ 0
passed_none (Ok u) h = refl
passed_none (Err why) h = absurd (false≢true (sym h))

-- an answer that is handed on is the same
pub handed : {r : Result (Unit {0}) Rejected} {why : Rejected} → IsErrAnd r (λ x. x ≡ why) → r ≡ Err why
handed {r = Ok u} h = absurd h
handed {r = Err x} h = ap Err h

-- ---- its words

-- too many: they stay as they were
pub grown_no : (words more : ℕ) → words ≤ 65535 → 65535 - words < more → words ≡ grown words more
unfolding grown
grown_no words more h l = sym (pick_false _ _ (lt-leb (words + more) 65535 (omega arith)))

-- they fit: so many more
pub grown_yes : (words more : ℕ) → words ≤ 65535 → more ≤ 65535 - words → words + more ≡ grown words more
unfolding grown
grown_yes words more h l = sym (pick_true _ _ (le-leb (words + more) 65535 (omega arith)))

-- ---- a step on the diagnostics by another name

as_notes : {f : Sized} (g : Sized) {s r : Counts} {d d' : List ℕ} → ((N D : ℕ) (st : State) → f N D st ≡ g N D st) → Notes f s r d d' → Notes g s r d d'
as_notes g {s} {r} {d} {d'} e F = record { fit = F.fit; kept = F.kept; after = λ b N D st H. subst (λ (x : State). Held N D x r b d') (e N D st) (F.after b N D st H) }

module _ (line owner code name head arg : ℕ) (s : Kept) (b d : List ℕ) (few : s.words ≤ 65535) where
  -- any other code than 0: its diagnostic
  pub look_rejected : (code ≡ 0 → ⊥) → {t : Counts} {d' : List ℕ} → Notes (pushing (note_of code line owner name arg)) s.counts t d d'
      → Looks line owner code name head arg s (record { counts = t; fields = s.fields; words = s.words }) b d d'
  unfolding pushing looks sized
  look_rejected n N =
      record {
        fit = N.fit;
        kept = N.kept;
        few = few;
        more = sym (pick_false _ _ (ne_eqb code 0 n));
        size = λ rows H. sym (pick_false _ _ (ne_eqb code 0 n));
        notes = λ rows H. as_notes (λ N D. looks D rows line owner s.words code name head arg) (λ N D st. ap (λ (g : Step). g st) (sym (pick_false {A = Step} (pick (leb (s.words + type_words rows head arg) 65535) nothing (stop 9)) (push (some D) (note_of code line owner name arg)) (ne_eqb code 0 n)))) N;
      }

  module _ (z : code ≡ 0) (fit : s.counts.notes * note_width ≤ length d) (more : ℕ) (told : (rows : List Row) → Keeps rows s.counts.rows b → more ≡ type_words rows head arg) where
    -- 0, and the words would be too many: number 9
    pub look_long : 65535 - s.words < more → {t : Counts} → Counted (λ N D. stop 9) s.counts t → Looks line owner code name head arg s (record { counts = t; fields = s.fields + 1; words = s.words }) b d d
    unfolding looks sized
    look_long l C =
        record {
          fit = omega (arith, C.notes_kept);
          kept = C.rows_kept;
          few = few;
          more = sym (pick_true _ _ (eq-eqb code 0 z));
          size = λ rows H. grown_no s.words (type_words rows head arg) few (omega (arith, told rows H)) ∙ sym (pick_true _ _ (eq-eqb code 0 z));
          notes = λ rows H. as_notes (λ N D. looks D rows line owner s.words code name head arg)
              (λ N D st. ap (λ (g : Step). g st) (sym (pick_true {A = Step} (pick (leb (s.words + type_words rows head arg) 65535) nothing (stop 9)) (push (some D) (note_of code line owner name arg)) (eq-eqb code 0 z)
              ∙ pick_false {A = Step} nothing (stop 9) (lt-leb (s.words + type_words rows head arg) 65535 (omega (arith, told rows H))))))
              (record { fit = omega (arith, C.notes_kept); kept = C.rows_kept; after = λ b' N D st K. C.after b' d N D st K });
        }

    -- 0, and they fit: nothing is said
    pub look_short : more ≤ 65535 - s.words → Looks line owner code name head arg s (record { counts = s.counts; fields = s.fields + 1; words = s.words + more }) b d d
    unfolding looks sized
    look_short l =
        record {
          fit = fit;
          kept = refl;
          few = omega arith;
          more = sym (pick_true _ _ (eq-eqb code 0 z));
          size = λ rows H. ap (λ (m : ℕ). s.words + m) (told rows H) ∙ grown_yes s.words (type_words rows head arg) few (omega (arith, told rows H)) ∙ sym (pick_true _ _ (eq-eqb code 0 z));
          notes = λ rows H. as_notes (λ N D. looks D rows line owner s.words code name head arg)
              (λ N D st. ap (λ (g : Step). g st) (sym (pick_true {A = Step} (pick (leb (s.words + type_words rows head arg) 65535) nothing (stop 9)) (push (some D) (note_of code line owner name arg)) (eq-eqb code 0 z)
              ∙ pick_true {A = Step} nothing (stop 9) (le-leb (s.words + type_words rows head arg) 65535 (omega (arith, told rows H))))))
              (record { fit = fit; kept = refl; after = λ b' N D st K. K });
        }

-- ---- a field entered

module _ (owner code name head arg : ℕ) (s : Kept) (b : List ℕ) where
  abbrev Row' : List Row
  Row' = field_row owner s.fields name s.words head arg ∷ []

  -- any other code than 0: no row
  pub keep_none : s.words ≤ 65535 → s.counts.rows * width ≤ length b → (code ≡ 0 → ⊥) → KeepsField owner code name head arg s s b b
  unfolding sized each
  keep_none few fit n =
      record {
        few = few;
        more = sym (pick_false _ _ (ne_eqb code 0 n));
        size = λ rows H. sym (pick_false _ _ (ne_eqb code 0 n));
        rows = rows_same (λ N D. each (enter (some N)) (pick (eqb code 0) Row' [])) (λ N D st. ap (λ (l : List Row). each (enter (some N)) l st) (sym (pick_false Row' [] (ne_eqb code 0 n)))) (record { fit = fit; kept = refl; after = λ d N D st K. K });
      }

  -- 0: its row, with the next ordinal and the words before it
  pub keep_some : code ≡ 0 → (more w : ℕ) → ((rows : List Row) → Keeps rows s.counts.rows b → more ≡ type_words rows head arg) → w ≡ grown s.words more → w ≤ 65535
      → {t : Counts} {b' : List ℕ} → Rows (entering (field_row owner s.fields name s.words head arg)) s.counts t b b'
      → KeepsField owner code name head arg s (record { counts = t; fields = s.fields + 1; words = w }) b b'
  unfolding sized each entering
  keep_some z more w told e few R =
      record {
        few = few;
        more = sym (pick_true _ _ (eq-eqb code 0 z));
        size = λ rows H. e ∙ ap (grown s.words) (told rows H) ∙ sym (pick_true _ _ (eq-eqb code 0 z));
        rows = rows_same (λ N D. each (enter (some N)) (pick (eqb code 0) Row' [])) (λ N D st. ap (λ (l : List Row). each (enter (some N)) l st) (sym (pick_true Row' [] (eq-eqb code 0 z)))) R;
      }
