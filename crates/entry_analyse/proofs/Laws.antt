-- What `analyse` tells, by the way that it took. No line here knows the code. Assumes nothing.
use Prim.Native.Nat.{ℕ, ◌≤◌, ◌<◌}
use mathlib.Core.Path.{◌≡◌, refl, sym, ap, ◌∙◌, subst}
use mathlib.Core.Bool.{true, false}
use mathlib.Core.List.{List, []}
use mathlib.Core.Option.{some}
use native.Mathlib.Omega.{arith}
use lib.ListN.{length}
use borrow.Author.Tests.{le-leb, lt-leb}
use Rattle.base_words.specs.Told.{Told, stops, gives, after, unless}
use Rattle.base_words.specs.Refusals.{number_of, place_of, refused}
use Rattle.base_words.specs.declared.Refusal.{Refusal}
use Rattle.base_words.specs.declared.Refusal.TheVariants.{Size, Strings, Output}
use Rattle.base_strings.specs.Table.{names_of}
use Rattle.base_strings.specs.Open.{Answers}
use Rattle.tree_stmt.specs.Tree.{words_t, Program}
use Rattle.tree_stmt.specs.Stands.{Stands}
use Rattle.entry_read.specs.Sized.{sized_program}
use Rattle.entry_read.specs.Program.{accepted_of}
use Rattle.rows_table.specs.Rows.{Holds}
use Rattle.rows_table.specs.Laws.{pick_true, pick_false}
use Rattle.rows_table.specs.Images.{holds_fits, holds_image}
use Rattle.rows_runs.specs.Laws.{keeps_fits, keeps_count, keeps_table}
use Rattle.collect_buffers.specs.State.{State, running, stopped}
use Rattle.collect_buffers.specs.declared.Counts.{Counts}
use Rattle.collect_buffers.specs.Held.{Fit, Held, Settles, counts_of, rows_left, notes_left, Left}
use Rattle.collect_buffers.specs.Refused.{zeroing, Numbered}
use Rattle.collect_buffers.proofs.Laws.{settled_held, stops_some}
use Rattle.collect_definition.specs.Collect.{given, collected, analysed}
use Rattle.collect_definition.specs.Passed.{Passed}
use Rattle.entry_read.specs.Whole.{Whole}
use Rattle.collect_definition.specs.PassedLaws.{marks_many, passed_whole, accepted_leaves}
use Rattle.law_collected_rows.specs.Good.{Good}
use Rattle.collect_scan.specs.Walk.{Kept, Collects}
use Rattle.entry_collisions.specs.Collisions.{NamesHeld, Ready as ReadyRows, Checks}
use Rattle.entry_collisions.specs.Laws.{OkIn, names_held}
use Rattle.resolve_definition.specs.Tables.{nowhere}
use Rattle.resolve_definition.specs.FromRows.{tables_of}
use Rattle.resolve_definition.specs.Resolve.{resolve_tree, resolve_array_accesses}
use Rattle.resolve_definition.specs.Keeps.{shorter_tree}
use Rattle.resolve_exprs.specs.Post.{Room}
use Rattle.resolve_scan.specs.Post.{ReadyProgram, ResolvedProgram}
use Rattle.law_equivalence.specs.Analysis.{Analysis, result_of}
use Rattle.entry_analyse.specs.Analyse.{work, analysis_in, told, counted, rows_after, notes_after, out_after, Formed, Tells, Analyses}
use Rattle.entry_analyse.specs.Run.{Ends, Tabled}
use Rattle.entry_analyse.proofs.Stops.{Zeroing, analysed_zeroing}
use Rattle.std.specs.Prelude.{Result, Err, Ok}
use Rattle.entry_analyse.specs.declared.Given.{Given}

-- ---- rows and diagnostics

-- what the buffers hold, and by which numbers it stops, says what it ends in
ends_of : {N D : ℕ} {s : Counts} {b d : List ℕ} (st : State) → Held N D st s b d → Zeroing st → Ends N D st
unfolding Ends
ends_of (running rows notes) H z =
    let K = H.inside.1 in
    let f = H.inside.2 in
    (keeps_table K, omega (arith, keeps_fits K, keeps_count K, H.rows_long), f.wide, omega (arith, holds_fits f, f.count, H.notes_long))
ends_of (stopped k) H z = z

module _ {bytes ends erased ws marks : List ℕ} (P : Passed bytes ends erased ws marks) where
  -- what the collision check asks, after collecting
  good_ok : (st : State) → Good marks (length ends) st → OkIn marks st
  good_ok (running rows notes) g = g.ok
  good_ok (stopped k) g = tt

  -- the collision check may run on the settled rows
  pub check_ready : {c : Counts} {b b' d : List ℕ} → Kept marks (length ends) c b d → Settles c b b' → ReadyRows bytes ends b' c × Fit c (length b') (length d)
  check_ready {c} {b} {b'} K S =
      let named : c.stop ≡ 0 → NamesHeld marks c b' = λ h. names_held K.state K.held (good_ok K.state K.good) S h in
      (record { strings = P.named.strings; held = subst (λ (ns : List ℕ). c.stop ≡ 0 → NamesHeld ns c b') P.named.names named }, (omega (arith, K.fit.0, S.long), K.fit.1))

  -- begun, collected, compared and finished
  pub tabled : {next : ℕ} {s c e r : Counts} {b d b₀ d₀ b₁ d₁ b₂ d₂ b₃ d₃ : List ℕ} → Held (length b) (length d) (running [] []) s b₀ d₀
      → Collects ws marks bytes ends erased 0 0 next s c b₀ d₀ b₁ d₁ → Settles c b₁ b₂ → Checks bytes ends c e b₂ d₁ d₂ → ((N D : ℕ) (st : State) → Held N D st e b₂ d₂ → Left N D st r b₃ d₃)
      → Tabled bytes ends erased ws r b d b₃ d₃
  unfolding analysed collected
  tabled {e = e} {b = b} {d = d} {b₂ = b₂} {d₂ = d₂} H C S K L = record { left = λ p a. L _ _ _ (held p a); ends_in = λ p a. ends_of _ (held p a) (analysed_zeroing (length b) (length d) bytes ends erased p) }
    where
      held : (p : Program) → accepted_of (names_of bytes ends) ws erased ≡ gives p → Held (length b) (length d) (analysed (given (some (length b)) (some (length d)) bytes ends erased) p) e b₂ d₂
      held p a = (K.does erased).after (length b) (length d) _ (settled_held S _ ((C.does p (length ws) (passed_whole P p a).stands).1.after (length b) (length d) (running [] []) H))

-- ---- the refusal of a stopped run

stop_zeroing : {N D : ℕ} {s : Counts} {b d : List ℕ} (st : State) → Left N D st s b d → Ends N D st → (s.stop ≡ 0 → ⊥) → zeroing s.stop ≡ true
unfolding counts_of Ends
stop_zeroing (running rows notes) L E h = absurd (h (ap (λ (c : Counts). c.stop) L.answer))
stop_zeroing (stopped k) L E h = ap (λ (c : Counts). zeroing c.stop) L.answer ∙ E

-- it has a number that leaves zeros
pub stopped_zeroing : {bytes ends erased ws marks : List ℕ} → Passed bytes ends erased ws marks → {r : Counts} {b d b' d' : List ℕ} → Tabled bytes ends erased ws r b d b' d' → (r.stop ≡ 0 → ⊥) → zeroing r.stop ≡ true
stopped_zeroing P T h = stop_zeroing _ (T.left P.program P.accepted) (T.ends_in P.program P.accepted) h

-- ---- what is told behind the checks

module _ {bytes ends erased ws marks : List ℕ} (P : Passed bytes ends erased ws marks) where
  work_is : (N D O : ℕ) → length ws ≤ O → work N D O bytes ends erased ws ≡ result_of P.program (analysed (given (some N) (some D) bytes ends erased) P.program)
  unfolding work after unless
  work_is N D O h = rw (P.accepted, le-leb (length ws) O h) refl

tells_as : {r : Result Given Refusal} {notes rows out notes' rows' out' : List ℕ} {t u : Told Analysis} → t ≡ u → Tells r notes rows out notes' rows' out' t → Tells r notes rows out notes' rows' out' u
tells_as {r} {notes} {rows} {out} {notes'} {rows'} {out'} e T = subst (Tells r notes rows out notes' rows' out') e T

-- a refusal that leaves the buffers as they came
pub refused_tells : (f : Refusal) (notes rows out : List ℕ) → zeroing (number_of f) ≡ false → Tells (Err f) notes rows out notes rows out (refused f)
unfolding told counted refused notes_after rows_after out_after Formed
refused_tells f notes rows out z = record { answer = refl; notes_now = sym (pick_false _ _ z); rows_now = sym (pick_false _ _ z); out_now = refl; formed = tt }

stopped_tells : (p : Program) (notes rows out : List ℕ) {s : Counts} {b d : List ℕ} {f : Refusal} (st : State) → Left (length rows) (length notes) st s b d → Ends (length rows) (length notes) st
    → (s.stop ≡ 0 → ⊥) → Numbered s.stop f → Tells (Err f) notes rows out d b out (result_of p st)
unfolding counts_of rows_left notes_left Ends result_of told counted refused notes_after rows_after out_after Formed
stopped_tells p notes rows out (running rs ns) L E h F = absurd (h (ap (λ (c : Counts). c.stop) L.answer))
stopped_tells p notes rows out {f = f} (stopped k) L E h F =
    let n : number_of f ≡ k = F.number ∙ ap (λ (c : Counts). c.stop) L.answer in
    record {
      answer = rw (n, F.place) refl;
      notes_now = L.notes ∙ sym (pick_true _ _ E);
      rows_now = L.rows ∙ sym (pick_true _ _ E);
      out_now = refl;
      formed = tt;
    }

room_of : {N D O : ℕ} {s : Counts} {b d : List ℕ} (ws : List ℕ) (st : State) → length ws ≤ O → Left N D st s b d → Ends N D st → s.stop ≡ 0 → Room ws b s.rows 0 0 0 O
unfolding counts_of rows_left Ends
room_of {N} {D} {O} {s} {b} ws (running rs ds) o L E h =
    let k : s.rows ≡ length rs = ap (λ (c : Counts). c.rows) L.answer in
    let H : Holds rs s.rows b = rw (k, L.rows) (holds_image N rs E.0 E.1) in
    record { rows = rs; holds = H; held = holds_fits H.filled; scoped = omega arith; behind = omega arith; fits = o }
room_of ws (stopped k) o L E h = absurd (stops_some E (sym (ap (λ (c : Counts). c.stop) L.answer) ∙ h))

running_tells : (p : Program) (notes rows out ws ns : List ℕ) {s : Counts} {b d out' : List ℕ} {to : ℕ} (st : State) → Left (length rows) (length notes) st s b d → Ends (length rows) (length notes) st
    → s.stop ≡ 0 → Stands ws ns (length ns) 0 p (length ws) → length ws ≤ length out → ResolvedProgram ns ws b out out' s.rows to
    → Tells (Ok (record { notes = s.notes; rows = s.rows; words = to })) notes rows out d b out' (result_of p st)
unfolding counts_of rows_left notes_left Ends result_of resolve_array_accesses told counted notes_after rows_after out_after Formed
running_tells p notes rows out ws ns {s} {b} {d} {out'} {to} (running rs ds) L E h S o R =
    let k : s.rows ≡ length rs = ap (λ (c : Counts). c.rows) L.answer in
    let m : s.notes ≡ length ds = ap (λ (c : Counts). c.notes) L.answer in
    let H : Holds rs s.rows b = rw (k, L.rows) (holds_image (length rows) rs E.0 E.1) in
    let U = R.gives rs H p S in
    let w = S.wrote.span in
    let u : to ≡ length (words_t (resolve_tree (tables_of rs) 0 nowhere p)) = omega (arith, U.upto) in
    record {
      answer = rw (k, m, u) refl;
      notes_now = L.notes;
      rows_now = L.rows;
      out_now = U.now;
      formed = record { table = E.0; rows_fit = E.1; wide = E.2; notes_fit = E.3; words_fit = omega (arith, w, o, shorter_tree (tables_of rs) 0 nowhere p) };
    }
running_tells p notes rows out ws ns (stopped k) L E h S o R = absurd (stops_some E (sym (ap (λ (c : Counts). c.stop) L.answer) ∙ h))

-- the program is all of the words, of as many strings as there are marks
whole_of : {bytes ends erased ws marks : List ℕ} (P : Passed bytes ends erased ws marks) → Whole ws marks (length marks) P.program
whole_of {ws = ws} {marks} P = subst (λ (n : ℕ). Whole ws marks n P.program) (sym (marks_many P)) (passed_whole P P.program P.accepted)

module _ {bytes ends erased ws marks : List ℕ} (P : Passed bytes ends erased ws marks) where
  module _ {notes rows out : List ℕ} (fits : length ws ≤ length out) {s : Counts} {b d : List ℕ} (T : Tabled bytes ends erased ws s rows notes b d) where
    -- a run that stopped
    pub run_stopped : {f : Refusal} → (s.stop ≡ 0 → ⊥) → Numbered s.stop f → Tells (Err f) notes rows out d b out (work (length rows) (length notes) (length out) bytes ends erased ws)
    run_stopped h F =
        tells_as (sym (work_is P (length rows) (length notes) (length out) fits)) (
        stopped_tells P.program notes rows out _ (T.left P.program P.accepted) (T.ends_in P.program P.accepted) h F)

    -- one that goes on, and is resolved
    pub run_resolved : s.stop ≡ 0 → {out' : List ℕ} {to : ℕ} → ResolvedProgram marks ws b out out' s.rows to
        → Tells (Ok (record { notes = s.notes; rows = s.rows; words = to })) notes rows out d b out' (work (length rows) (length notes) (length out) bytes ends erased ws)
    run_resolved h R =
        tells_as (sym (work_is P (length rows) (length notes) (length out) fits)) (
        running_tells P.program notes rows out ws marks _ (T.left P.program P.accepted) (T.ends_in P.program P.accepted) h
        (whole_of P).stands fits R)

  -- what resolving asks
  pub run_ready : {O : ℕ} → length ws ≤ O → {s : Counts} {rows notes b d : List ℕ} → Tabled bytes ends erased ws s rows notes b d → s.stop ≡ 0 → ReadyProgram marks ws b s.rows O
  run_ready fits T h =
      let p : Program = P.program in
      record {
        room = room_of ws _ fits (T.left p P.accepted) (T.ends_in p P.accepted) h;
        few = P.few;
        program = p;
        stands = (whole_of P).stands;
        shallow = (whole_of P).shallow;
      }

-- ---- 2, 3 and 4, and 10

-- 2, 3 or 4: the buffers are as they came
pub not_accepted : (bytes ends erased ws notes rows out : List ℕ) {f : Refusal} → accepted_of (names_of bytes ends) ws erased ≡ stops (number_of f) (place_of f)
    → Tells (Err f) notes rows out notes rows out (work (length rows) (length notes) (length out) bytes ends erased ws)
unfolding refused work after
not_accepted bytes ends erased ws notes rows out {f} r = rw r (refused_tells f notes rows out (accepted_leaves (names_of bytes ends) ws erased r))

-- an output that is shorter than the tree
pub short_tells : {bytes ends erased ws marks : List ℕ} → Passed bytes ends erased ws marks → (notes rows out : List ℕ) → length out < length ws
    → Tells (Err Output) notes rows out notes rows out (work (length rows) (length notes) (length out) bytes ends erased ws)
unfolding work after unless zeroing refused
short_tells {ws = ws} P notes rows out h = rw (P.accepted, lt-leb (length ws) (length out) h) (refused_tells Output notes rows out refl)

-- ---- the entry

-- what is told behind 5 and 1 is told by the entry
pub entry_tells : {bytes ends erased words : List ℕ} {r : Result Given Refusal} {notes rows out notes' rows' out' : List ℕ} {t : Told Analysis}
    → Answers (sized_program bytes ends words erased) bytes ends t (work (length rows) (length notes) (length out) bytes ends erased words) → Tells r notes rows out notes' rows' out' t
    → Analyses bytes ends erased words r notes rows out notes' rows' out'
unfolding analysis_in
entry_tells A T = record { at = A.at; place = A.place; is = tells_as A.is T }

-- 5 and 1 leave the buffers
pub size_tells : (notes rows out : List ℕ) → Tells (Err Size) notes rows out notes rows out (stops 5 0)
unfolding refused zeroing
size_tells notes rows out = refused_tells Size notes rows out refl

-- 1
pub breaks_tells : (p : ℕ) (notes rows out : List ℕ) → Tells (Err (Strings p)) notes rows out notes rows out (stops 1 p)
unfolding refused zeroing
breaks_tells p notes rows out = refused_tells (Strings p) notes rows out refl
