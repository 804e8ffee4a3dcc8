-- What the entry's answers tell, by the way that they took. No line here knows the code. Assumes nothing.
use Prim.Native.Nat.{ℕ}
use mathlib.Core.Path.{◌≡◌, refl, sym, ap, subst, ◌∙◌}
use mathlib.Core.Bool.{Bool, true, false}
use native.Mathlib.Omega.{arith}
use mathlib.Core.List.{List, []}
use mathlib.Core.Option.{some}
use lib.ListN.{length}
use Rattle.base_words.specs.Told.{Told, stops, gives, after, unless}
use Rattle.base_words.specs.Refusals.{refused, number_of, place_of}
use Rattle.base_words.specs.declared.Refusal.{Refusal}
use Rattle.base_strings.specs.Table.{sound, names_of}
use Rattle.base_strings.specs.Open.{Answers, entry_of}
use Rattle.base_strings.specs.declared.right.Sound.{Sound}
use Rattle.entry_read.specs.Begun.{Begun}
use Rattle.entry_read.specs.Program.{accepted_of}
use Rattle.rows_runs.specs.Laws.{keeps_same}
use Rattle.collect_buffers.specs.State.{State, running, stopped}
use Rattle.collect_buffers.specs.Refused.{zeroing, Numbered}
use Rattle.collect_buffers.specs.Held.{Held, Left, counts_of, rows_left, notes_left}
use Rattle.collect_buffers.proofs.Laws.{stops_some}
use Rattle.collect_buffers.proofs.Compose.{whole}
use Rattle.collect_buffers.specs.declared.Counts.{Counts}
use Rattle.collect_definition.specs.Collect.{given, collected}
use Rattle.collect_definition.specs.Passed.{Passed}
use Rattle.collect_definition.specs.PassedLaws.{passed_whole, accepted_leaves}
use Rattle.law_collected_rows.specs.Good.{Good, GoodRows}
use Rattle.collect_scan.specs.Walk.{Collects}
use Rattle.entry_collect.specs.Entry.{Buffers, buffers_of, work, told, Leaves, Tells, Tabled}
use Rattle.std.specs.Prelude.{Result, Err, Ok}
use Rattle.entry_collect.specs.declared.Sizes.{Sizes}

-- ---- 2, 3 and 4

-- they are told, and the buffers are as they came
pub refused_tells : (bytes ends erased ws : List ℕ) (N D : ℕ) {f : Refusal} (b d : List ℕ) → accepted_of (names_of bytes ends) ws erased ≡ stops (number_of f) (place_of f)
    → Tells (Err f) b d b d (work N D bytes ends erased ws)
unfolding work after told refused
refused_tells bytes ends erased ws N D {f} b d r =
    let z : zeroing (number_of f) ≡ false = accepted_leaves (names_of bytes ends) ws erased r in
    rw r (record { is = refl; leaves = (rw z refl, rw z refl) })

-- ---- the run

-- what holds a good state holds no other
held_good : (ns : List ℕ) (n : ℕ) {N D N' D' : ℕ} {s : Counts} {b d : List ℕ} (st st' : State) → Held N D st s b d → Held N' D' st' s b d → Good ns n st → Good ns n st'
held_good ns n (running rows notes) (running rows' notes') H K g = subst (GoodRows ns n) (keeps_same H.inside.1 K.inside.1) g
held_good ns n (running rows notes) (stopped k) H K g = absurd (omega (arith, H.inside.0, K.inside.0, K.inside.1))
held_good ns n (stopped k) (running rows notes) H K g = absurd (omega (arith, H.inside.0, H.inside.1, K.inside.0))
held_good ns n (stopped k) (stopped k') H K g = subst (λ (x : ℕ). zeroing x ≡ true) (sym H.inside.0 ∙ K.inside.0) g

-- begun, collected and finished: the buffers hold what the run left
pub run_tabled : {bytes ends erased ws ns : List ℕ} {next : ℕ} {s t r : Counts} {b d b₁ d₁ b₂ d₂ b' d' : List ℕ} → Passed bytes ends erased ws ns → Held (length b) (length d) (running [] []) s b₁ d₁
    → Collects ws ns bytes ends erased 0 0 next s t b₁ d₁ b₂ d₂ → ((N D : ℕ) (st : State) → Held N D st t b₂ d₂ → Left N D st r b' d') → Tabled bytes ends erased ws ns r b d b' d'
unfolding collected
run_tabled {bytes} {ends} {erased} {ws} {ns} {b = b} {d} P H C L = record {
  left = λ p e. whole H (C.does p (length ws) (passed_whole P p e).stands).1 L;
  good = λ p e. held_good ns (length ends) C.kept.state (collected (given (some (length b)) (some (length d)) bytes ends erased) p) C.kept.held ((C.does p (length ws) (passed_whole P p e).stands).1.after (length b) (length d) (running [] []) H) C.kept.good;
}

-- ---- its end

module _ (ns : List ℕ) (n : ℕ) (b d b' d' : List ℕ) (r : Counts) where
  stopping : (st : State) → Left (length b) (length d) st r b' d' → Good ns n st → (r.stop ≡ 0 → ⊥) → zeroing r.stop ≡ true
  unfolding counts_of
  stopping (running rows notes) L g h = absurd (h (ap (λ (c : Counts). c.stop) L.answer))
  stopping (stopped k) L g h = ap (λ (c : Counts). zeroing c.stop) L.answer ∙ g

  stop_tells : (st : State) → Left (length b) (length d) st r b' d' → Good ns n st → (r.stop ≡ 0 → ⊥) → {f : Refusal} → Numbered r.stop f → Tells (Err f) b d b' d' (buffers_of (length b) (length d) st)
  unfolding counts_of rows_left notes_left buffers_of told refused
  stop_tells (running rows notes) L g h F = absurd (h (ap (λ (c : Counts). c.stop) L.answer))
  stop_tells (stopped k) L g h {f} F =
      let k_is : number_of f ≡ k = F.number ∙ ap (λ (c : Counts). c.stop) L.answer in
      record { is = rw (k_is, F.place) refl; leaves = (rw g L.rows, rw g L.notes) }

  done_tells : (st : State) → Left (length b) (length d) st r b' d' → Good ns n st → r.stop ≡ 0 → Tells (Ok (record { rows = r.rows; notes = r.notes })) b d b' d' (buffers_of (length b) (length d) st)
  unfolding counts_of rows_left notes_left buffers_of told
  done_tells (running rows notes) L g h = record { is = rw (L.answer, L.rows, L.notes) refl; leaves = tt }
  done_tells (stopped k) L g h = absurd (stops_some g (sym (ap (λ (c : Counts). c.stop) L.answer) ∙ h))

module _ {bytes ends erased ws ns : List ℕ} {r : Counts} {b d b' d' : List ℕ} (P : Passed bytes ends erased ws ns) (T : Tabled bytes ends erased ws ns r b d b' d') where
  -- a run that stopped did so with a number that leaves zeros
  pub run_stops : (r.stop ≡ 0 → ⊥) → zeroing r.stop ≡ true
  run_stops h = stopping ns (length ends) b d b' d' r _ (T.left P.program P.accepted) (T.good P.program P.accepted) h

  work_is : work (length b) (length d) bytes ends erased ws ≡ buffers_of (length b) (length d) (collected (given (some (length b)) (some (length d)) bytes ends erased) P.program)
  unfolding work after
  work_is = rw P.accepted refl

  -- its number is told
  pub run_refused : (r.stop ≡ 0 → ⊥) → {f : Refusal} → Numbered r.stop f → Tells (Err f) b d b' d' (work (length b) (length d) bytes ends erased ws)
  run_refused h {f} F = subst (Tells (Err f) b d b' d') (sym work_is) (stop_tells ns (length ends) b d b' d' r _ (T.left P.program P.accepted) (T.good P.program P.accepted) h F)

  -- one that went through tells its counts
  pub run_done : r.stop ≡ 0 → Tells (Ok (record { rows = r.rows; notes = r.notes })) b d b' d' (work (length b) (length d) bytes ends erased ws)
  run_done h = subst (Tells (Ok (record { rows = r.rows; notes = r.notes })) b d b' d') (sym work_is) (done_tells ns (length ends) b d b' d' r _ (T.left P.program P.accepted) (T.good P.program P.accepted) h)

-- ---- 5 and 1 leave the buffers

-- what stops before the work is 5 or 1
leaves_first : (b d : List ℕ) (at : ℕ) (s t : Bool) (n p : ℕ) → ◌≡◌ {A = Told (Unit {0})} (stops n p) (unless s 5 0 (unless t 1 at (gives tt))) → Leaves (stops n p) b d b d
unfolding unless zeroing
leaves_first b d at true true n p e = let z : ◌≡◌ {A = ℕ} 0 1 = cc in absurd (omega arith)
leaves_first b d at true false n p e = let z : n ≡ 1 = cc in rw z (refl, refl)
leaves_first b d at false t n p e = let z : n ≡ 5 = cc in rw z (refl, refl)

-- so a refusal of the beginning does
pub leaves_begun : (sized : Bool) (bytes ends : List ℕ) {v : Result Sound Refusal} {r : Refusal} (b d : List ℕ) → Begun sized bytes ends v → v ≡ Err r → Leaves (told b d (Err r)) b d b d
unfolding Begun entry_of refused told
leaves_begun sized bytes ends {r = r} b d B e =
    let a : Answers sized bytes ends (refused {A = Unit {0}} r) (gives tt) = rw e at B in
    leaves_first b d a.at sized (sound bytes ends) _ _ a.is

-- what is told is left so
pub leaves_told : {r : Result Sizes Refusal} {b d b' d' : List ℕ} {u : Told Buffers} → Tells r b d b' d' u → Leaves (told b' d' r) b d b' d'
leaves_told {r} {b} {d} {b'} {d'} T = subst (λ (u : Told Buffers). Leaves u b d b' d') (sym T.is) T.leaves
