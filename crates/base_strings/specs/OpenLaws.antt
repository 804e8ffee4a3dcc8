-- An entry's promise from the way it took: a size passed, a table that breaks its rule, or the work behind the checks. Assumes nothing.
use Rattle.std.specs.Prelude.{ℕ, zero, suc, ◌<◌, Bool, true, false, not, ◌&&◌, ◌≡◌, refl, List, length, Result, Ok, Err}
use Rattle.std.proofs.lemmas.Bool.{false≢true}
use Rattle.std.proofs.Common.{⊎_elim, sym, ap, ◌∙◌, arith, eq-or-lt_of_le, eq-eqb, ne_eqb, lt-ltb}
use Rattle.base_words.specs.Told.{Told, stops, unless}
use Rattle.base_strings.specs.Table.{right_at, all_below, sound, breaks_at}
use Rattle.base_strings.specs.Open.{verdict_of, Said, entry_of, Answers}
use Rattle.base_strings.specs.declared.Break.{Break}

verdict_sound : (at : ℕ) (b : Bool) → (Ok tt) ≡ verdict_of at b → b ≡ true
unfolding verdict_of
verdict_sound at true e = refl
verdict_sound at false e = let z : ◌≡◌ {A = ℕ} 0 1 = cc in absurd (omega arith)

verdict_breaks : (at p : ℕ) (b : Bool) → Err (record { string = p }) ≡ verdict_of at b → (b ≡ false) × (p ≡ at)
unfolding verdict_of
verdict_breaks at p true e = let z : ◌≡◌ {A = ℕ} 0 1 = cc in absurd (omega arith)
verdict_breaks at p false e = (refl, let h : ◌≡◌ {A = Break} (record { string = p }) (record { string = at }) = cc in ap (λ (b : Break). b.string) h)

-- where `check` answers Ok, the table is sound
pub said_sound : {bytes ends : List ℕ} {v : Result (Unit {0}) Break} → Said bytes ends v → v ≡ (Ok tt) → sound bytes ends ≡ true
said_sound {bytes} {ends} o e = verdict_sound o.at (sound bytes ends) (sym e ∙ o.is)

-- a number below n of which a test fails
record Fails (n : ℕ) (ok : ℕ → Bool) : Type 0 where
  where' : ℕ
  below : where' < n
  fails : ok where' ≡ false

last_fails : (n : ℕ) (ok : ℕ → Bool) (b : Bool) → (b ≡ false → Fails n ok) → (b && ok n) ≡ false → Fails (suc n) ok
last_fails n ok true f e = record { where' = n; below = omega arith; fails = e }
last_fails n ok false f e = let h = f refl in record { where' = h.where'; below = omega (arith, h.below); fails = h.fails }

some_fails : (n : ℕ) (ok : ℕ → Bool) → all_below n ok ≡ false → Fails n ok
unfolding all_below
some_fails zero ok e = absurd (false≢true (sym e))
some_fails (suc n) ok e = last_fails n ok (all_below n ok) (λ h. some_fails n ok h) e

-- a table that breaks its rule breaks it somewhere
record Broken (bytes ends : List ℕ) : Type 0 where
  place : ℕ
  breaks : sound bytes ends ≡ false → breaks_at bytes ends place ≡ true

without_strings : (bytes ends : List ℕ) → length ends ≡ 0 → Broken bytes ends
unfolding sound breaks_at
without_strings bytes ends e = record { place = 0; breaks = λ h. rw (eq-eqb (length ends) 0 e) (ap not (rw (eq-eqb (length ends) 0 e) at h)) }

with_strings : (bytes ends : List ℕ) → 0 < length ends → (b : Bool) → all_below (length ends) (right_at bytes ends) ≡ b → Broken bytes ends
unfolding sound breaks_at
with_strings bytes ends p true e = record { place = 0; breaks = λ h. absurd (false≢true (sym h ∙ rw (ne_eqb (length ends) 0 (λ q. omega arith)) e)) }
with_strings bytes ends p false e =
    let f = some_fails (length ends) (right_at bytes ends) e in
    record { place = f.where'; breaks = λ h. rw (ne_eqb (length ends) 0 (λ q. omega arith), lt-ltb f.where' (length ends) f.below, f.fails) refl }

somewhere : (bytes ends : List ℕ) → Broken bytes ends
somewhere bytes ends = ⊎_elim (λ h. without_strings bytes ends (sym h)) (λ p. with_strings bytes ends p _ refl) (eq-or-lt_of_le {n = 0} {m = length ends} (omega arith))

module _ {A : Type 0} {bytes ends : List ℕ} {sized : Bool} {t u : Told A} where
  -- a size is passed: the entry keeps its promise with number 5
  pub answers_size : sized ≡ false → t ≡ stops 5 0 → Answers sized bytes ends t u
  unfolding entry_of unless
  answers_size s e = let b = somewhere bytes ends in record { at = b.place; place = b.breaks; is = rw s e }

  -- the table breaks its rule at p: with number 1 and this place
  pub answers_breaks : sized ≡ true → {v : Result (Unit {0}) Break} → Said bytes ends v → {p : ℕ} → v ≡ Err (record { string = p }) → t ≡ stops 1 p → Answers sized bytes ends t u
  unfolding entry_of unless
  answers_breaks s o {p} f e =
      let h = verdict_breaks o.at p (sound bytes ends) (sym f ∙ o.is) in
      record { at = o.at; place = o.place; is = rw (s, h.0, ← h.1) e }

  -- neither is so: with what it tells behind the two checks
  pub answers_inner : sized ≡ true → sound bytes ends ≡ true → t ≡ u → Answers sized bytes ends t u
  unfolding entry_of unless
  answers_inner s o e = record { at = 0; place = λ f. absurd (false≢true (sym f ∙ o)); is = rw (s, o) e }
