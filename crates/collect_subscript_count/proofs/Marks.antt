-- The algebra of marks: uses noted one after another are the first of them, noted once. Assumes nothing.
use Prim.Native.Nat.{ℕ, ◌<◌, ◌≤◌}
use native.Mathlib.Omega.{arith}
use mathlib.Core.Path.{◌≡◌, refl, sym, ap, subst, ◌∙◌}
use mathlib.Core.Bool.{Bool, true, false, false≢true}
use mathlib.Core.Option.{Option, none as nothing, some}
use lib.Dec.{ltb}
use borrow.Author.Tests.{lt-ltb, le-ltb, ltb-true, ltb-false}
use Rattle.base_words.specs.Word.{pick}
use Rattle.collect_subscript_count.specs.Subscripts.{or_else}
use Rattle.collect_subscript_count.specs.Notes.{Mark, free, taken, noted, used, Noted}

-- a use at j changes nothing where one at k, which is not after j, was noted
pub noted_later : {k j : ℕ} → k ≤ j → (c : ℕ) (o : Option ℕ) (m : Mark) → noted j o (noted k (some c) m) ≡ noted k (some c) m
unfolding noted
noted_later {k} {j} h c nothing m = refl
noted_later {k} {j} h c (some d) free = rw (le-ltb j k h) refl
noted_later {k} {j} h c (some d) (taken p e) = go (ltb k p) refl
  where
    go : (b : Bool) → ltb k p ≡ b → noted j (some d) (pick (ltb k p) (taken k c) (taken p e)) ≡ pick (ltb k p) (taken k c) (taken p e)
    go true q = rw (q, le-ltb j k h) refl
    go false q = rw (q, le-ltb j p (omega (arith, h, ltb-false k p q))) refl

-- a use at k makes one that was noted after it count for nothing
pub noted_earlier : {k j : ℕ} → k < j → (c : ℕ) (o : Option ℕ) (m : Mark) → noted k (some c) (noted j o m) ≡ noted k (some c) m
unfolding noted
noted_earlier {k} {j} h c nothing m = refl
noted_earlier {k} {j} h c (some d) free = rw (lt-ltb k j h) refl
noted_earlier {k} {j} h c (some d) (taken p e) = go (ltb j p) refl
  where
    go : (b : Bool) → ltb j p ≡ b → noted k (some c) (pick (ltb j p) (taken j d) (taken p e)) ≡ pick (ltb k p) (taken k c) (taken p e)
    go true q = rw (q, lt-ltb k j h, lt-ltb k p (omega (arith, h, ltb-true j p q))) refl
    go false q = rw q refl

-- two uses at one place: the first counts
pub noted_same : (k : ℕ) (a b : Option ℕ) (m : Mark) → noted k b (noted k a m) ≡ noted k (or_else a b) m
unfolding noted or_else
noted_same k nothing b m = refl
noted_same k (some c) b m = noted_later (omega arith) c b m

-- a use at k and one after it may be noted in either order
pub noted_swap : {k j : ℕ} → k < j → (a b : Option ℕ) (m : Mark) → noted k a (noted j b m) ≡ noted j b (noted k a m)
unfolding noted
noted_swap h nothing b m = refl
noted_swap h (some c) b m = noted_earlier h c b m ∙ sym (noted_later (omega (arith, h)) c b m)

-- nothing noted
pub noted_none : (k : ℕ) (m : Mark) → noted k nothing m ≡ m
unfolding noted
noted_none k m = refl

-- ---- uses at places between bounds

-- a use noted at a place between the bounds
pub noted_at : {lo hi : ℕ} (k : ℕ) (o : Option ℕ) {before after : Mark} → lo ≤ k → k < hi → after ≡ noted k o before → Noted lo hi o before after
noted_at k o a b q = record { place = k; within = λ c e. (a, b); is = q }

-- the same use, its count told otherwise
pub noted_as : {lo hi : ℕ} {o o' : Option ℕ} {before after : Mark} → o ≡ o' → Noted lo hi o before after → Noted lo hi o' before after
noted_as {lo} {hi} {before = before} {after} q p = subst (λ (u : Option ℕ). Noted lo hi u before after) q p

is_some_lem : Option ℕ → Bool
is_some_lem nothing = false
is_some_lem (some c) = true

-- no use
pub noted_not : (lo hi : ℕ) (m : Mark) → Noted lo hi nothing m m
unfolding noted is_some_lem
noted_not lo hi m = record { place = 0; within = λ c e. absurd (false≢true (ap is_some_lem e)); is = refl }

-- wider bounds
pub noted_wide : {lo hi lo' hi' : ℕ} {o : Option ℕ} {before after : Mark} → lo' ≤ lo → hi ≤ hi' → Noted lo hi o before after → Noted lo' hi' o before after
noted_wide a b q = record { place = q.place; within = λ c e. let w = q.within c e in (omega (arith, a, w.0), omega (arith, b, w.1)); is = q.is }

-- what stands from lo to mid and then what stands from there to hi: the first use of both
pub noted_join : {lo mid hi : ℕ} {a b : Option ℕ} {m₀ m₁ m₂ : Mark} → lo ≤ mid → mid ≤ hi → Noted lo mid a m₀ m₁ → Noted mid hi b m₁ m₂ → Noted lo hi (or_else a b) m₀ m₂
unfolding or_else noted
noted_join {lo} {mid} {hi} {a} {b} {m₀} {m₁} {m₂} h g p q = go a b p.within p.is q.within q.is
  where
    go : (a b : Option ℕ) → ((c : ℕ) → a ≡ some c → (lo ≤ p.place) × (p.place < mid)) → m₁ ≡ noted p.place a m₀ → ((c : ℕ) → b ≡ some c → (mid ≤ q.place) × (q.place < hi)) → m₂ ≡ noted q.place b m₁ → Noted lo hi (or_else a b) m₀ m₂
    go nothing b u e v f = record { place = q.place; within = λ c y. let w = v c y in (omega (arith, h, w.0), w.1); is = f ∙ ap (noted q.place b) e }
    go (some c) nothing u e v f = record { place = p.place; within = λ d y. let w = u c refl in (w.0, omega (arith, g, w.1)); is = f ∙ e }
    go (some c) (some d) u e v f = record { place = p.place; within = λ d' y. let w = u c refl in (w.0, omega (arith, g, w.1)); is = f ∙ ap (noted q.place (some d)) e ∙ noted_later (omega (arith, u c refl, v d refl)) c (some d) m₀ }

-- a use at k, which is before lo, noted after a use between the bounds, might have been noted before it
pub noted_under : {k lo hi : ℕ} {b : Option ℕ} {m₀ m₁ : Mark} (o : Option ℕ) → k < lo → Noted lo hi b m₀ m₁ → Noted lo hi b (noted k o m₀) (noted k o m₁)
unfolding noted
noted_under {k} {lo} {hi} {b} {m₀} {m₁} o h p = go b p.within p.is
  where
    go : (b : Option ℕ) → ((c : ℕ) → b ≡ some c → (lo ≤ p.place) × (p.place < hi)) → m₁ ≡ noted p.place b m₀ → Noted lo hi b (noted k o m₀) (noted k o m₁)
    go nothing w e = record { place = p.place; within = w; is = ap (noted k o) e }
    go (some c) w e = record { place = p.place; within = w; is = ap (noted k o) e ∙ noted_swap (omega (arith, h, w c refl)) o (some c) m₀ }

-- a use at k and then a use between bounds after it: the first of both
pub noted_both : {k lo hi : ℕ} {b : Option ℕ} {m₀ m₁ : Mark} (o : Option ℕ) → k < lo → lo ≤ hi → Noted lo hi b (noted k o m₀) m₁ → Noted k hi (or_else o b) m₀ m₁
unfolding noted
noted_both {k} {lo} {hi} {b} {m₀} o h g p = noted_join {mid = lo} (omega (arith, h)) g (noted_at k o (omega arith) h refl) p

-- a mark that was free says the use
pub used_noted : {lo hi : ℕ} {o : Option ℕ} {m : Mark} → Noted lo hi o free m → used m ≡ o
unfolding noted used
used_noted {o = o} {m} p = go o p.is
  where
    go : (o : Option ℕ) → m ≡ noted p.place o free → used m ≡ o
    go nothing e = ap used e
    go (some c) e = ap used e
