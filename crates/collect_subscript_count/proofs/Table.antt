-- The table of the notes: the two words of a name are its mark, and writing them leaves the other names' marks. Assumes nothing.
use Prim.Native.Nat.{ℕ, zero, suc, ◌+◌, ◌-◌, ◌*◌, ◌%◌, ◌<◌, ◌≤◌}
use native.Mathlib.Omega.{arith}
use native.Mathlib.Nat.{mod-eq_of_lt}
use native.Mathlib.Numerals.{add-one}
use mathlib.Core.Path.{◌≡◌, refl, sym, ap, ap₂, subst, ◌∙◌}
use mathlib.Core.Logic.{◌⊎◌, inl, inr}
use mathlib.Core.Bool.{Bool, true, false, false≢true}
use mathlib.Core.List.{List}
use mathlib.Core.Option.{none as nothing, some}
use Rattle.std.specs.Prelude.{Some, None}
use lib.Dec.{leb, ltb, eqb}
use lib.ListN.{length, get_or, set, length-set}
use lib.Seq.{get_or-set_same, get_or-set_other}
use borrow.Author.Tests.{lt-ltb, le-ltb, le-leb, lt-leb, leb-true, ltb-true, eqb-true, eqb-false}
use Rattle.base_words.specs.Word.{pick}
use Rattle.collect_subscript_count.specs.Notes.{taken, noted, used, mark_of, room, mark_at}
use Rattle.collect_subscript_count.specs.Code.{use_of, Marks}

-- ---- a mark's two words

-- one at k or before stays
mark_kept : (p c k n : ℕ) → (c ≡ 0 → ⊥) → p ≤ k → mark_of p c ≡ noted k (some n) (mark_of p c)
unfolding mark_of noted
mark_kept p zero k n z h = absurd (z refl)
mark_kept p (suc c) k n z h = rw (le-ltb k p h) refl

mark_is : (k n : ℕ) → n < 4294967296 → mark_of k (n + 1) ≡ taken k n
unfolding mark_of
mark_is k n h = rw add-one (ap (taken k) (mod-eq_of_lt h))

-- where there is none, or one after k, the new one is noted
mark_new : (p c k n : ℕ) → (c ≡ 0) ⊎ (k < p) → n < 4294967296 → mark_of k (n + 1) ≡ noted k (some n) (mark_of p c)
unfolding mark_of noted
mark_new p zero k n o h = mark_is k n h
mark_new p (suc c) k n (inl e) h = absurd (omega arith)
mark_new p (suc c) k n (inr l) h = mark_is k n h ∙ (rw (lt-ltb k p l) refl)

-- the use that they say
use_under : (p c : ℕ) → (c ≡ 0 → ⊥) → use_of (Some ((c - 1) % 4294967296)) ≡ used (mark_of p c)
unfolding use_of used mark_of
use_under p zero z = absurd (z refl)
use_under p (suc c) z = let e : suc c - 1 ≡ c = omega arith in rw e refl

-- ---- where there is room

record Room (base : ℕ) (t : List ℕ) (x : ℕ) : Type 0 where
  from : base ≤ x
  inside : 2 * (x - base) + 1 < length t

room_is : (base : ℕ) (t : List ℕ) (x : ℕ) → room base t x ≡ true → Room base t x
unfolding room
room_is base t x h = go (leb base x) (ltb (2 * (x - base) + 1) (length t)) refl refl h
  where
    go : (a b : Bool) → leb base x ≡ a → ltb (2 * (x - base) + 1) (length t) ≡ b → room base t x ≡ true → Room base t x
    go true true p q h = record { from = leb-true base x p; inside = ltb-true (2 * (x - base) + 1) (length t) q }
    go true false p q h = absurd (false≢true (sym (rw (p, q) refl) ∙ h))
    go false b p q h = absurd (false≢true (sym (rw p refl) ∙ h))

module _ (base : ℕ) (t : List ℕ) (x : ℕ) where
  -- a name with room is not before the first one
  pub room_from : room base t x ≡ true → base ≤ x
  room_from h = (room_is base t x h).from

  -- and both its words are in the table
  pub room_inside : room base t x ≡ true → 2 * (x - base) + 1 < length t
  room_inside h = (room_is base t x h).inside

  room_low : x < base → room base t x ≡ false
  unfolding room
  room_low h = rw (lt-leb base x h) refl

  room_short : base ≤ x → length t ≤ 2 * (x - base) + 1 → room base t x ≡ false
  unfolding room
  room_short h g = rw (le-leb base x h, le-ltb (2 * (x - base) + 1) (length t) g) refl

  -- a name whose two words are in the table has room
  pub room_there : base ≤ x → 2 * (x - base) + 1 < length t → room base t x ≡ true
  unfolding room
  room_there h g = rw (le-leb base x h, lt-ltb (2 * (x - base) + 1) (length t) g) refl

  mark_there : room base t x ≡ true → mark_at base t x ≡ mark_of (get_or t (2 * (x - base)) 0) (get_or t (2 * (x - base) + 1) 0)
  unfolding mark_at
  mark_there h = rw h refl

  mark_none : room base t x ≡ false → mark_at base t x ≡ taken 0 0
  unfolding mark_at
  mark_none h = rw h refl

  -- no use is noted where the second word is 0
  pub use_none : room base t x ≡ true → get_or t (2 * (x - base) + 1) 0 ≡ 0 → use_of None ≡ used (mark_at base t x)
  unfolding use_of used mark_of
  use_none h z = sym (ap used (mark_there h ∙ ap (mark_of (get_or t (2 * (x - base)) 0)) z))

  -- else it is one more than the count
  pub use_some : room base t x ≡ true → (get_or t (2 * (x - base) + 1) 0 ≡ 0 → ⊥) → use_of (Some ((get_or t (2 * (x - base) + 1) 0 - 1) % 4294967296)) ≡ used (mark_at base t x)
  use_some h z = use_under (get_or t (2 * (x - base)) 0) (get_or t (2 * (x - base) + 1) 0) z ∙ sym (ap used (mark_there h))

-- ---- a use of the name f, noted at k

-- the mark of f has it, and those of the others stay
by_name : {before after : Marks} (k f n : ℕ) → after f ≡ noted k (some n) (before f) → ((x : ℕ) → (f ≡ x → ⊥) → after x ≡ before x) → (x : ℕ) → after x ≡ noted k (pick (eqb f x) (some n) nothing) (before x)
unfolding noted
by_name {before} {after} k f n h g x = go (eqb f x) refl
  where
    go : (b : Bool) → eqb f x ≡ b → after x ≡ noted k (pick (eqb f x) (some n) nothing) (before x)
    go true q = rw q (subst (λ (y : ℕ). after y ≡ noted k (some n) (before y)) (eqb-true f x q) h)
    go false q = rw q (g x (eqb-false f x q))

module _ (base : ℕ) (t : List ℕ) (k f n : ℕ) where
  no_room : room base t f ≡ false → (x : ℕ) → mark_at base t x ≡ noted k (pick (eqb f x) (some n) nothing) (mark_at base t x)
  unfolding noted
  no_room h = by_name k f n (let e : mark_at base t f ≡ taken 0 0 = mark_none base t f h in rw (e, le-ltb k 0 (omega arith)) refl) (λ x z. refl)

  -- a name before the first one has no mark to change
  pub note_low : f < base → (x : ℕ) → mark_at base t x ≡ noted k (pick (eqb f x) (some n) nothing) (mark_at base t x)
  note_low h = no_room (room_low base t f h)

  -- nor has one past the table
  pub note_past : base ≤ f → length t ≤ 2 * (f - base) + 1 → (x : ℕ) → mark_at base t x ≡ noted k (pick (eqb f x) (some n) nothing) (mark_at base t x)
  note_past h g = no_room (room_short base t f h g)

  -- a use at k or before stays
  pub note_kept : base ≤ f → 2 * (f - base) + 1 < length t → (get_or t (2 * (f - base) + 1) 0 ≡ 0 → ⊥) → get_or t (2 * (f - base)) 0 ≤ k → (x : ℕ) → mark_at base t x ≡ noted k (pick (eqb f x) (some n) nothing) (mark_at base t x)
  note_kept a b z h =
      let e = mark_there base t f (room_there base t f a b) in
      by_name k f n (e ∙ mark_kept (get_or t (2 * (f - base)) 0) (get_or t (2 * (f - base) + 1) 0) k n z h ∙ ap (noted k (some n)) (sym e)) (λ x z. refl)

  abbrev Written : List ℕ
  Written = set (set t (2 * (f - base)) k) (2 * (f - base) + 1) (n + 1)

  written_length : length Written ≡ length t
  written_length = simp length-set

  written_room : (x : ℕ) → room base Written x ≡ room base t x
  unfolding room
  written_room x = rw written_length refl

  written_other : base ≤ f → (x : ℕ) → (f ≡ x → ⊥) → mark_at base Written x ≡ mark_at base t x
  written_other a x z = go (room base t x) refl
    where
      go : (b : Bool) → room base t x ≡ b → mark_at base Written x ≡ mark_at base t x
      go false q = mark_none base Written x (written_room x ∙ q) ∙ sym (mark_none base t x q)
      go true q =
          let l : base ≤ x = room_from base t x q in
          let s = set t (2 * (f - base)) k in
          let u : get_or Written (2 * (x - base)) 0 ≡ get_or t (2 * (x - base)) 0 = get_or-set_other s (2 * (f - base) + 1) (2 * (x - base)) (n + 1) 0 (λ e. absurd (z (omega arith))) ∙ get_or-set_other t (2 * (f - base)) (2 * (x - base)) k 0 (λ e. absurd (z (omega arith))) in
          let v : get_or Written (2 * (x - base) + 1) 0 ≡ get_or t (2 * (x - base) + 1) 0 = get_or-set_other s (2 * (f - base) + 1) (2 * (x - base) + 1) (n + 1) 0 (λ e. absurd (z (omega arith))) ∙ get_or-set_other t (2 * (f - base)) (2 * (x - base) + 1) k 0 (λ e. absurd (z (omega arith))) in
          mark_there base Written x (written_room x ∙ q) ∙ ap₂ mark_of u v ∙ sym (mark_there base t x q)

  written_same : base ≤ f → 2 * (f - base) + 1 < length t → mark_at base Written f ≡ mark_of k (n + 1)
  written_same a b =
      let s = set t (2 * (f - base)) k in
      let l : length s ≡ length t = length-set t (2 * (f - base)) k in
      let u : get_or Written (2 * (f - base)) 0 ≡ k = get_or-set_other s (2 * (f - base) + 1) (2 * (f - base)) (n + 1) 0 (λ e. omega arith) ∙ get_or-set_same t (2 * (f - base)) k 0 (omega arith) in
      let v : get_or Written (2 * (f - base) + 1) 0 ≡ n + 1 = get_or-set_same s (2 * (f - base) + 1) (n + 1) 0 (omega arith) in
      mark_there base Written f (written_room f ∙ room_there base t f a b) ∙ ap₂ mark_of u v

  -- where there is none, or one after k, its two words are written
  pub note_written : base ≤ f → 2 * (f - base) + 1 < length t → (get_or t (2 * (f - base) + 1) 0 ≡ 0) ⊎ (k < get_or t (2 * (f - base)) 0) → n < 4294967296 → (x : ℕ) → mark_at base (set (set t (2 * (f - base)) k) (2 * (f - base) + 1) (n + 1)) x ≡ noted k (pick (eqb f x) (some n) nothing) (mark_at base t x)
  note_written a b o h =
      let e = mark_there base t f (room_there base t f a b) in
      by_name k f n (written_same a b ∙ mark_new (get_or t (2 * (f - base)) 0) (get_or t (2 * (f - base) + 1) 0) k n o h ∙ ap (noted k (some n)) (sym e)) (written_other a)
