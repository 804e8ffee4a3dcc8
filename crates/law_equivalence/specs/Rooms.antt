-- What the lengths of the lent buffers do to collecting and the collision check: without limits only 9 stops them; with buffers that are long enough
-- they do what they do without limits; and with buffers of any length they do that, and all longer ones too, or they stop with 7 or 8. Assumes nothing.
--
-- The proof goes through the definition of `collect` once: each of its steps, under all rooms at once, keeps these three facts.
use Rattle.std.specs.Prelude.{ℕ, ◌*◌, ◌≤◌, max, ◌≡◌, refl, ◌⊎◌, Bool, true, false, List, [], ◌∷◌, ◌++◌, leb, length}
use Rattle.std.proofs.Common.{sym, ◌∙◌, inl, inr, arith, le-leb, leb-true}
use Rattle.std.proofs.Math.Option.{none, some}
use Rattle.base_words.specs.Word.{pick}
use Rattle.rows_table.specs.Rows.{Row, width, note_width}
use Rattle.collect_buffers.specs.State.{State, running, stopped, Step, when, asking, each, stop, fits, change, push}

-- what a run without limits can end in
pub data Free : State → Type 0 where
  runs : {rows notes : List Row} → Free (running rows notes)
  nine : Free (stopped 9)

-- a buffer was too short
pub data Full : State → Type 0 where
  seven : Full (stopped 7)
  eight : Full (stopped 8)

-- buffers of r and d words, and all longer ones, do what no limits do
abbrev pub From : (S : ℕ → ℕ → State) (t : State) (r d : ℕ) → Type 0
From S t r d = (R D : ℕ) → r ≤ R → d ≤ D → S R D ≡ t

-- S r d is the state under buffers of r and d words, t the state without limits
pub record Meets (S : ℕ → ℕ → State) (t : State) : Type 0 where
  pub free : Free t
  pub enough : ℕ
  pub long : (r d : ℕ) → enough ≤ r → enough ≤ d → S r d ≡ t
  pub wider : (r d : ℕ) → From S t r d ⊎ Full (S r d)

-- a step under all rooms, and without limits
pub record Keeps (F : ℕ → ℕ → Step) (F₀ : Step) : Type 0 where
  pub on : (S : ℕ → ℕ → State) (t : State) → Meets S t → Meets (λ r d. F r d (S r d)) (F₀ t)

module _ {S : ℕ → ℕ → State} {t : State} (m : Meets S t) where
  -- buffers of any length: the same as without limits, or one was too short
  pub full : (r d : ℕ) → (S r d ≡ t) ⊎ Full (S r d)
  full r d = elim (m.wider r d) [ inl w ↦ inl (w r d (omega arith) (omega arith)) | inr f ↦ inr f ]

  -- longer buffers do the same
  pub longer : (r d R D : ℕ) → r ≤ R → d ≤ D → (S r d ≡ S R D) ⊎ Full (S r d)
  longer r d R D h i = elim (m.wider r d) [ inl w ↦ inl (w r d (omega arith) (omega arith) ∙ sym (w R D h i)) | inr f ↦ inr f ]

-- ---- how to show it

-- a running state that is the same whatever the rooms
pub constant : (rows notes : List Row) → Meets (λ r d. running rows notes) (running rows notes)
constant rows notes = record { free = runs; enough = 0; long = λ r d h i. refl; wider = λ r d. inl (λ R D h i. refl) }

-- from running states, where a stopped one stays
module _ (F : ℕ → ℕ → Step) (F₀ : Step) (still : (r d n : ℕ) → F r d (stopped n) ≡ stopped n) (still₀ : (n : ℕ) → F₀ (stopped n) ≡ stopped n) (go : (rows notes : List Row) → Meets (λ r d. F r d (running rows notes)) (F₀ (running rows notes))) where
  stays : (r d : ℕ) (s : State) → Full s → Full (F r d s)
  stays r d _ seven = rw (still r d 7) seven
  stays r d _ eight = rw (still r d 8) eight

  both : (S : ℕ → ℕ → State) (rows notes : List Row) (r d : ℕ) → From S (running rows notes) r d
      → From (λ R D. F R D (running rows notes)) (F₀ (running rows notes)) r d ⊎ Full (F r d (running rows notes))
      → From (λ R D. F R D (S R D)) (F₀ (running rows notes)) r d ⊎ Full (F r d (S r d))
  both S rows notes r d w (inl v) = inl (λ R D h i. rw (w R D h i) (v R D h i))
  both S rows notes r d w (inr f) = inr (rw (w r d (omega arith) (omega arith)) f)

  from_free : (S : ℕ → ℕ → State) (t : State) → Free t → Meets S t → Meets (λ r d. F r d (S r d)) (F₀ t)
  from_free S _ (runs {rows} {notes}) m =
      let g = go rows notes in
      record {
        free = g.free;
        enough = max m.enough g.enough;
        long = λ r d h i. rw (m.long r d (omega arith) (omega arith)) (g.long r d (omega arith) (omega arith));
        wider = λ r d. elim (m.wider r d) [ inl w ↦ both S rows notes r d w (g.wider r d) | inr f ↦ inr (stays r d (S r d) f) ];
      }
  from_free S _ nine m =
      record {
        free = rw (still₀ 9) nine;
        enough = m.enough;
        long = λ r d h i. rw (m.long r d h i, still r d 9, still₀ 9) refl;
        wider = λ r d. elim (m.wider r d) [ inl w ↦ inl (λ R D h i. rw (w R D h i, still R D 9, still₀ 9) refl) | inr f ↦ inr (stays r d (S r d) f) ];
      }

  -- the step keeps the three facts
  pub pointwise : Keeps F F₀
  pointwise = record { on = λ S t m. from_free S t m.free m }

-- ---- the few things that collecting does

-- what needs n words has room in r words, and in all more, or it is stopped
roomed : {S : ℕ → State} {t : State} (n : ℕ) → ((r : ℕ) → n ≤ r → S r ≡ t) → ((r : ℕ) → leb n r ≡ false → Full (S r))
    → (r : ℕ) → ((R : ℕ) → r ≤ R → S R ≡ t) ⊎ Full (S r)
roomed {S} {t} n fit not_fit r = go (leb n r) refl
  where
    go : (b : Bool) → leb n r ≡ b → ((R : ℕ) → r ≤ R → S R ≡ t) ⊎ Full (S r)
    go true q = let h : n ≤ r = leb-true n r q in inl (λ R i. fit R (omega arith))
    go false q = inr (not_fit r q)

-- pushing a diagnostic keeps them
pub push_k : (row : Row) → Keeps (λ r d. push (some d) row) (push none row)
unfolding push fits
push_k row = pointwise (λ r d. push (some d) row) (push none row) (λ r d n. refl) (λ n. refl) go
  where
    go : (rows notes : List Row) → Meets (λ r d. push (some d) row (running rows notes)) (push none row (running rows notes))
    go rows notes =
        let n = length (notes ++ (row ∷ [])) * note_width in
        let fit : (d : ℕ) → n ≤ d → push (some d) row (running rows notes) ≡ push none row (running rows notes) = λ d h. rw (le-leb n d h) refl in
        let full : (d : ℕ) → leb n d ≡ false → Full (push (some d) row (running rows notes)) = λ d q. rw q eight in
        record {
          free = runs;
          enough = n;
          long = λ r d h i. fit d i;
          wider = λ r d. elim (roomed n fit full d) [ inl w ↦ inl (λ R D h i. w D i) | inr f ↦ inr f ];
        }

-- so does changing the rows
pub change_k : (f : List Row → List Row) → Keeps (λ r d. change (some r) f) (change none f)
unfolding change fits
change_k f = pointwise (λ r d. change (some r) f) (change none f) (λ r d n. refl) (λ n. refl) go
  where
    go : (rows notes : List Row) → Meets (λ r d. change (some r) f (running rows notes)) (change none f (running rows notes))
    go rows notes =
        let n = length (f rows) * width in
        let fit : (r : ℕ) → n ≤ r → change (some r) f (running rows notes) ≡ change none f (running rows notes) = λ r h. rw (le-leb n r h) refl in
        let full : (r : ℕ) → leb n r ≡ false → Full (change (some r) f (running rows notes)) = λ r q. rw q seven in
        record {
          free = runs;
          enough = n;
          long = λ r d h i. fit r h;
          wider = λ r d. elim (roomed n fit full r) [ inl w ↦ inl (λ R D h i. w R h) | inr f ↦ inr f ];
        }

-- doing nothing
pub nothing_k : Keeps (λ r d s. s) (λ s. s)
nothing_k = record { on = λ S t m. m }

-- stopping with 9
pub stop_k : Keeps (λ r d. stop 9) (stop 9)
unfolding stop
stop_k = pointwise (λ r d. stop 9) (stop 9) (λ r d n. refl) (λ n. refl) (λ rows notes. record { free = nine; enough = 0; long = λ r d h i. refl; wider = λ r d. inl (λ R D h i. refl) })

module _ {F H : ℕ → ℕ → Step} {F₀ H₀ : Step} (f : Keeps F F₀) (h : Keeps H H₀) where
  -- two steps that keep them, in turn
  pub then_k : Keeps (λ r d s. H r d (F r d s)) (λ s. H₀ (F₀ s))
  then_k = record { on = λ S t m. h.on (λ r d. F r d (S r d)) (F₀ t) (f.on S t m) }

  -- the one of two such steps that a test picks
  pub pick_k : (b : Bool) → Keeps (λ r d. pick b (F r d) (H r d)) (pick b F₀ H₀)
  pick_k true = f
  pick_k false = h

-- such a step under a test
pub when_k : {F : ℕ → ℕ → Step} {F₀ : Step} (b : Bool) → Keeps F F₀ → Keeps (λ r d. when b (F r d)) (when b F₀)
when_k true f = f
when_k false f = nothing_k

-- a step that the rows decide, where each that they may choose keeps them
pub asking_k : {F : ℕ → ℕ → List Row → Step} {F₀ : List Row → Step} → ((rows : List Row) → Keeps (λ r d. F r d rows) (F₀ rows)) → Keeps (λ r d. asking (F r d)) (asking F₀)
unfolding asking
asking_k {F} {F₀} f = pointwise (λ r d. asking (F r d)) (asking F₀) (λ r d n. refl) (λ n. refl) (λ rows notes. (f rows).on (λ r d. running rows notes) (running rows notes) (constant rows notes))

-- such a step for each of a list
pub each_k : {A : Type 0} {F : ℕ → ℕ → A → Step} {F₀ : A → Step} → ((x : A) → Keeps (λ r d. F r d x) (F₀ x)) → (xs : List A) → Keeps (λ r d. each (F r d) xs) (each F₀ xs)
unfolding each
each_k f [] = nothing_k
each_k f (x ∷ xs) = then_k (f x) (each_k f xs)
