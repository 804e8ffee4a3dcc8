-- How steps on the rows alone follow each other. Assumes nothing.
use Rattle.std.specs.Prelude.{ℕ, ◌*◌, ◌≤◌, ◌≡◌, refl, List, [], ◌∷◌, ◌++◌, length}
use Rattle.std.proofs.Common.{◌∙◌, subst}
use Rattle.rows_table.specs.Rows.{Row, width}
use Rattle.rows_runs.specs.Runs.{Keeps}
use Rattle.collect_buffers.specs.State.{State, running, stopped, ◌⨾◌, nothing, asking, each}
use Rattle.collect_buffers.specs.declared.Counts.{Counts}
use Rattle.collect_buffers.specs.Held.{Held, Sized, Rows}
use Rattle.collect_buffers.proofs.Compose.{Stays, each_snoc}

-- to do nothing leaves counts and rows as they are
pub rows_nothing : {s : Counts} {b : List ℕ} → s.rows * width ≤ length b → Rows (λ N D. nothing) s s b b
rows_nothing h = record { fit = h; kept = refl; after = λ d N D st H. H }

-- two steps done, one on the rows that the other left, are done in turn
pub rows_then : {f g : Sized} {s r t : Counts} {b b' b'' : List ℕ} → Rows f s r b b' → Rows g r t b' b'' → Rows (λ N D. f N D ⨾ g N D) s t b b''
rows_then {f} F G = record { fit = G.fit; kept = G.kept ∙ F.kept; after = λ d N D st H. G.after d N D (f N D st) (F.after d N D st H) }

-- a step that gives the same state for each is done where the other is
pub rows_same : {f : Sized} (g : Sized) {s r : Counts} {b b' : List ℕ} → ((N D : ℕ) (st : State) → f N D st ≡ g N D st) → Rows f s r b b' → Rows g s r b b'
rows_same g {s} {r} {b} {b'} e F = record { fit = F.fit; kept = F.kept; after = λ d N D st H. subst (λ (x : State). Held N D x r b' d) (e N D st) (F.after d N D st H) }

-- with a value that the rows decide: the code asked for it before
pub rows_asked : {A : Type 0} (x : A) (f : List Row → A) (g : A → Sized) {s r : Counts} {b b' : List ℕ} → ((a : A) (N D : ℕ) → Stays (g a N D))
    → ((rows : List Row) → Keeps rows s.rows b → x ≡ f rows) → Rows (g x) s r b b' → Rows (λ N D. asking (λ rows. g (f rows) N D)) s r b b'
unfolding asking
rows_asked {A} x f g {s} {r} {b} {b'} stays told F = record { fit = F.fit; kept = F.kept; after = by }
  where
    by : (d : List ℕ) (N D : ℕ) (st : State) → Held N D st s b d → Held N D (asking (λ rows. g (f rows) N D) st) r b' d
    by d N D (running rows notes) H = subst (λ (a : A). Held N D (g a N D (running rows notes)) r b' d) (told rows H.inside.1) (F.after d N D (running rows notes) H)
    by d N D (stopped k) H = subst (λ (st : State). Held N D st r b' d) (stays x N D k) (F.after d N D (stopped k) H)

-- over a list: a loop that has done the first of them does one more
pub rows_each_none : {A : Type 0} (f : A → Sized) {s : Counts} {b : List ℕ} → s.rows * width ≤ length b → Rows (λ N D. each (λ x. f x N D) []) s s b b
unfolding each
rows_each_none f h = rows_nothing h

-- the next element, after those before it
pub rows_each_next : {A : Type 0} (f : A → Sized) (done : List A) (x : A) {s r t : Counts} {b b' b'' : List ℕ}
    → Rows (λ N D. each (λ x. f x N D) done) s r b b' → Rows (f x) r t b' b'' → Rows (λ N D. each (λ x. f x N D) (done ++ (x ∷ []))) s t b b''
rows_each_next f done x F G = rows_same (λ N D. each (λ x. f x N D) (done ++ (x ∷ []))) (λ N D st. each_snoc (λ x. f x N D) done x st) (rows_then F G)
