-- What stands in the way of a program: exactly 5, 1, 2, 3, 4 and 9; and what the lent buffers have to do with it: once they are long enough nothing,
-- and whatever their lengths are only 7 and 8, which longer ones may avoid but never change anything else. Assumes nothing.
use Rattle.std.specs.Prelude.{ℕ, ◌≤◌, ◌≡◌, ◌⊎◌, Bool, true, false, List, eqb, length}
use Rattle.std.proofs.Math.Path.{refl, ap}
use Rattle.std.proofs.Common.{◌∙◌, inl, inr, arith}
use Rattle.std.proofs.Math.Option.{none, some}
use Rattle.tree_stmt.specs.Tree.{Program}
use Rattle.base_words.specs.Word.{pick}
use Rattle.base_words.specs.Told.{Told, stops, gives, after, unless}
use Rattle.base_strings.specs.Table.{sound, string_at, names_of}
use Rattle.base_strings.specs.Open.{entry_of}
use Rattle.tree_expr.specs.Got.{Got, got, wrong, deep}
use Rattle.tree_stmt.specs.Reader.{program_at}
use Rattle.entry_read.specs.Sized.{sized_program}
use Rattle.entry_read.specs.Program.{whole_of, erased_from, program_of, accepted_of}
use Rattle.collect_buffers.specs.State.{State}
use Rattle.collect_definition.specs.Collect.{given, analysed}
use Rattle.law_equivalence.specs.Rooms.{Free, runs, nine, Full, seven, eight, Meets, full, longer}
use Rattle.law_equivalence.specs.CollectRooms.{analysed_meets}
use Rattle.law_equivalence.specs.Analysis.{Analysis, result_of, analysis, Accepted}
use Rattle.law_equivalence.specs.AnalysisLaws.{known, accepts}

-- ---- the numbers

-- the six numbers
pub data Hinders : ℕ → Type 0 where
  size : Hinders 5
  strings : Hinders 1
  word : Hinders 2
  depth : Hinders 3
  erased : Hinders 4
  type_words_lem : Hinders 9

-- if it is refused, then with one of these
unfoldable pub Only : {A : Type 0} → Told A → Type 0
Only (gives a) = Unit {0}
Only (stops n p) = Hinders n

only_unless : {A : Type 0} (b : Bool) (n p : ℕ) (t : Told A) → Hinders n → Only t → Only (unless b n p t)
unfolding unless Only
only_unless true n p t h o = o
only_unless false n p t h o = h

only_after : {A B : Type 0} (t : Told A) (k : A → Told B) → Only t → ((a : A) → Only (k a)) → Only (after t k)
unfolding after Only
only_after (gives a) k o f = f a
only_after (stops n p) k o f = o

only_pick : {A : Type 0} (b : Bool) (t u : Told A) → Only t → Only u → Only (pick b t u)
only_pick true t u o q = o
only_pick false t u o q = q

only_whole : {A : Type 0} (ws : List ℕ) (g : Got A) → Only (whole_of ws g)
unfolding whole_of Only
only_whole ws (got a m) = only_pick (eqb m (length ws)) (gives a) (stops 2 m) tt word
only_whole ws (wrong p) = word
only_whole ws (deep p) = depth

only_result : (p : Program) (s : State) → Free s → Only (result_of p s)
unfolding result_of Only
only_result p _ runs = tt
only_result p _ nine = type_words_lem

-- without limits no other number is given
pub numbers : (at : ℕ) (bytes ends names words : List ℕ) → Only (analysis none none at bytes ends names words)
unfolding analysis entry_of accepted_of program_of Only
numbers at bytes ends names words =
    let ns = names_of bytes ends in
    only_unless (sized_program bytes ends words names) 5 0 _ size (
    only_unless (sound bytes ends) 1 at _ strings (
    only_after (accepted_of ns words names) _
    (only_after (program_of ns words) _ (only_whole words (program_at words ns (length ns))) (λ p. only_unless (erased_from ns 0 names) 4 0 (gives p) erased tt))
    (λ p. only_result p (analysed (given none none bytes ends names) p) (analysed_meets (λ n. string_at bytes ends n) names p).free)))

-- ---- the lent buffers

-- the same, or a buffer was too short
pub data Within (t : Told Analysis) : Told Analysis → Type 0 where
  same : Within t t
  rows_full : Within t (stops 7 0)
  notes_full : Within t (stops 8 0)

within_unless : (b : Bool) (n p : ℕ) {t u : Told Analysis} → Within t u → Within (unless b n p t) (unless b n p u)
unfolding unless
within_unless true n p w = w
within_unless false n p w = same

module _ (bytes ends names words : List ℕ) where
  -- collecting and resolving a program, under buffers of r and d words and without limits
  abbrev lent : ℕ → ℕ → Program → Told Analysis
  lent r d p = result_of p (analysed (given (some r) (some d) bytes ends names) p)

  abbrev free : Program → Told Analysis
  free p = result_of p (analysed (given none none bytes ends names) p)

  meets : (p : Program) → Meets (λ r d. analysed (given (some r) (some d) bytes ends names) p) (analysed (given none none bytes ends names) p)
  meets p = analysed_meets (λ n. string_at bytes ends n) names p

  record Enough (t : Told Program) : Type 0 where
    enough : ℕ
    long : (r d : ℕ) → enough ≤ r → enough ≤ d → after t (lent r d) ≡ after t free

  enough_for : (t : Told Program) → Enough t
  unfolding after
  enough_for (stops n p) = record { enough = 0; long = λ r d h i. refl }
  enough_for (gives p) = record { enough = (meets p).enough; long = λ r d h i. ap (result_of p) ((meets p).long r d h i) }

  -- buffers that are long enough are as good as any
  pub long_enough : (n : ℕ) × ((r d at : ℕ) → n ≤ r → n ≤ d → analysis (some r) (some d) at bytes ends names words ≡ analysis none none at bytes ends names words)
  unfolding analysis entry_of
  long_enough =
      let e = enough_for (accepted_of (names_of bytes ends) words names) in
      (e.enough, λ r d at h i. ap (λ (t : Told Analysis). unless (sized_program bytes ends words names) 5 0 (unless (sound bytes ends) 1 at t)) (e.long r d h i))

  within_result : (p : Program) (t s : State) → (s ≡ t) ⊎ Full s → Within (result_of p t) (result_of p s)
  unfolding result_of
  within_result p t s (inl e) = rw e same
  within_result p t _ (inr seven) = rows_full
  within_result p t _ (inr eight) = notes_full

  within_after : (r d : ℕ) (t : Told Program) → Within (after t free) (after t (lent r d))
  unfolding after
  within_after r d (stops n p) = same
  within_after r d (gives p) = within_result p (analysed (given none none bytes ends names) p) (analysed (given (some r) (some d) bytes ends names) p) (full (meets p) r d)

  -- buffers of any lengths: the same, or 7, or 8
  pub limits : (r d at : ℕ) → Within (analysis none none at bytes ends names words) (analysis (some r) (some d) at bytes ends names words)
  unfolding analysis entry_of
  limits r d at = within_unless (sized_program bytes ends words names) 5 0 (within_unless (sound bytes ends) 1 at (within_after r d (accepted_of (names_of bytes ends) words names)))

  within_longer : (r d R D : ℕ) → r ≤ R → d ≤ D → (t : Told Program) → Within (after t (lent R D)) (after t (lent r d))
  unfolding after
  within_longer r d R D h i (stops n p) = same
  within_longer r d R D h i (gives p) =
      within_result p (analysed (given (some R) (some D) bytes ends names) p) (analysed (given (some r) (some d) bytes ends names) p) (longer (meets p) r d R D h i)

  -- buffers of any lengths: the same as with any longer ones, or 7, or 8
  pub longer_limits : (r d R D at : ℕ) → r ≤ R → d ≤ D → Within (analysis (some R) (some D) at bytes ends names words) (analysis (some r) (some d) at bytes ends names words)
  unfolding analysis entry_of
  longer_limits r d R D at h i =
      within_unless (sized_program bytes ends words names) 5 0 (within_unless (sound bytes ends) 1 at (within_longer r d R D h i (accepted_of (names_of bytes ends) words names)))

  within_gives : {t u : Told Analysis} {a : Analysis} → Within t u → u ≡ gives a → t ≡ gives a
  within_gives same e = e
  within_gives rows_full e = let z : ◌≡◌ {A = ℕ} 0 1 = cc in absurd (omega arith)
  within_gives notes_full e = let z : ◌≡◌ {A = ℕ} 0 1 = cc in absurd (omega arith)

  -- so a program is accepted where, with some buffers, it is given no number; and then that is what it is given
  pub accepted : (r d at : ℕ) (a : Analysis) → analysis (some r) (some d) at bytes ends names words ≡ gives a → Accepted bytes ends names words a
  accepted r d at a e = accepts none none 0 bytes ends names words a (known none none at bytes ends names words a (within_gives (limits r d at) e))

  -- and it is given that once they are long enough
  pub given_then : (a : Analysis) → Accepted bytes ends names words a → (n : ℕ) × ((r d at : ℕ) → n ≤ r → n ≤ d → analysis (some r) (some d) at bytes ends names words ≡ gives a)
  given_then a h =
      (long_enough.0, λ r d at i j. long_enough.1 r d at i j ∙ accepts none none at bytes ends names words a (known none none 0 bytes ends names words a h))
