-- Laws of order, names and the rule of the table, in the steps that the loops take. Assumes nothing.
use Prim.Native.Nat.{ℕ, zero, suc, ◌+◌, ◌-◌, ◌≤◌, ◌<◌}
use mathlib.Core.Path.{◌≡◌, refl, sym, ap, ◌∙◌}
use mathlib.Core.Bool.{Bool, true, false, ◌&&◌, ◌||◌, and_assoc, false≢true}
use mathlib.Mathlib.Data.Bool.Basic.{and_elim_left, and_elim_right}
use mathlib.Core.Logic.{⊎_elim}
use native.Mathlib.Nat.{eq-or-lt_of_le}
use mathlib.Core.List.{List, [], ◌∷◌, ◌++◌}
use native.Mathlib.Omega.{arith}
use native.Mathlib.Numerals.{add-one}
use lib.ListN.{length, get_or, take, drop, drop_of_length-le, length-append}
use lib.Seq.{drop-cons}
use lib.Dec.{leb, eqb}
use borrow.Author.Tests.{lt-ltb, eq-eqb, ne_eqb, leb-true, eqb-true}
use Rattle.std.specs.List.{list_all}
use Rattle.base_words.specs.Word.{pick}
use Rattle.std.specs.Ordering.{is_lt, nat_cmp}
use Rattle.base_strings.specs.Order.{order}
use Rattle.base_strings.specs.Name.{between, inner, suffix, rest, is_name}
use Rattle.base_strings.specs.Table.{part, start_of, string_at, all_printable, end_right, rises, last_right, right_at, is_plain, all_below, sound, breaks_at, marks_below, names_of}
use Rattle.base_strings.specs.Open.{Said, verdict_of}
use Rattle.std.specs.declared.cmp.Ordering.{Ordering}
use Rattle.std.specs.Cmp.Lexicographic.{slice_cmp}
use Rattle.std.proofs.lemmas.Bool.Decides.{nat_tests}
use Rattle.std.specs.Prelude.{Ok, Err}

-- ---- order

-- it is the library's order of lists
pub order_is : (a b : List ℕ) → slice_cmp nat_cmp a b ≡ order a b
unfolding order
order_is [] [] = refl
order_is [] (y ∷ ys) = refl
order_is (x ∷ xs) [] = refl
order_is (x ∷ xs) (y ∷ ys) = let e = order_is xs ys in grind (arith, nat_tests)

-- ---- names

-- a first test that holds: the second decides
pub and_true : (a b : Bool) → a ≡ true → (a && b) ≡ b
and_true a b e = rw e refl

-- a first test that fails
pub and_false : (a b : Bool) → a ≡ false → (a && b) ≡ false
and_false a b e = rw e refl

-- all but the last are inner bytes, and the last may be a suffix too
pub rest_of : (s : List ℕ) (n : ℕ) → length s ≡ suc n → rest s ≡ (list_all inner (take n s) && (inner (get_or s n 0) || suffix (get_or s n 0)))
unfolding rest
rest_of [] n e = absurd (omega arith)
rest_of (b ∷ []) zero e = refl
rest_of (b ∷ []) (suc n) e = absurd (omega arith)
rest_of (b ∷ (c ∷ bs)) zero e = absurd (omega arith)
rest_of (b ∷ (c ∷ bs)) (suc n) e = ap (λ (t : Bool). inner b && t) (rest_of (c ∷ bs) n (omega arith)) ∙ sym (and_assoc (inner b) _ _)

-- nothing is asked of no bytes
pub rest_none : (s : List ℕ) → length s ≡ 0 → rest s ≡ true
unfolding rest
rest_none [] e = refl
rest_none (b ∷ bs) e = absurd (omega arith)

module _ (s : List ℕ) (i : ℕ) where
  -- a byte is printable, and those after it are
  pub printable_more : i < length s → all_printable (drop i s) ≡ (between 32 126 (get_or s i 0) && all_printable (drop (i + 1) s))
  unfolding all_printable
  printable_more p = rw (add-one i, drop-cons s i 0 p) refl

  -- past the last nothing is asked
  pub printable_none : length s ≤ i → all_printable (drop i s) ≡ true
  unfolding all_printable
  printable_none p = rw (drop_of_length-le s p) refl

-- what is printable is so in each part
printable_drop : (s : List ℕ) (n : ℕ) → all_printable s ≡ true → all_printable (drop n s) ≡ true
unfolding all_printable
printable_drop s zero e = e
printable_drop [] (suc n) e = e
printable_drop (b ∷ bs) (suc n) e = printable_drop bs n (and_elim_right (between 32 126 b) _ e)

printable_take : (s : List ℕ) (n : ℕ) → all_printable s ≡ true → all_printable (take n s) ≡ true
unfolding all_printable
printable_take s zero e = refl
printable_take [] (suc n) e = refl
printable_take (b ∷ bs) (suc n) e =
    and_true (between 32 126 b) (all_printable (take n bs)) (and_elim_left (between 32 126 b) (all_printable bs) e)
    ∙ printable_take bs n (and_elim_right (between 32 126 b) _ e)

-- ---- the table

-- the first string starts at 0
pub start_zero : (ends : List ℕ) (i : ℕ) → i ≡ 0 → start_of ends i ≡ 0
unfolding start_of
start_zero ends zero e = refl
start_zero ends (suc i) e = absurd (omega arith)

-- any other starts at the end before it
pub start_suc : (ends : List ℕ) (i : ℕ) → 0 < i → start_of ends i ≡ get_or ends (i - 1) 0
unfolding start_of
start_suc ends zero p = absurd (omega arith)
start_suc ends (suc i) p = ap (λ (j : ℕ). get_or ends j 0) (omega arith)

-- a string's end is the start of the next
pub start_next : (ends : List ℕ) (i : ℕ) → get_or ends i 0 ≡ start_of ends (i + 1)
unfolding start_of
start_next ends i = rw (add-one i) refl

-- ---- the rule

-- a name by its first byte and those after it; no bytes are none
pub name_of : (s : List ℕ) → 0 < length s → is_name s ≡ (leb (length s) 40 && (between 65 90 (get_or s 0 0) && rest (drop 1 s)))
unfolding is_name
name_of [] p = absurd (omega arith)
name_of (b ∷ bs) p = refl

pub name_empty : (s : List ℕ) → length s ≡ 0 → is_name s ≡ false
unfolding is_name
name_empty [] e = refl
name_empty (b ∷ bs) e = absurd (omega arith)

-- a test that holds of all below n holds of each
pub all_at : (n : ℕ) (ok : ℕ → Bool) (i : ℕ) → all_below n ok ≡ true → i < n → ok i ≡ true
unfolding all_below
all_at zero ok i e p = absurd (omega arith)
all_at (suc n) ok i e p =
    ⊎_elim (λ (h : i ≡ n). rw h (and_elim_right (all_below n ok) _ e)) (λ (l : i < n). all_at n ok i (and_elim_left _ _ e) l)
    (eq-or-lt_of_le {n = i} {m = n} (omega arith))

-- and of all below n + 1, if it holds of n
pub all_more : (n : ℕ) (ok : ℕ → Bool) → all_below n ok ≡ true → ok n ≡ true → all_below (n + 1) ok ≡ true
unfolding all_below
all_more n ok e h = rw (add-one n) (and_true _ _ e ∙ h)

-- one number below n of which it fails
pub all_not : (n : ℕ) (ok : ℕ → Bool) (i : ℕ) → i < n → ok i ≡ false → all_below n ok ≡ false
all_not n ok i p h = none (all_below n ok) (λ e. all_at n ok i e p)
  where
    none : (b : Bool) → (b ≡ true → ok i ≡ true) → b ≡ false
    none false f = refl
    none true f = let z : false ≡ true = sym h ∙ f refl in absurd (false≢true z)

module _ (bytes ends : List ℕ) where
  -- the first string is above none
  pub rises_first : (i : ℕ) → i ≡ 0 → rises bytes ends i ≡ true
  unfolding rises
  rises_first zero e = refl
  rises_first (suc i) e = absurd (omega arith)

  -- any other: by its order with the one before it
  pub rises_is : (i b a e : ℕ) → 0 < i → b ≡ start_of ends (i - 1) → a ≡ start_of ends i → e ≡ get_or ends i 0 → {o : Ordering} → o ≡ order (part b a bytes) (part a e bytes) → rises bytes ends i ≡ is_lt o
  unfolding rises string_at start_of
  rises_is zero b a e p x y z q = absurd (omega arith)
  rises_is (suc i) b a e p x y z q =
      let n : suc i - 1 ≡ i = omega arith in
      let x' : b ≡ start_of ends i = x ∙ ap (start_of ends) n in
      rw (q, x', y, z) refl

  -- what a right string says of its ends
  pub ends_in : (i : ℕ) → right_at bytes ends i ≡ true → (start_of ends i ≤ get_or ends i 0) × (get_or ends i 0 ≤ length bytes)
  unfolding right_at end_right
  ends_in i e =
      let h = and_elim_left (end_right bytes ends i) _ e in
      (leb-true (start_of ends i) (get_or ends i 0) (and_elim_left _ _ h), leb-true (get_or ends i 0) (length bytes) (and_elim_right (leb (start_of ends i) (get_or ends i 0)) _ h))

  -- among right strings each starts at the start of the one before it, or after
  pub starts_rise : (i : ℕ) → all_below i (right_at bytes ends) ≡ true → start_of ends (i - 1) ≤ start_of ends i
  starts_rise i e =
      ⊎_elim (λ (h : 0 ≡ i). let n : i - 1 ≡ i = omega arith in omega (arith, ap (start_of ends) n))
      (λ (p : 0 < i). rw (start_suc ends i p) (ends_in (i - 1) (all_at i (right_at bytes ends) (i - 1) e (omega arith))).0)
      (eq-or-lt_of_le {n = 0} {m = i} (omega arith))

  -- ends, bytes, order and the last end, by where the string begins and ends
  pub right_of : (i a e : ℕ) → a ≡ start_of ends i → e ≡ get_or ends i 0 → right_at bytes ends i ≡ ((leb a e && leb e (length bytes)) && (all_printable (part a e bytes) && (rises bytes ends i && last_right bytes ends i)))
  unfolding right_at end_right string_at
  right_of i a e x y = rw (x, y) refl

  -- of a plain table the bytes and the last end are right
  pub plain_part : is_plain bytes ends ≡ true → (a e : ℕ) → all_printable (part a e bytes) ≡ true
  unfolding is_plain
  plain_part p a e = printable_take (drop a bytes) (e - a) (printable_drop bytes a (and_elim_right (eqb (start_of ends (length ends)) (length bytes)) _ p))

  pub plain_last : is_plain bytes ends ≡ true → (i : ℕ) → last_right bytes ends i ≡ true
  unfolding is_plain last_right
  plain_last p i = go (eqb (i + 1) (length ends)) refl
    where
      go : (t : Bool) → eqb (i + 1) (length ends) ≡ t → pick t (eqb (get_or ends i 0) (length bytes)) true ≡ true
      go true q =
          let s : get_or ends i 0 ≡ start_of ends (length ends) = start_next ends i ∙ ap (start_of ends) (eqb-true (i + 1) (length ends) q) in
          rw s (and_elim_left _ _ p)
      go false q = refl

  -- strings that are all right are sound
  pub sound_all : 0 < length ends → all_below (length ends) (right_at bytes ends) ≡ true → sound bytes ends ≡ true
  unfolding sound
  sound_all p e = rw (ne_eqb (length ends) 0 (λ h. omega arith), e) refl

  -- so are no strings and no bytes
  pub sound_none : length ends ≡ 0 → length bytes ≡ 0 → sound bytes ends ≡ true
  unfolding sound
  sound_none p q = rw (eq-eqb (length ends) 0 p, eq-eqb (length bytes) 0 q) refl

  -- bytes without strings break the rule at 0
  pub unsound_none : length ends ≡ 0 → (length bytes ≡ 0 → ⊥) → (sound bytes ends ≡ false) × (breaks_at bytes ends 0 ≡ true)
  unfolding sound breaks_at
  unsound_none p q = (rw (eq-eqb (length ends) 0 p, ne_eqb (length bytes) 0 q) refl, rw (eq-eqb (length ends) 0 p, ne_eqb (length bytes) 0 q) refl)

  -- a string that isn't right breaks it there
  pub unsound_at : (i : ℕ) → i < length ends → right_at bytes ends i ≡ false → (sound bytes ends ≡ false) × (breaks_at bytes ends i ≡ true)
  unfolding sound breaks_at
  unsound_at i p e =
      let h = ne_eqb (length ends) 0 (λ (q : length ends ≡ 0). omega arith) in
      (rw (h, all_not (length ends) (right_at bytes ends) i p e) refl, rw (h, lt-ltb i (length ends) p, e) refl)

  -- each string of a sound table is right
  pub sound_at : (i : ℕ) → sound bytes ends ≡ true → i < length ends → right_at bytes ends i ≡ true
  unfolding sound
  sound_at i e p =
      let h = ne_eqb (length ends) 0 (λ (q : length ends ≡ 0). omega arith) in
      all_at (length ends) (right_at bytes ends) i (rw h at e) p

  -- the marks of one more string
  pub marks_more : (i : ℕ) {from to m : ℕ} → from ≡ start_of ends i → to ≡ get_or ends i 0 → m ≡ pick (is_name (part from to bytes)) 1 0 → marks_below bytes ends (i + 1) ≡ marks_below bytes ends i ++ (m ∷ [])
  unfolding marks_below string_at
  marks_more i x y e = rw (add-one i, e, x, y) refl

  -- of no string there are none
  pub marks_none : marks_below bytes ends 0 ≡ []
  unfolding marks_below
  marks_none = refl

  -- of i strings there are i
  pub marks_length : (i : ℕ) → length (marks_below bytes ends i) ≡ i
  unfolding marks_below
  marks_length zero = refl
  marks_length (suc i) = length-append (marks_below bytes ends i) _ ∙ rw (marks_length i) (add-one i)

  -- of all strings they are the names' marks
  pub marks_all : (i : ℕ) → i ≡ length ends → marks_below bytes ends i ≡ names_of bytes ends
  unfolding names_of
  marks_all i e = ap (marks_below bytes ends) e

  -- a mark for each string
  pub names_length : length (names_of bytes ends) ≡ length ends
  unfolding names_of
  names_length = marks_length (length ends)

-- below 0 there is nothing to test
pub all_none : (ok : ℕ → Bool) → all_below 0 ok ≡ true
unfolding all_below
all_none ok = refl

-- ---- what the check says

-- a sound table is said to be so
pub is_sound : {bytes ends : List ℕ} → sound bytes ends ≡ true → Said bytes ends (Ok tt)
unfolding verdict_of
is_sound e = record { at = 0; place = λ f. absurd (false≢true (sym f ∙ e)); is = rw e refl }

-- one that breaks the rule at i is said to break it there
pub is_broken : {bytes ends : List ℕ} {i : ℕ} → (sound bytes ends ≡ false) × (breaks_at bytes ends i ≡ true) → Said bytes ends (Err (record { string = i }))
unfolding verdict_of
is_broken {i} e = record { at = i; place = λ f. e.1; is = rw e.0 refl }
