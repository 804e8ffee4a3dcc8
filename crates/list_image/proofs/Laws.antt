-- Words read, and what an image's test tells: each way in which a file is no image makes the test false (`no`), and what the code read makes it
-- true (`yes`).
use Prim.Native.Nat.{ℕ, zero, suc, ◌+◌, ◌*◌, ◌/◌, ◌≤◌, ◌<◌}
use native.Mathlib.Numerals.{add-one}
use native.Mathlib.Omega.{arith}
use mathlib.Core.Path.{◌≡◌, refl, sym, ap, ◌∙◌}
use mathlib.Core.Bool.{Bool, true, false, ◌&&◌}
use mathlib.Core.List.{List, [], ◌∷◌, ◌++◌}
use Rattle.std.specs.List.{list_all}
use Rattle.std.proofs.Common.{eqb}
use lib.ListN.{length, drop, get_or, set}
use lib.Seq.{drop-cons, append_snoc, set_at}
use Rattle.base_words.specs.Word.{pick}
use Rattle.list_image.specs.Image.{word_at, words_at, strings, tree_words, erased_names, tree_from, erased_from, bytes_from, last_end, byte_count, zeros, well, opened}
use Rattle.list_image.specs.Laws.{length_words, Facts, facts, is_well}
use Rattle.list_image.specs.declared.Shape.{Shape}
use Rattle.std.specs.Prelude.{Option, None, Some}

-- ---- words read

words_snoc : (l : List ℕ) (i n : ℕ) → words_at l i (suc n) ≡ words_at l i n ++ (word_at l (i + 4 * n) ∷ [])
unfolding words_at
words_snoc l i zero =
    let e : i ≡ i + 4 * 0 = omega arith in
    ap (λ k. word_at l k ∷ []) e
words_snoc l i (suc n) =
    let e : i + 4 + 4 * n ≡ i + 4 * suc n = omega arith in
    ap (λ r. word_at l i ∷ r) (words_snoc l (i + 4) n ∙ ap (λ k. words_at l (i + 4) n ++ (word_at l k ∷ [])) e)

-- one more word read
pub read_more : (l : List ℕ) (i n : ℕ) (old now : List ℕ) → n < length old → now ≡ words_at l i n ++ drop n old → set now n (word_at l (i + 4 * n)) ≡ words_at l i (n + 1) ++ drop (n + 1) old
read_more l i n old now h e =
    let v = word_at l (i + 4 * n) in
    rw (e, add-one n, drop-cons old n 0 h) (
    set_at (words_at l i n) (get_or old n 0) (drop (suc n) old) v n (length_words l i n)
    ∙ sym (append_snoc (words_at l i n) v (drop (suc n) old))
    ∙ ap (λ r. r ++ drop (suc n) old) (sym (words_snoc l i n)))

-- ---- the last end

last_snoc : (es : List ℕ) (e : ℕ) → last_end (es ++ (e ∷ [])) ≡ e
unfolding last_end
last_snoc [] e = refl
last_snoc (x ∷ []) e = refl
last_snoc (x ∷ y ∷ es) e = last_snoc (y ∷ es) e

-- without strings there is no last end: 0
pub last_none : (l : List ℕ) (s : ℕ) → s ≡ 0 → 0 ≡ last_end (words_at l 12 s)
unfolding last_end words_at
last_none l s z = rw z

-- else it is the word before the tree
pub last_read : (l : List ℕ) (s : ℕ) → (s ≡ 0 → ⊥) → word_at l (8 + 4 * s) ≡ last_end (words_at l 12 s)
last_read l zero n = absurd (n refl)
last_read l (suc s) n =
    let e : 8 + 4 * suc s ≡ 12 + 4 * s = omega arith in
    rw (e, words_snoc l 12 s, last_snoc (words_at l 12 s) (word_at l (12 + 4 * s)))

-- ---- zeros

-- all are zero by the library's test
pub zeros_are : (l : List ℕ) → list_all (λ x. eqb x 0) l ≡ zeros l
unfolding zeros
zeros_are [] = refl
zeros_are (x ∷ xs) = ap (λ (t : Bool). eqb x 0 && t) (zeros_are xs)

-- ---- the image's test

-- not an image, since a fact fails
pub no : (l : List ℕ) → (Facts l → ⊥) → None ≡ opened l
unfolding opened
no l h = go (well l) refl
  where
    go : (t : Bool) → well l ≡ t → ◌≡◌ {A = Option Shape} None (pick t (Some (record { strings = strings l; words = tree_words l; erased = erased_names l; bytes = byte_count l })) None)
    go true q = absurd (h (facts l q))
    go false q = refl

-- an image, since they hold
pub yes : (l : List ℕ) → Facts l → Some (record { strings = strings l; words = tree_words l; erased = erased_names l; bytes = byte_count l }) ≡ opened l
unfolding opened
yes l f = rw (is_well l f)

-- what the code read of a file
module _ (l : List ℕ) (s w x b : ℕ) (p : s ≡ word_at l 0) (q : w ≡ word_at l 4) (r : x ≡ word_at l 8) (t : b ≡ last_end (words_at l 12 s)) where
  -- the byte count is the one that it read
  pub is_count : b ≡ byte_count l
  unfolding byte_count strings
  is_count = t ∙ ap (λ n. last_end (words_at l 12 n)) p

  from : 12 + 4 * s + 4 * w + 4 * x + b ≡ bytes_from l + byte_count l
  unfolding bytes_from erased_from tree_from strings tree_words erased_names
  from = omega (arith, is_count)

  -- of an image the padding is zero, from where the code read it
  pub filled : Facts l → zeros (drop (12 + 4 * s + 4 * w + 4 * x + b) l) ≡ true
  filled f = rw from f.filled

  -- within the sizes, of the right length and with zero padding: an image with these counts
  pub whole : (z : Bool) → s ≤ 1024 → w ≤ 8192 → x ≤ 1024 → b ≤ 16384 → length l ≡ 12 + 4 * s + 4 * w + 4 * x + (b + 3) / 4 * 4 → z ≡ zeros (drop (12 + 4 * s + 4 * w + 4 * x + b) l) → z ≡ true → Some (record { strings = s; words = w; erased = x; bytes = b }) ≡ opened l
  unfolding strings tree_words erased_names
  whole z h₁ h₂ h₃ h₄ h₅ e y =
      let f : Facts l = record {
        strings_fit = omega arith;
        words_fit = omega arith;
        erased_fit = omega arith;
        bytes_fit = omega (arith, is_count);
        exact = omega (arith, is_count);
        filled = (let k : zeros (drop (12 + 4 * s + 4 * w + 4 * x + b) l) ≡ true = sym e ∙ y in rw from at k);
      } in
      rw (p, q, r, is_count) (yes l f)
