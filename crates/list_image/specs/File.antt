-- The file of an image, and that taking apart is right both ways: the file of a right image is taken apart into that image (`decode_file`), and what is taken
-- apart is the file of what it gives (`file_decoded`), which is a right image (`right_decoded`). By the words of a list of bytes, part after part.
use Rattle.std.specs.Prelude.{ℕ, zero, suc, ◌+◌, ◌-◌, ◌*◌, ◌/◌, ◌%◌, ◌≤◌, ◌<◌, ◌≡◌, Bool, true, false, List, [], ◌∷◌, ◌++◌, eqb, take}
use Rattle.std.proofs.Common.{arith, ◌∙◌, append_assoc, eqb-true, take-append-drop, take_at, get_or-drop}
use Rattle.std.proofs.Math.Path.{refl, sym, ap}
use Rattle.std.proofs.Math.Bool.{and-eq-true_iff}
use Rattle.std.proofs.Math.Option.{none, some}
use Rattle.std.proofs.Math.ListN.{length, drop, get_or, replicate, length-append, length-drop}
use Rattle.std.proofs.lemmas.List.{length-replicate}
use Rattle.std.proofs.Math.Seq.{drop_at, drop-drop, length-take-le}
use Rattle.base_words.specs.Word.{pick}
use Rattle.list_image.specs.Image.{Image, word_at, words_at, strings, tree_words, erased_names, tree_from, erased_from, bytes_from, last_end, byte_count, parts, zeros, padded, well, decode}
use Rattle.list_image.specs.Laws.{length_words, Facts, facts, is_well}

-- ---- definitions

-- words as bytes, of each the low one first
unfoldable pub bytes_of : List ℕ → List ℕ
bytes_of [] = []
bytes_of (w ∷ ws) = w % 256 ∷ w / 256 % 256 ∷ w / 65536 % 256 ∷ w / 16777216 ∷ bytes_of ws

-- three counts, ends, tree, erased numbers, string bytes, zeros to a whole word
unfoldable pub file_of : Image → List ℕ
file_of i =
    bytes_of (length i.ends ∷ length i.words ∷ length i.erased ∷ []) ++ (bytes_of i.ends ++ (bytes_of i.words ++ (bytes_of i.erased
    ++ (i.bytes ++ replicate (padded (length i.bytes) - length i.bytes) 0))))

-- each below 2^32
abbrev pub Small : List ℕ → Type 0
Small [] = Unit {0}
Small (w ∷ ws) = (w < 4294967296) × Small ws

-- each below 256
abbrev pub Octets : List ℕ → Type 0
Octets l = (j : ℕ) → get_or l j 0 < 256

-- words of 32 bits, within the sizes, the last end the byte count
pub record Right (i : Image) : Type 0 where
  pub ends_fit : length i.ends ≤ 1024
  pub words_fit : length i.words ≤ 8192
  pub erased_fit : length i.erased ≤ 1024
  pub bytes_fit : length i.bytes ≤ 16384
  pub last : last_end i.ends ≡ length i.bytes
  pub ends_small : Small i.ends
  pub words_small : Small i.words
  pub erased_small : Small i.erased

-- ---- words of bytes

word_drop : (k i : ℕ) (l : List ℕ) → word_at (drop k l) i ≡ word_at l (k + i)
unfolding word_at
word_drop k i l =
    let e₁ : k + (i + 1) ≡ k + i + 1 = omega arith in
    let e₂ : k + (i + 2) ≡ k + i + 2 = omega arith in
    let e₃ : k + (i + 3) ≡ k + i + 3 = omega arith in
    rw (get_or-drop k l i 0, get_or-drop k l (i + 1) 0, get_or-drop k l (i + 2) 0, get_or-drop k l (i + 3) 0, e₁, e₂, e₃)

words_drop : (k i n : ℕ) (l : List ℕ) → words_at (drop k l) i n ≡ words_at l (k + i) n
unfolding words_at
words_drop k i zero l = refl
words_drop k i (suc n) l =
    let e : k + (i + 4) ≡ k + i + 4 = omega arith in
    rw (word_drop k i l, words_drop k (i + 4) n l, e)

length_bytes_of : (ws : List ℕ) → length (bytes_of ws) ≡ 4 * length ws
unfolding bytes_of
length_bytes_of [] = omega arith
length_bytes_of (w ∷ ws) = omega (arith, length_bytes_of ws)

whole_word : (w : ℕ) → w < 4294967296 → w % 256 + 256 * (w / 256 % 256) + 65536 * (w / 65536 % 256) + 16777216 * (w / 16777216) ≡ w
whole_word w h = omega arith

words_read : (ws r : List ℕ) → Small ws → words_at (bytes_of ws ++ r) 0 (length ws) ≡ ws
unfolding words_at word_at bytes_of
words_read [] r h = refl
words_read (w ∷ ws) r h =
    rw (whole_word w h.0, sym (words_drop 4 0 (length ws) (bytes_of (w ∷ ws) ++ r)), words_read ws r h.1)

-- words behind n bytes
words_behind : (p ws r : List ℕ) (n : ℕ) → length p ≡ n → Small ws → words_at (p ++ (bytes_of ws ++ r)) n (length ws) ≡ ws
words_behind p ws r n e h =
    let z : n + 0 ≡ n = omega arith in
    let d : words_at (drop n (p ++ (bytes_of ws ++ r))) 0 (length ws) ≡ words_at (p ++ (bytes_of ws ++ r)) n (length ws) = words_drop n 0 (length ws) (p ++ (bytes_of ws ++ r)) ∙ ap (λ k. words_at (p ++ (bytes_of ws ++ r)) k (length ws)) z in
    sym d ∙ rw (drop_at p (bytes_of ws ++ r) n e) (words_read ws r h)

zeros_replicate : (n : ℕ) → zeros (replicate n 0) ≡ true
unfolding zeros
zeros_replicate zero = refl
zeros_replicate (suc n) = zeros_replicate n

-- ---- the file of a right image

after_two : (c e r : List ℕ) → c ++ (e ++ r) ≡ (c ++ e) ++ r
after_two c e r = sym (append_assoc c e r)

after_three : (c e w r : List ℕ) → c ++ (e ++ (w ++ r)) ≡ (c ++ e ++ w) ++ r
after_three c e w r = after_two c e (w ++ r) ∙ after_two (c ++ e) w r

after_four : (c e w x r : List ℕ) → c ++ (e ++ (w ++ (x ++ r))) ≡ (c ++ e ++ w ++ x) ++ r
after_four c e w x r = after_three c e w (x ++ r) ∙ after_two (c ++ e ++ w) x r

-- the three counts, as the file begins
unfoldable counts : Image → List ℕ
counts i = length i.ends ∷ length i.words ∷ length i.erased ∷ []

length_counts : (i : Image) → length (bytes_of (counts i)) ≡ 12
unfolding counts bytes_of
length_counts i = refl

module _ (i : Image) (h : Right i) where
  counts_small : Small (counts i)
  unfolding counts
  counts_small = (omega (arith, h.ends_fit), (omega (arith, h.words_fit), (omega (arith, h.erased_fit), tt)))

  counts_at : words_at (file_of i) 0 3 ≡ counts i
  unfolding counts file_of
  counts_at = words_read (counts i) _ counts_small

  strings_are : strings (file_of i) ≡ length i.ends
  unfolding strings words_at counts
  strings_are = ap (λ ws. get_or ws 0 0) counts_at

  words_are : tree_words (file_of i) ≡ length i.words
  unfolding tree_words words_at counts
  words_are = ap (λ ws. get_or ws 1 0) counts_at

  erased_are : erased_names (file_of i) ≡ length i.erased
  unfolding erased_names words_at counts
  erased_are = ap (λ ws. get_or ws 2 0) counts_at

  ends_at : words_at (file_of i) 12 (length i.ends) ≡ i.ends
  unfolding file_of counts
  ends_at = words_behind (bytes_of (counts i)) i.ends _ 12 (length_counts i) h.ends_small

  count_is : byte_count (file_of i) ≡ length i.bytes
  unfolding byte_count
  count_is = rw (strings_are, ends_at) h.last

  words_at_lem : words_at (file_of i) (12 + 4 * length i.ends) (length i.words) ≡ i.words
  unfolding file_of counts
  words_at_lem =
      let c = bytes_of (counts i) in
      let e = bytes_of i.ends in
      let r = bytes_of i.erased ++ (i.bytes ++ replicate (padded (length i.bytes) - length i.bytes) 0) in
      let n : length (c ++ e) ≡ 12 + 4 * length i.ends = simp length-append (omega (arith, length_counts i, length_bytes_of i.ends)) in
      ap (λ l. words_at l (12 + 4 * length i.ends) (length i.words)) (after_two c e (bytes_of i.words ++ r))
      ∙ words_behind (c ++ e) i.words r (12 + 4 * length i.ends) n h.words_small

  erased_at : words_at (file_of i) (12 + 4 * length i.ends + 4 * length i.words) (length i.erased) ≡ i.erased
  unfolding file_of counts
  erased_at =
      let c = bytes_of (counts i) in
      let e = bytes_of i.ends in
      let w = bytes_of i.words in
      let r = i.bytes ++ replicate (padded (length i.bytes) - length i.bytes) 0 in
      let n : length (c ++ e ++ w) ≡ 12 + 4 * length i.ends + 4 * length i.words = simp length-append (omega (arith, length_counts i, length_bytes_of i.ends, length_bytes_of i.words)) in
      ap (λ l. words_at l (12 + 4 * length i.ends + 4 * length i.words) (length i.erased)) (after_three c e w (bytes_of i.erased ++ r))
      ∙ words_behind (c ++ e ++ w) i.erased r (12 + 4 * length i.ends + 4 * length i.words) n h.erased_small

  -- where the string bytes start
  abbrev start : ℕ
  start = 12 + 4 * length i.ends + 4 * length i.words + 4 * length i.erased

  behind : drop start (file_of i) ≡ i.bytes ++ replicate (padded (length i.bytes) - length i.bytes) 0
  unfolding file_of counts
  behind =
      let c = bytes_of (counts i) in
      let e = bytes_of i.ends in
      let w = bytes_of i.words in
      let x = bytes_of i.erased in
      let r = i.bytes ++ replicate (padded (length i.bytes) - length i.bytes) 0 in
      let n : length (c ++ e ++ w ++ x) ≡ start = simp length-append (omega (arith, length_counts i, length_bytes_of i.ends, length_bytes_of i.words, length_bytes_of i.erased)) in
      ap (drop start) (after_four c e w x r) ∙ drop_at (c ++ e ++ w ++ x) r start n

  length_file : length (file_of i) ≡ start + (length i.bytes + 3) / 4 * 4
  unfolding file_of counts padded
  length_file = simp (length-append, length-replicate) (omega (arith, length_counts i, length_bytes_of i.ends, length_bytes_of i.words, length_bytes_of i.erased))

  padding : zeros (drop (bytes_from (file_of i) + byte_count (file_of i)) (file_of i)) ≡ true
  unfolding bytes_from erased_from tree_from
  padding = rw (strings_are, words_are, erased_are, count_is) (
      ap zeros (sym (drop-drop (length i.bytes) start (file_of i)) ∙ ap (drop (length i.bytes)) behind ∙ drop_at i.bytes _ (length i.bytes) refl)
      ∙ zeros_replicate (padded (length i.bytes) - length i.bytes))

  facts_file : Facts (file_of i)
  facts_file = record {
    strings_fit = rw strings_are h.ends_fit;
    words_fit = rw words_are h.words_fit;
    erased_fit = rw erased_are h.erased_fit;
    bytes_fit = rw count_is h.bytes_fit;
    exact = rw (strings_are, words_are, erased_are, count_is) length_file;
    filled = padding;
  }

  bytes_at : take (length i.bytes) (drop start (file_of i)) ≡ i.bytes
  bytes_at = rw behind (take_at i.bytes _ (length i.bytes) refl)

  parts_file : parts (file_of i) ≡ i
  unfolding parts bytes_from erased_from tree_from
  parts_file = rw (strings_are, words_are, erased_are, count_is, ends_at, words_at_lem, erased_at, bytes_at) refl

  -- taken apart, it is that image
  pub decode_file : decode (file_of i) ≡ some i
  unfolding decode
  decode_file = rw (is_well (file_of i) facts_file) (ap some parts_file)

-- ---- a file taken apart

word_bytes : (a b c d : ℕ) → a < 256 → b < 256 → c < 256 → d < 256 → (rest : List ℕ)
    → bytes_of ((a + 256 * b + 65536 * c + 16777216 * d) ∷ []) ++ rest ≡ a ∷ b ∷ c ∷ d ∷ rest
unfolding bytes_of
word_bytes a b c d h₁ h₂ h₃ h₄ rest =
    let w = a + 256 * b + 65536 * c + 16777216 * d in
    let e₁ : w % 256 ≡ a = omega arith in
    let q₂ : w / 256 ≡ b + 256 * c + 65536 * d = omega arith in
    let m₂ : (b + 256 * c + 65536 * d) % 256 ≡ b = omega arith in
    let q₃ : w / 65536 ≡ c + 256 * d = omega arith in
    let m₃ : (c + 256 * d) % 256 ≡ c = omega arith in
    let e₄ : w / 16777216 ≡ d = omega arith in
    rw (e₁, q₂, m₂, q₃, m₃, e₄)

-- the words of bytes have those bytes
read_back : (n : ℕ) (l : List ℕ) → Octets l → 4 * n ≤ length l → bytes_of (words_at l 0 n) ≡ take (4 * n) l
unfolding words_at word_at bytes_of
read_back zero l o k = refl
read_back (suc n) [] o k = absurd (omega arith)
read_back (suc n) (a ∷ []) o k = absurd (omega arith)
read_back (suc n) (a ∷ b ∷ []) o k = absurd (omega arith)
read_back (suc n) (a ∷ b ∷ c ∷ []) o k = absurd (omega arith)
read_back (suc n) (a ∷ b ∷ c ∷ d ∷ l) o k =
    let e : 4 * suc n ≡ suc (suc (suc (suc (4 * n)))) = omega arith in
    let t : bytes_of (words_at (a ∷ b ∷ c ∷ d ∷ l) 4 n) ≡ take (4 * n) l = rw (sym (words_drop 4 0 n (a ∷ b ∷ c ∷ d ∷ l))) (read_back n l (λ j. o (suc (suc (suc (suc j))))) (omega arith)) in
    rw (e, t) (word_bytes a b c d (o 0) (o 1) (o 2) (o 3) (take (4 * n) l))

octets_drop : (n : ℕ) (l : List ℕ) → Octets l → Octets (drop n l)
octets_drop n l o j = rw (get_or-drop n l j 0) (o (n + j))

-- a part of a file, and what follows it
piece : (l : List ℕ) (i n : ℕ) → Octets l → i + 4 * n ≤ length l → drop i l ≡ bytes_of (words_at l i n) ++ drop (i + 4 * n) l
piece l i n o k =
    let z : i + 0 ≡ i = omega arith in
    let w : bytes_of (words_at l i n) ≡ take (4 * n) (drop i l) = ap (λ j. bytes_of (words_at l j n)) (sym z) ∙ ap bytes_of (sym (words_drop i 0 n l)) ∙ read_back n (drop i l) (octets_drop i l o) (simp length-drop (omega arith)) in
    sym (rw (w, ← drop-drop (4 * n) i l) (take-append-drop (4 * n) (drop i l)))

zeros_are : (l : List ℕ) → zeros l ≡ true → l ≡ replicate (length l) 0
unfolding zeros
zeros_are [] e = refl
zeros_are (x ∷ l) e =
    let p = (and-eq-true_iff (eqb x 0) (zeros l)).0 e in
    rw (eqb-true x 0 p.0, ← zeros_are l p.1)

small_words : (l : List ℕ) (i n : ℕ) → Octets l → Small (words_at l i n)
unfolding words_at word_at
small_words l i zero o = tt
small_words l i (suc n) o = (omega (arith, o i, o (i + 1), o (i + 2), o (i + 3)), small_words l (i + 4) n o)

module _ (l : List ℕ) (o : Octets l) (f : Facts l) where
  tail : drop (bytes_from l) l ≡ take (byte_count l) (drop (bytes_from l) l) ++ replicate (padded (byte_count l) - byte_count l) 0
  unfolding bytes_from erased_from tree_from padded
  tail =
      let n : length (drop (bytes_from l + byte_count l) l) ≡ padded (byte_count l) - byte_count l = simp length-drop (omega (arith, f.exact)) in
      let z : drop (bytes_from l + byte_count l) l ≡ replicate (padded (byte_count l) - byte_count l) 0 = zeros_are _ f.filled ∙ ap (λ n. replicate n 0) n in
      sym (rw (← z, ← drop-drop (byte_count l) (bytes_from l) l) (take-append-drop (byte_count l) (drop (bytes_from l) l)))

  length_bytes : length (take (byte_count l) (drop (bytes_from l) l)) ≡ byte_count l
  unfolding bytes_from erased_from tree_from
  length_bytes = length-take-le (byte_count l) (drop (bytes_from l) l) (simp length-drop (omega (arith, f.exact)))

  file_parts : l ≡ file_of (parts l)
  unfolding file_of parts bytes_from erased_from tree_from strings tree_words erased_names words_at
  file_parts =
      let e₀ = piece l 0 3 o (omega (arith, f.exact)) in
      let e₁ = piece l 12 (strings l) o (omega (arith, f.exact)) in
      let e₂ = piece l (12 + 4 * strings l) (tree_words l) o (omega (arith, f.exact)) in
      let e₃ = piece l (12 + 4 * strings l + 4 * tree_words l) (erased_names l) o (omega (arith, f.exact)) in
      rw (length_words l 12 (strings l), length_words l (12 + 4 * strings l) (tree_words l), length_words l (12 + 4 * strings l + 4 * tree_words l) (erased_names l), length_bytes) (
      e₀ ∙ ap (λ r. bytes_of (words_at l 0 3) ++ r) (
      e₁ ∙ ap (λ r. bytes_of (words_at l 12 (strings l)) ++ r) (
      e₂ ∙ ap (λ r. bytes_of (words_at l (12 + 4 * strings l) (tree_words l)) ++ r) (
      e₃ ∙ ap (λ r. bytes_of (words_at l (12 + 4 * strings l + 4 * tree_words l) (erased_names l)) ++ r) tail))))

  right_parts : Right (parts l)
  unfolding parts bytes_from erased_from tree_from byte_count
  right_parts = record {
    ends_fit = rw (length_words l 12 (strings l)) f.strings_fit;
    words_fit = rw (length_words l (12 + 4 * strings l) (tree_words l)) f.words_fit;
    erased_fit = rw (length_words l (12 + 4 * strings l + 4 * tree_words l) (erased_names l)) f.erased_fit;
    bytes_fit = rw length_bytes f.bytes_fit;
    last = sym length_bytes;
    ends_small = small_words l 12 (strings l) o;
    words_small = small_words l (12 + 4 * strings l) (tree_words l) o;
    erased_small = small_words l (12 + 4 * strings l + 4 * tree_words l) (erased_names l) o;
  }

-- what is given is what the file holds, and the test holds of it
decoded : (l : List ℕ) (i : Image) → decode l ≡ some i → (well l ≡ true) × (parts l ≡ i)
unfolding decode
decoded l i e = go (well l) refl e
  where
    go : (t : Bool) → well l ≡ t → pick t (some (parts l)) none ≡ some i → (well l ≡ true) × (parts l ≡ i)
    go true q e = (q, cc)
    go false q e = absurd (let z : ◌≡◌ {A = ℕ} 0 1 = cc in omega arith)

-- it is the file of the image that it gave
pub file_decoded : (l : List ℕ) (i : Image) → Octets l → decode l ≡ some i → l ≡ file_of i
file_decoded l i o e =
    let d = decoded l i e in
    file_parts l o (facts l d.0) ∙ ap file_of d.1

-- and this image is right
pub right_decoded : (l : List ℕ) (i : Image) → Octets l → decode l ≡ some i → Right i
right_decoded l i o e =
    let d = decoded l i e in
    rw d.1 at (right_parts l o (facts l d.0))
