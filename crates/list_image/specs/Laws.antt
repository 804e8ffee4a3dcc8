-- What an image's test says, and what a caller that has taken an image apart may conclude.
use Rattle.std.specs.Prelude.{ℕ, zero, suc, ◌+◌, ◌*◌, ◌/◌, ◌≤◌, ◌<◌, ◌≡◌, refl, Bool, true, false, List, ◌++◌, length, take, drop, Option as RustOption, None, Some}
use Rattle.std.proofs.Common.{arith, sym, ap, leb-true, eqb-true, le-leb, eq-eqb, take_at}
use Rattle.std.proofs.Math.Bool.{and-eq-true_iff}
use Rattle.std.proofs.Math.Option.{none, some}
use Rattle.base_words.specs.Word.{pick}
use Rattle.list_image.specs.Image.{words_at, strings, tree_words, erased_names, tree_from, erased_from, bytes_from, byte_count, parts, zeros, padded, well, decode, opened}
use Rattle.list_image.specs.declared.Shape.{Shape}

-- n words are read as n words
pub length_words : (l : List ℕ) (i n : ℕ) → length (words_at l i n) ≡ n
unfolding words_at
length_words l i zero = refl
length_words l i (suc n) = ap suc (length_words l (i + 4) n)

-- words read to the front of a buffer are what is left of it there
pub front : (l : List ℕ) (i n : ℕ) (old now : List ℕ) → now ≡ words_at l i n ++ drop n old → take n now ≡ words_at l i n
front l i n old now e = rw e (take_at (words_at l i n) (drop n old) n (length_words l i n))

-- and there are n of them
pub front_length : (l : List ℕ) (i n : ℕ) (old now : List ℕ) → now ≡ words_at l i n ++ drop n old → n ≡ length (take n now)
front_length l i n old now e = rw (front l i n old now e) (sym (length_words l i n))

-- ---- the image's test

-- what the test asks, part by part
pub record Facts (l : List ℕ) : Type 0 where
  pub strings_fit : strings l ≤ 1024
  pub words_fit : tree_words l ≤ 8192
  pub erased_fit : erased_names l ≤ 1024
  pub bytes_fit : byte_count l ≤ 16384
  pub exact : length l ≡ 12 + 4 * strings l + 4 * tree_words l + 4 * erased_names l + (byte_count l + 3) / 4 * 4
  pub filled : zeros (drop (bytes_from l + byte_count l) l) ≡ true

-- what the test says, part by part
pub facts : (l : List ℕ) → well l ≡ true → Facts l
unfolding well padded bytes_from erased_from tree_from
facts l e =
    let p₁ = (and-eq-true_iff _ _).0 e in
    let p₂ = (and-eq-true_iff _ _).0 p₁.1 in
    let p₃ = (and-eq-true_iff _ _).0 p₂.1 in
    let p₄ = (and-eq-true_iff _ _).0 p₃.1 in
    let p₅ = (and-eq-true_iff _ _).0 p₄.1 in
    record {
      strings_fit = leb-true _ _ p₁.0;
      words_fit = leb-true _ _ p₂.0;
      erased_fit = leb-true _ _ p₃.0;
      bytes_fit = leb-true _ _ p₄.0;
      exact = eqb-true _ _ p₅.0;
      filled = p₅.1;
    }

-- and the other way: all parts together
pub is_well : (l : List ℕ) → Facts l → well l ≡ true
unfolding well padded bytes_from erased_from tree_from
is_well l f = rw (le-leb _ _ f.strings_fit, le-leb _ _ f.words_fit, le-leb _ _ f.erased_fit, le-leb _ _ f.bytes_fit, eq-eqb _ _ f.exact, f.filled)

-- ---- an image by the counts that were read of it

-- the counts of an image, within the sizes, and its parts within the file
pub record Shaped (l : List ℕ) (s w x k : ℕ) : Type 0 where
  pub strings_are : s ≡ strings l
  pub words_are : w ≡ tree_words l
  pub erased_are : x ≡ erased_names l
  pub bytes_are : k ≡ byte_count l
  pub is : decode l ≡ some (parts l)
  pub strings_fit : s ≤ 1024
  pub words_fit : w ≤ 8192
  pub erased_fit : x ≤ 1024
  pub bytes_fit : k ≤ 16384
  pub within : 12 + 4 * s + 4 * w + 4 * x + k ≤ length l

-- the counts of a file that the code calls whole
pub shaped : (l : List ℕ) (s : Shape) → Some s ≡ opened l → Shaped l s.strings s.words s.erased s.bytes
unfolding opened decode
shaped l s e = go (well l) refl e
  where
    go : (t : Bool) → well l ≡ t → Some s ≡ pick t (Some (record { strings = strings l; words = tree_words l; erased = erased_names l; bytes = byte_count l })) None → Shaped l s.strings s.words s.erased s.bytes
    go false q e = absurd (let z : ◌≡◌ {A = ℕ} 0 1 = cc in omega arith)
    go true q e =
        let f = facts l q in
        let i : s ≡ record { strings = strings l; words = tree_words l; erased = erased_names l; bytes = byte_count l } = cc in
        let e₁ : s.strings ≡ strings l = ap (λ r. r.strings) i in
        let e₂ : s.words ≡ tree_words l = ap (λ r. r.words) i in
        let e₃ : s.erased ≡ erased_names l = ap (λ r. r.erased) i in
        let e₄ : s.bytes ≡ byte_count l = ap (λ r. r.bytes) i in
        record {
          strings_are = e₁;
          words_are = e₂;
          erased_are = e₃;
          bytes_are = e₄;
          is = rw q;
          strings_fit = rw e₁ f.strings_fit;
          words_fit = rw e₂ f.words_fit;
          erased_fit = rw e₃ f.erased_fit;
          bytes_fit = rw e₄ f.bytes_fit;
          within = rw (e₁, e₂, e₃, e₄) (omega (arith, f.exact));
        }

-- a file that the code calls malformed is no image
pub not_image : (l : List ℕ) → None ≡ opened l → decode l ≡ none
unfolding opened decode
not_image l e = go (well l) refl e
  where
    go : (t : Bool) → well l ≡ t → ◌≡◌ {A = RustOption Shape} None (pick t (Some (record { strings = strings l; words = tree_words l; erased = erased_names l; bytes = byte_count l })) None) → pick (well l) (some (parts l)) none ≡ none
    go true q e = absurd (let z : ◌≡◌ {A = ℕ} 0 1 = cc in omega arith)
    go false q e = rw q

-- no image is longer: 12 bytes of counts, 1,024 ends, 8,192 words, 1,024 erased names and 16,384 string bytes
pub longest : (l : List ℕ) → 57356 < length l → decode l ≡ none
unfolding decode
longest l h = go (well l) refl
  where
    go : (t : Bool) → well l ≡ t → pick (well l) (some (parts l)) none ≡ none
    go true q =
        let f = facts l q in
        absurd (omega (arith, f.exact, f.strings_fit, f.words_fit, f.erased_fit, f.bytes_fit))
    go false q = rw q
