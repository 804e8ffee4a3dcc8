-- Laws of a buffer that holds rows of w words, for any w: its parts, its words, its tail. By the lengths of the rows. Assumes nothing.
use Rattle.std.specs.Prelude.{◌≡◌, refl, take}
use Rattle.std.proofs.Math.Path.{sym, ap}
use Rattle.std.proofs.Common.{◌∙◌, le_of_suc-le-suc, not-suc-le-zero, le_of_eq, le_refl, mul-le-mul_right, take-append-drop, take_all, take_at, drop_at, drop-drop, length-take-le}
use mathlib.Core.List.{List, [], ◌∷◌, ◌++◌, append_assoc, append-nil}
use Prim.Native.Nat.{ℕ, zero, suc, ◌+◌, ◌-◌, ◌*◌, ◌≤◌, ◌<◌}
use native.Mathlib.Omega.{arith}
use Rattle.std.proofs.Math.Nat.{suc-mul, zero-mul}
use Rattle.std.proofs.Math.ListN.{length, drop, get_or, length-append, get_or-append, drop_of_length-le, length-replicate}
use Rattle.std.proofs.Math.Seq.{slice, get_or-append-add}
use Rattle.base_words.specs.Word.{flatten}
use Rattle.rows_table.specs.Rows.{width, Row, key_of, key, Table, zeros, image, Wide, Filled, Holds}

-- ---- the words of rows

-- the words of two runs of rows: those of the first, then those of the second
pub flatten_append : (a b : List Row) → flatten (a ++ b) ≡ flatten a ++ flatten b
unfolding flatten
flatten_append [] b = refl
flatten_append (r ∷ rs) b = ap (λ (l : List ℕ). r ++ l) (flatten_append rs b) ∙ sym (append_assoc r (flatten rs) (flatten b))

-- the words of rows: those of the first p, then those of the others
pub flatten_split : (p : ℕ) (rows : List Row) → flatten rows ≡ flatten (take p rows) ++ flatten (drop p rows)
flatten_split p rows = ap flatten (sym (take-append-drop p rows)) ∙ flatten_append (take p rows) (drop p rows)

-- each row of a table has `width` words
pub table_wide : (b : ℕ) (rows : List Row) → Table b rows → Wide width rows
table_wide b [] t = tt
table_wide b (r ∷ rs) t = (t.0, table_wide (suc (key r)) rs t.2)

-- zeros without the first m are zeros
pub drop_zeros : (m n : ℕ) → drop m (zeros n) ≡ zeros (n - m)
drop_zeros zero n =
    let e : n - 0 ≡ n = omega arith in
    rw e
drop_zeros (suc m) zero =
    let e : 0 - suc m ≡ 0 = omega arith in
    rw e
drop_zeros (suc m) (suc n) =
    let e : suc n - suc m ≡ n - m = omega arith in
    rw e (drop_zeros m n)

module _ (w : ℕ) where
  -- rows of w words have w times as many words as there are rows
  pub length_flatten : (rows : List Row) → Wide w rows → length (flatten rows) ≡ length rows * w
  unfolding flatten
  length_flatten [] t = sym (zero-mul w)
  length_flatten (r ∷ rs) t = length-append r (flatten rs) ∙ omega (arith, t.0, length_flatten rs t.1, suc-mul (length rs) w)

  -- the first p of rows of w words are rows of w words
  pub wide_take : (p : ℕ) (rows : List Row) → Wide w rows → Wide w (take p rows)
  wide_take zero rows t = tt
  wide_take (suc p) [] t = tt
  wide_take (suc p) (r ∷ rs) t = (t.0, wide_take p rs t.1)

  -- one more row of w words after the last keeps them so
  pub wide_snoc : (rows : List Row) (row : Row) → Wide w rows → length row ≡ w → Wide w (rows ++ (row ∷ []))
  wide_snoc [] row t h = (h, tt)
  wide_snoc (r ∷ rs) row t h = (t.0, wide_snoc rs row t.1 h)

  -- the words of the first p rows
  pub length_flatten_take : (p : ℕ) (rows : List Row) → Wide w rows → p ≤ length rows → length (flatten (take p rows)) ≡ p * w
  length_flatten_take p rows t h = length_flatten (take p rows) (wide_take p rows t) ∙ ap (λ (n : ℕ). n * w) (length-take-le p rows h)

  -- word j of row i
  pub get_d_flatten : (rows : List Row) → Wide w rows → (i j : ℕ) → i < length rows → j < w → get_or (flatten rows) (i * w + j) 0 ≡ get_or (get_or rows i []) j 0
  unfolding flatten
  get_d_flatten [] t i j h k = absurd (not-suc-le-zero h)
  get_d_flatten (r ∷ rs) t zero j h k =
      let e : 0 * w + j ≡ j = omega (arith, zero-mul w) in
      ap (λ (n : ℕ). get_or (r ++ flatten rs) n 0) e ∙ get_or-append r (flatten rs) 0 j (omega (arith, t.0))
  get_d_flatten (r ∷ rs) t (suc i) j h k =
      let e : suc i * w + j ≡ length r + (i * w + j) = omega (arith, t.0, suc-mul i w) in
      ap (λ (n : ℕ). get_or (r ++ flatten rs) n 0) e ∙ get_or-append-add r (flatten rs) (i * w + j) 0 ∙ get_d_flatten rs t.1 i j (le_of_suc-le-suc h) k

  -- ---- images

  -- the image of rows that fit n words has n words
  pub length_image : (n : ℕ) (rows : List Row) → Wide w rows → length rows * w ≤ n → length (image w n rows) ≡ n
  unfolding image
  length_image n rows t h =
      length-append (flatten rows) (zeros (n - length rows * w))
      ∙ omega (arith, length_flatten rows t, length-replicate {A = ℕ} (n - length rows * w) 0)

  -- it is a buffer that holds these rows
  pub filled_image : (n : ℕ) (rows : List Row) → Wide w rows → length rows * w ≤ n → Filled w rows (length rows) (image w n rows)
  filled_image n rows t h = record { words = ap (λ (m : ℕ). image w m rows) (sym (length_image n rows t h)); count = refl; wide = t }

  -- two runs of rows, and then zeros
  pub image_append : (n m : ℕ) (a b : List Row) → length a + length b ≡ m → flatten a ++ (flatten b ++ zeros (n - m * w)) ≡ image w n (a ++ b)
  unfolding image
  image_append n m a b e =
      sym (append_assoc (flatten a) (flatten b) (zeros (n - m * w)))
      ∙ ap (λ (l : List ℕ). l ++ zeros (n - m * w)) (sym (flatten_append a b))
      ∙ ap (λ (k : ℕ). flatten (a ++ b) ++ zeros (n - k * w)) (sym e ∙ sym (length-append a b))

  -- the same with a row between them
  pub image_splice : (n m : ℕ) (a : List Row) (r : Row) (b : List Row) → length a + length b + 1 ≡ m → flatten a ++ (r ++ (flatten b ++ zeros (n - m * w))) ≡ image w n (a ++ (r ∷ b))
  unfolding flatten
  image_splice n m a r b e =
      ap (λ (l : List ℕ). flatten a ++ l) (sym (append_assoc r (flatten b) (zeros (n - m * w))))
      ∙ image_append n m a (r ∷ b) (omega arith)

  -- no rows
  pub image_none : (n : ℕ) → image w n [] ≡ zeros n
  unfolding image flatten
  image_none n =
      let e : n - 0 * w ≡ n = omega (arith, zero-mul w) in
      ap zeros e

-- ---- a buffer that holds n rows of w words

module _ {w : ℕ} {rows : List Row} {n : ℕ} {buf : List ℕ} (F : Filled w rows n buf) where
  -- the rows fit
  pub holds_fits : n * w ≤ length buf
  unfolding image
  holds_fits =
      let e : length buf ≡ length (flatten rows) + length (zeros (length buf - length rows * w)) =
      ap length F.words ∙ length-append (flatten rows) (zeros (length buf - length rows * w)) in
      let c : length rows * w ≡ n * w = ap (λ (m : ℕ). m * w) F.count in
      omega (arith, e, length_flatten w rows F.wide, c)

  -- its words: those of the rows, and zeros
  pub holds_words : buf ≡ flatten rows ++ zeros (length buf - n * w)
  unfolding image
  holds_words = F.words ∙ ap (λ (m : ℕ). flatten rows ++ zeros (length buf - m * w)) F.count

  -- its words: those of the first p rows, those of the others, and zeros
  pub holds_split : (p : ℕ) → buf ≡ flatten (take p rows) ++ (flatten (drop p rows) ++ zeros (length buf - n * w))
  holds_split p =
      holds_words ∙ ap (λ (l : List ℕ). l ++ zeros (length buf - n * w)) (flatten_split p rows)
      ∙ append_assoc (flatten (take p rows)) (flatten (drop p rows)) (zeros (length buf - n * w))

  front_length : (p : ℕ) → p ≤ n → length (flatten (take p rows)) ≡ p * w
  front_length p h = length_flatten_take w p rows F.wide (omega (arith, F.count))

  -- the words before row p are those of the first p rows
  pub take_rows : (p : ℕ) → p ≤ n → take (p * w) buf ≡ flatten (take p rows)
  take_rows p h =
      ap (take (p * w)) (holds_split p)
      ∙ take_at (flatten (take p rows)) (flatten (drop p rows) ++ zeros (length buf - n * w)) (p * w) (front_length p h)

  -- those from row p on are the other rows' words, and zeros
  pub drop_rows : (p : ℕ) → p ≤ n → drop (p * w) buf ≡ flatten (drop p rows) ++ zeros (length buf - n * w)
  drop_rows p h =
      ap (drop (p * w)) (holds_split p)
      ∙ drop_at (flatten (take p rows)) (flatten (drop p rows) ++ zeros (length buf - n * w)) (p * w) (front_length p h)

  -- the words of the rows from p on
  pub slice_rows : (p : ℕ) → p ≤ n → slice (p * w) (n * w) buf ≡ flatten (drop p rows)
  slice_rows p h =
      let all : take n rows ≡ rows = take_all n rows (le_of_eq F.count) in
      ap (drop (p * w)) (take_rows n (le_refl n) ∙ ap flatten all ∙ flatten_split p rows)
      ∙ drop_at (flatten (take p rows)) (flatten (drop p rows)) (p * w) (front_length p h)

  -- past the rows all is zero
  pub drop_tail : (m : ℕ) → drop (n * w + m) buf ≡ zeros (length buf - (n * w + m))
  unfolding flatten
  drop_tail m =
      let gone : drop n rows ≡ [] = drop_of_length-le rows (le_of_eq F.count) in
      let z : length buf - n * w - m ≡ length buf - (n * w + m) = omega arith in
      sym (drop-drop m (n * w) buf) ∙ ap (drop m) (drop_rows n (le_refl n) ∙ ap (λ (l : List Row). flatten l ++ zeros (length buf - n * w)) gone)
      ∙ drop_zeros m (length buf - n * w) ∙ ap zeros z

  -- word j of row i
  pub word_at_lem : (i j : ℕ) → i < n → j < w → get_or buf (i * w + j) 0 ≡ get_or (get_or rows i []) j 0
  word_at_lem i j h k =
      let len_f : length (flatten rows) ≡ length rows * w = length_flatten w rows F.wide in
      let c : length rows * w ≡ n * w = ap (λ (m : ℕ). m * w) F.count in
      let s : suc i * w ≤ n * w = mul-le-mul_right w h in
      ap (λ (l : List ℕ). get_or l (i * w + j) 0) holds_words
      ∙ get_or-append (flatten rows) (zeros (length buf - n * w)) 0 (i * w + j) (omega (arith, suc-mul i w))
      ∙ get_d_flatten w rows F.wide i j (omega (arith, F.count)) k

-- the key of row i
pub key_of_row : {rows : List Row} {n : ℕ} {buf : List ℕ} (F : Filled width rows n buf) (i : ℕ) → i < n
    → key_of (get_or buf (i * width) 0) (get_or buf (i * width + 1) 0) ≡ key (get_or rows i [])
unfolding key
key_of_row {rows} {n} {buf} F i h =
    let e₀ : get_or buf (i * width) 0 ≡ get_or (get_or rows i []) 0 0 = ap (λ (m : ℕ). get_or buf m 0) (omega arith) ∙ word_at_lem F i 0 h (omega arith) in
    let e₁ : get_or buf (i * width + 1) 0 ≡ get_or (get_or rows i []) 1 0 = word_at_lem F i 1 h (omega arith) in
    omega (arith, e₀, e₁)

-- the image of a table that fits n words is a buffer that holds it
pub holds_image : (n : ℕ) (rows : List Row) → Table 0 rows → length rows * width ≤ n → Holds rows (length rows) (image width n rows)
holds_image n rows t h = record { filled = filled_image width n rows (table_wide 0 rows t) h; table = t }

-- the words of rows, and no more, are a buffer that holds them
pub holds_full : (rows : List Row) (n : ℕ) (l : List ℕ) → Table 0 rows → length rows ≡ n → l ≡ flatten rows → Holds rows n l
unfolding image
holds_full rows n l t c e =
    let z : length (flatten rows) - length rows * width ≡ 0 = omega (arith, length_flatten width rows (table_wide 0 rows t)) in
    let whole : flatten rows ≡ flatten rows ++ zeros (length (flatten rows) - length rows * width) = rw z (sym (append-nil (flatten rows))) in
    record { filled = record { words = rw e whole; count = c; wide = table_wide 0 rows t }; table = t }
