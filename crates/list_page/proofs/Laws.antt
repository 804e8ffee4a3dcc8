-- A line's parts, and the rows that a buffer's words make.
use Prim.Native.Nat.{ℕ, zero, suc, ◌+◌, ◌*◌, ◌/◌, ◌≤◌}
use native.Mathlib.Omega.{arith}
use mathlib.Core.Path.{◌≡◌, refl}
use mathlib.Core.List.{List, [], ◌∷◌, flat_map}
use lib.ListN.{length, take, drop, get_or, set}
use lib.Seq.{length-take-le}
use Rattle.base_text.specs.Text.{ascii, hex8}
use Rattle.base_text.specs.Wrote.{Wrote}
use Rattle.base_text.specs.Laws.{then, items_none, items_more, items_all}
use Rattle.list_page.specs.Page.{word, line}
use Rattle.list_page.specs.Chunks.{chunks}
use Rattle.std.specs.Simd.{first_chunks}
use Rattle.std.proofs.lemmas.List.{drop-take, take-take}

-- ---- a line

-- the letter, the words, the line's end
pub whole_line : {a b c d : List ℕ} {i j k m : ℕ} {letter : ℕ} (ws : List ℕ) → Wrote (letter ∷ []) a b i j → Wrote (flat_map word ws) b c j k → Wrote (10 ∷ []) c d k m → Wrote (line letter ws) a d i m
unfolding line ascii
whole_line ws p q r = then p (then q r)

-- one byte, where there is room for it or not
pub stored : (b : List ℕ) (at v : ℕ) → Wrote (v ∷ []) b (set b at v) at (at + 1)
stored b at v = record { now = refl; end = refl }

-- a row's line, word by word
pub whole_row : {a b c d e f g h m : List ℕ} {i j k₁ k₂ k₃ k₄ k₅ k₆ n : ℕ} (row : List ℕ) → length row ≡ 6 → Wrote (84 ∷ []) a b i j
    → Wrote (32 ∷ hex8 (get_or row 0 0)) b c j k₁ → Wrote (32 ∷ hex8 (get_or row 1 0)) c d k₁ k₂ → Wrote (32 ∷ hex8 (get_or row 2 0)) d e k₂ k₃
    → Wrote (32 ∷ hex8 (get_or row 3 0)) e f k₃ k₄ → Wrote (32 ∷ hex8 (get_or row 4 0)) f g k₄ k₅ → Wrote (32 ∷ hex8 (get_or row 5 0)) g h k₅ k₆
    → Wrote (10 ∷ []) h m k₆ n → Wrote (line 84 row) a m i n
unfolding word
whole_row row size p q₁ q₂ q₃ q₄ q₅ q₆ r =
    let w₁ = items_more word row 0 0 (omega arith) (items_none word row) q₁ in
    let w₂ = items_more word row 1 0 (omega arith) w₁ q₂ in
    let w₃ = items_more word row 2 0 (omega arith) w₂ q₃ in
    let w₄ = items_more word row 3 0 (omega arith) w₃ q₄ in
    let w₅ = items_more word row 4 0 (omega arith) w₄ q₅ in
    whole_line row p (items_all word row 6 (omega arith) (items_more word row 5 0 (omega arith) w₅ q₆)) r

-- ---- rows

-- the first n rows of w words, of the words that they have
cut_rows : (w n : ℕ) (b : List ℕ) → first_chunks w n (take (n * w) b) ≡ chunks w n b
unfolding chunks
cut_rows w zero b = refl
cut_rows w (suc n) b =
    let e : suc n * w ≡ w + n * w = omega arith in
    rw (e, take-take w (w + n * w) b (omega arith), drop-take w (n * w) b, cut_rows w n (drop w b))

-- the rows that the words make, cut into arrays
pub rows_cut : (n : ℕ) (b : List ℕ) → n * 6 ≤ length b → first_chunks 6 (length (take (n * 6) b) / 6) (take (n * 6) b) ≡ chunks 6 n b
rows_cut n b h =
    let l : length (take (n * 6) b) ≡ n * 6 = length-take-le (n * 6) b h in
    let k : length (take (n * 6) b) / 6 ≡ n = omega arith in
    rw k (cut_rows 6 n b)
