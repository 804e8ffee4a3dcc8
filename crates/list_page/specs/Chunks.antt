-- The rows that stand in a buffer, read off it: of a buffer that holds rows these are the rows (`chunks_filled`).
use Rattle.std.specs.Prelude.{ℕ, zero, suc, ◌+◌, ◌*◌, ◌≡◌, refl, List, [], ◌∷◌, ◌++◌, length, take, drop}
use Rattle.std.proofs.Common.{zero-mul, arith, ap, ◌∙◌, append_assoc, take_at, drop_at, drop-drop}
use Rattle.base_words.specs.Word.{flatten}
use Rattle.rows_table.specs.Rows.{Row, Wide, image, Filled}

-- the first n rows of w words
unfoldable pub chunks : ℕ → ℕ → List ℕ → List Row
chunks w zero b = []
chunks w (suc n) b = take w b ∷ chunks w n (drop w b)

-- one row more
pub chunks_snoc : (w n : ℕ) (b : List ℕ) → chunks w (suc n) b ≡ chunks w n b ++ (take w (drop (n * w) b) ∷ [])
unfolding chunks
chunks_snoc w zero b = rw (zero-mul w)
chunks_snoc w (suc n) b =
    let e : w + n * w ≡ suc n * w = omega arith in
    ap (λ x. take w b ∷ x) (chunks_snoc w n (drop w b) ∙ ap (λ x. chunks w n (drop w b) ++ (take w x ∷ [])) (drop-drop (n * w) w b ∙ ap (λ k. drop k b) e))

chunks_flat : (w : ℕ) (rows : List Row) (rest : List ℕ) → Wide w rows → chunks w (length rows) (flatten rows ++ rest) ≡ rows
unfolding chunks flatten
chunks_flat w [] rest h = refl
chunks_flat w (r ∷ rs) rest h =
    rw (append_assoc r (flatten rs) rest, take_at r (flatten rs ++ rest) w h.0, drop_at r (flatten rs ++ rest) w h.0, chunks_flat w rs rest h.1)

-- the rows read off a buffer that holds n rows are these
pub chunks_filled : {w n : ℕ} {rows : List Row} {buf : List ℕ} → Filled w rows n buf → chunks w n buf ≡ rows
unfolding image
chunks_filled {w} {n} {rows} {buf} f = rw (f.words, ← f.count) (chunks_flat w rows _ f.wide)
