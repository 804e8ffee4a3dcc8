-- The rows of a filled buffer, one by one, by their places. By induction on the rows. Assumes nothing.
use Rattle.std.specs.Prelude.{◌≡◌, length, take, get_or}
use Rattle.std.proofs.Math.Path.{refl, sym, ap}
use Rattle.std.proofs.Common.{◌∙◌, le_of_suc-le-suc, not-suc-le-zero, get_or-take, get_or-drop, drop-drop}
use mathlib.Core.List.{List, [], ◌∷◌, ◌++◌, append_assoc}
use Prim.Native.Nat.{ℕ, zero, suc, ◌+◌, ◌-◌, ◌*◌, ◌<◌}
use native.Mathlib.Omega.{arith}
use Rattle.std.proofs.Math.ListN.{drop}
use Rattle.std.proofs.Math.Seq.{take_at, drop_at}
use Rattle.base_words.specs.Word.{flatten}
use Rattle.base_words.specs.Each.{Each}
use Rattle.rows_table.specs.Rows.{Row, width, insert, insert_all, Wide, Filled, rows_of, zeros}
use Rattle.rows_table.specs.Each.{each_insert}
use Rattle.rows_table.specs.Images.{holds_words}
use Rattle.rows_runs.specs.Runs.{row_of}

-- word j of the row at a place
pub row_word_lem : (buf : List ℕ) (i j : ℕ) → j < width → get_or (row_of buf i) j 0 ≡ get_or buf (i * width + j) 0
row_word_lem buf i j h = get_or-take width (drop (i * width) buf) j 0 h ∙ get_or-drop (i * width) buf j 0

-- the rows that stand at the beginning of some words
module _ (rest : List ℕ) where
  rows_of_lem : (rows : List Row) → Wide width rows → rows_of (length rows) (flatten rows ++ rest) ≡ rows
  unfolding rows_of flatten
  rows_of_lem [] w = refl
  rows_of_lem (r ∷ rs) w =
      let e : (r ++ flatten rs) ++ rest ≡ r ++ (flatten rs ++ rest) = append_assoc r (flatten rs) rest in
      rw (e, take_at r (flatten rs ++ rest) width w.0, drop_at r (flatten rs ++ rest) width w.0) (ap (λ (l : List Row). r ∷ l) (rows_of_lem rs w.1))

  row_of_lem : (rows : List Row) → Wide width rows → (i : ℕ) → i < length rows → row_of (flatten rows ++ rest) i ≡ get_or rows i []
  unfolding flatten
  row_of_lem [] w i h = absurd (not-suc-le-zero h)
  row_of_lem (r ∷ rs) w zero h =
      let e : (r ++ flatten rs) ++ rest ≡ r ++ (flatten rs ++ rest) = append_assoc r (flatten rs) rest in
      rw e (take_at r (flatten rs ++ rest) width w.0)
  row_of_lem (r ∷ rs) w (suc i) h =
      let e : (r ++ flatten rs) ++ rest ≡ r ++ (flatten rs ++ rest) = append_assoc r (flatten rs) rest in
      let n : width + i * width ≡ suc i * width = omega arith in
      let d : drop (suc i * width) (r ++ (flatten rs ++ rest)) ≡ drop (i * width) (flatten rs ++ rest) =
      ap (λ (k : ℕ). drop k (r ++ (flatten rs ++ rest))) (sym n)
      ∙ sym (drop-drop (i * width) width (r ++ (flatten rs ++ rest)))
      ∙ ap (drop (i * width)) (drop_at r (flatten rs ++ rest) width w.0) in
      rw e (ap (take width) d ∙ row_of_lem rs w.1 i (le_of_suc-le-suc h))

module _ {rows : List Row} {n : ℕ} {buf : List ℕ} (F : Filled width rows n buf) where
  -- all of them
  pub rows_filled : rows_of n buf ≡ rows
  rows_filled =
      let rest : List ℕ = zeros (length buf - n * width) in
      ap (rows_of n) (holds_words F) ∙ ap (λ (m : ℕ). rows_of m (flatten rows ++ rest)) (sym F.count) ∙ rows_of_lem rest rows F.wide

  -- the one at place i
  pub row_filled : (i : ℕ) → i < n → row_of buf i ≡ get_or rows i []
  row_filled i h =
      let rest : List ℕ = zeros (length buf - n * width) in
      ap (λ (l : List ℕ). row_of l i) (holds_words F) ∙ row_of_lem rest rows F.wide i (omega (arith, F.count))

-- what holds of the rows at all places holds of each
pub each_of : (P : Row → Type 0) (rows : List Row) → ((i : ℕ) → i < length rows → P (get_or rows i [])) → Each P rows
unfolding Each
each_of P [] f = tt
each_of P (r ∷ rs) f = (f 0 (omega arith), each_of P rs (λ i h. f (suc i) (omega arith)))

-- what holds of each of two lists of rows holds of each when the ones are put into the others
pub each_all : (P : Row → Type 0) (more rows : List Row) → Each P more → Each P rows → Each P (insert_all more rows)
unfolding Each insert_all
each_all P [] rows a b = b
each_all P (r ∷ rs) rows a b = each_all P rs (insert r rows) a.1 (each_insert P r rows a.0 b)
