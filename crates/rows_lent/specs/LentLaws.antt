-- The test of a lent table says yes to exactly the lent tables, and the rows that it gives are theirs: sound, complete and unique. By induction on
-- the rows that have room. Assumes nothing.
use Rattle.std.proofs.Math.Path.{◌≡◌, refl, sym, ap}
use Rattle.std.proofs.Common.{◌∙◌, inl, inr, add-one, take-append-drop, drop_of_length-le, drop-cons, drop-drop, get_or-drop, get_or-take, take_at, drop_at, length-take-le}
use Rattle.std.specs.Prelude.{Bool, ◌⊎◌, drop, Option, None, Some}
use Rattle.std.proofs.Math.Bool.{true, false}
use mathlib.Core.List.{List, [], ◌∷◌, ◌++◌, append_assoc}
use Prim.Native.Nat.{ℕ, zero, suc, ◌+◌, ◌-◌, ◌*◌, ◌/◌, ◌≤◌, ◌<◌, zero-le}
use native.Mathlib.Omega.{arith}
use Rattle.std.proofs.Math.Dec.{leb, eqb}
use Rattle.std.proofs.Math.ListN.{length, take, get_or, length-drop}
use borrow.Author.Tests.{le-leb, lt-leb, eq-eqb, ne_eqb, eqb-true, eqb-false, leb-true, leb-false}
use Rattle.base_words.specs.Word.{kind_of, pick, flatten}
use Rattle.base_words.specs.Told.{gives}
use Rattle.base_words.specs.Each.{Each}
use Rattle.rows_table.specs.Rows.{width, Row, key_of, key, Table, zeros, image, rows_of, Filled}
use Rattle.rows_table.specs.Laws.{pick_true, pick_false, table_down, order}
use Rattle.rows_table.specs.Images.{table_wide, holds_fits, image_none}
use Rattle.rows_runs.specs.Places.{rows_filled}
use Rattle.rows_lent.specs.Rules.{kind_ok, row_ok}
use Rattle.rows_lent.specs.Lent.{all_zero, AllOk, ended_at, scan, checked, told, lent_rows, Lent}

-- ---- zeros

-- a zero at i: the words from i on are all zero if those after it are
pub all_zero_more : (b : List ℕ) (i : ℕ) → i < length b → get_or b i 0 ≡ 0 → all_zero (drop i b) ≡ all_zero (drop (i + 1) b)
unfolding all_zero
all_zero_more b i h e =
    ap all_zero (drop-cons b i 0 h) ∙ pick_true (all_zero (drop (suc i) b)) false (eq-eqb (get_or b i 0) 0 e) ∙ ap (λ (n : ℕ). all_zero (drop n b)) (sym (add-one i))

-- a word at i that is not zero: they are not
pub all_zero_no : (b : List ℕ) (i : ℕ) → i < length b → (get_or b i 0 ≡ 0 → ⊥) → all_zero (drop i b) ≡ false
unfolding all_zero
all_zero_no b i h e = ap all_zero (drop-cons b i 0 h) ∙ pick_false (all_zero (drop (suc i) b)) false (ne_eqb (get_or b i 0) 0 e)

-- past the last word none is left
pub all_zero_end : (b : List ℕ) (i : ℕ) → length b ≤ i → all_zero (drop i b) ≡ true
unfolding all_zero
all_zero_end b i h = rw (drop_of_length-le b h)

-- the row at n
pub row_of_lem : List ℕ → ℕ → Row
row_of_lem b n = take width (drop (n * width) b)

-- the first word from row n on is the buffer's word there
pub head_at : (b : List ℕ) (n : ℕ) → get_or (drop (n * width) b) 0 0 ≡ get_or b (n * width) 0
head_at b n =
    let z : n * width + 0 ≡ n * width = omega arith in
    get_or-drop (n * width) b 0 0 ∙ ap (λ (i : ℕ). get_or b i 0) z

-- the key of row n, by its two words in the buffer
pub key_row_of : (b : List ℕ) (n : ℕ) → key (take width (drop (n * width) b)) ≡ key_of (get_or b (n * width) 0) (get_or b (n * width + 1) 0)
unfolding key
key_row_of b n =
    let e₀ : get_or (take width (drop (n * width) b)) 0 0 ≡ get_or b (n * width) 0 = get_or-take width (drop (n * width) b) 0 0 (omega arith) ∙ head_at b n in
    let e₁ : get_or (take width (drop (n * width) b)) 1 0 ≡ get_or b (n * width + 1) 0 = get_or-take width (drop (n * width) b) 1 0 (omega arith) ∙ get_or-drop (n * width) b 1 0 in
    omega (arith, e₀, e₁)

-- ---- images

-- the first n rows of a buffer are n rows
pub length_rows_of : (n : ℕ) (b : List ℕ) → length (rows_of n b) ≡ n
unfolding rows_of
length_rows_of zero b = refl
length_rows_of (suc n) b = ap suc (length_rows_of n (drop width b))

zeros_of : (b : List ℕ) → all_zero b ≡ true → b ≡ zeros (length b)
unfolding all_zero
zeros_of [] e = refl
zeros_of (x ∷ xs) e = go (eqb x 0) refl (zeros_of xs)
  where
    go : (t : Bool) → eqb x 0 ≡ t → (all_zero xs ≡ true → xs ≡ zeros (length xs)) → x ∷ xs ≡ 0 ∷ zeros (length xs)
    go true q ih = ap (λ (y : ℕ). y ∷ xs) (eqb-true x 0 q) ∙ ap (λ (l : List ℕ). 0 ∷ l) (ih (sym (pick_true (all_zero xs) false q) ∙ e))
    go false q ih =
        let f : false ≡ true = sym (pick_false (all_zero xs) false q) ∙ e in
        let z : ◌≡◌ {A = ℕ} 0 1 = cc in
        absurd (omega arith)

of_zeros : (n : ℕ) → all_zero (zeros n) ≡ true
unfolding all_zero
of_zeros zero = refl
of_zeros (suc n) = of_zeros n

head_zeros : (n : ℕ) → get_or (zeros n) 0 0 ≡ 0
head_zeros zero = refl
head_zeros (suc n) = refl

-- the image of a row and others
pub image_cons : (n : ℕ) (r : Row) (rs : List Row) → image width (n + width) (r ∷ rs) ≡ r ++ image width n rs
unfolding image flatten
image_cons n r rs =
    let e : n + width - suc (length rs) * width ≡ n - length rs * width = omega arith in
    rw e (append_assoc r (flatten rs) (zeros (n - length rs * width)))

-- the rows of an image fit
image_fits : (lo : ℕ) (rows : List Row) (b : List ℕ) → Table lo rows → b ≡ image width (length b) rows → length rows * width ≤ length b
image_fits lo rows b t e =
    let F : Filled width rows (length rows) b = record { words = e; count = refl; wide = table_wide lo rows t } in
    holds_fits F

-- the first row of an image, and the rest
module _ (lo : ℕ) (r : Row) (rs : List Row) (b : List ℕ) (t : Table lo (r ∷ rs)) (e : b ≡ image width (length b) (r ∷ rs)) where
  first_fits : suc (length rs) * width ≤ length b
  first_fits = image_fits lo (r ∷ rs) b t e

  b_is : b ≡ r ++ image width (length b - width) rs
  b_is =
      let s : length b ≡ length b - width + width = omega (arith, first_fits) in
      e ∙ ap (λ (j : ℕ). image width j (r ∷ rs)) s ∙ image_cons (length b - width) r rs

  -- the first row's words are the first of the buffer
  pub first_row : take width b ≡ r
  first_row = ap (take width) b_is ∙ take_at r (image width (length b - width) rs) width t.0

  rest_is : drop width b ≡ image width (length b - width) rs
  rest_is = ap (drop width) b_is ∙ drop_at r (image width (length b - width) rs) width t.0

  -- the words after it are the image of the other rows
  pub rest_image : drop width b ≡ image width (length (drop width b)) rs
  rest_image = rest_is ∙ ap (λ (j : ℕ). image width j rs) (sym (length-drop width b))

bad_not : {A : Type 0} (m : ℕ) (s : Option ℕ) → s ≡ None → s ≡ Some m → A
bad_not m s e f =
    let z : ◌≡◌ {A = ℕ} 0 1 = cc in
    absurd (omega arith)

module _ (names : List ℕ) where
  -- ---- a turn of the scan

  -- a zero where a row would begin: what is left must be zeros
  pub scan_ended : (f lo n : ℕ) (b : List ℕ) → get_or b 0 0 ≡ 0 → scan names f lo n b ≡ ended_at n b
  unfolding scan
  scan_ended zero lo n b e = refl
  scan_ended (suc f) lo n b e = pick_true (ended_at n b) (pick (row_ok names (take width b)) (pick (leb lo (key (take width b))) (scan names f (suc (key (take width b))) (suc n) (drop width b)) None) None) (eq-eqb (get_or b 0 0) 0 e)

  module _ (f lo n : ℕ) (b : List ℕ) (e : get_or b 0 0 ≡ 0 → ⊥) where
    scan_there : scan names (suc f) lo n b ≡ pick (row_ok names (take width b)) (pick (leb lo (key (take width b))) (scan names f (suc (key (take width b))) (suc n) (drop width b)) None) None
    unfolding scan
    scan_there =
        pick_false (ended_at n b) (pick (row_ok names (take width b)) (pick (leb lo (key (take width b))) (scan names f (suc (key (take width b))) (suc n) (drop width b)) None) None) (ne_eqb (get_or b 0 0) 0 e)

    -- a row that isn't in order by itself: None
    pub scan_bad_row : row_ok names (take width b) ≡ false → scan names (suc f) lo n b ≡ None
    scan_bad_row o = scan_there ∙ pick_false (pick (leb lo (key (take width b))) (scan names f (suc (key (take width b))) (suc n) (drop width b)) None) None o

    module _ (o : row_ok names (take width b) ≡ true) where
      scan_ok : scan names (suc f) lo n b ≡ pick (leb lo (key (take width b))) (scan names f (suc (key (take width b))) (suc n) (drop width b)) None
      scan_ok = scan_there ∙ pick_true (pick (leb lo (key (take width b))) (scan names f (suc (key (take width b))) (suc n) (drop width b)) None) None o

      -- a key below lo: None
      pub scan_bad_key : key (take width b) < lo → scan names (suc f) lo n b ≡ None
      scan_bad_key h = scan_ok ∙ pick_false (scan names f (suc (key (take width b))) (suc n) (drop width b)) None (lt-leb lo (key (take width b)) h)

      -- a row in order, with a key from lo on: the scan goes on after it
      pub scan_next : lo ≤ key (take width b) → scan names (suc f) lo n b ≡ scan names f (suc (key (take width b))) (suc n) (drop width b)
      scan_next h = scan_ok ∙ pick_true (scan names f (suc (key (take width b))) (suc n) (drop width b)) None (le-leb lo (key (take width b)) h)

  -- ---- the same from within a buffer b, at row n of the cap that fit

  module _ (b : List ℕ) (cap lo n : ℕ) where
    -- a zero at row n: what is left must be zeros
    pub turn_ended : get_or b (n * width) 0 ≡ 0 → scan names (cap - n) lo n (drop (n * width) b) ≡ ended_at n (drop (n * width) b)
    turn_ended e = scan_ended (cap - n) lo n (drop (n * width) b) (head_at b n ∙ e)

    -- as many rows as fit: what is left must be zeros
    pub turn_done : cap ≤ n → scan names (cap - n) lo n (drop (n * width) b) ≡ ended_at n (drop (n * width) b)
    unfolding scan
    turn_done h =
        let z : cap - n ≡ 0 = omega arith in
        rw z

    module _ (h : n < cap) (e : get_or b (n * width) 0 ≡ 0 → ⊥) where
      fuel : cap - n ≡ suc (cap - (n + 1))
      fuel = omega arith

      e' : get_or (drop (n * width) b) 0 0 ≡ 0 → ⊥
      e' z = e (sym (head_at b n) ∙ z)

      -- row n isn't in order by itself: None
      pub turn_bad_row : row_ok names (take width (drop (n * width) b)) ≡ false → scan names (cap - n) lo n (drop (n * width) b) ≡ None
      turn_bad_row o = rw fuel (scan_bad_row (cap - (n + 1)) lo n (drop (n * width) b) e' o)

      -- its key is below lo: None
      pub turn_bad_key : row_ok names (take width (drop (n * width) b)) ≡ true → key (take width (drop (n * width) b)) < lo → scan names (cap - n) lo n (drop (n * width) b) ≡ None
      turn_bad_key o k = rw fuel (scan_bad_key (cap - (n + 1)) lo n (drop (n * width) b) e' o k)

      -- it is in order, with a key from lo on: the scan goes on at row n + 1
      pub turn_next : row_ok names (take width (drop (n * width) b)) ≡ true → lo ≤ key (take width (drop (n * width) b))
          → scan names (cap - n) lo n (drop (n * width) b) ≡ scan names (cap - (n + 1)) (suc (key (take width (drop (n * width) b)))) (n + 1) (drop ((n + 1) * width) b)
      turn_next o k =
          let s : n * width + width ≡ (n + 1) * width = omega arith in
          rw fuel (scan_next (cap - (n + 1)) lo n (drop (n * width) b) e' o k ∙ ap (λ (l : List ℕ). scan names (cap - (n + 1)) (suc (key (take width (drop (n * width) b)))) (suc n) l) (drop-drop width (n * width) b ∙ ap (λ (i : ℕ). drop i b) s) ∙ ap (λ (m : ℕ). scan names (cap - (n + 1)) (suc (key (take width (drop (n * width) b)))) m (drop ((n + 1) * width) b)) (sym (add-one n)))

  -- ---- what it says yes to

  -- what a yes after n rows says of the rest: k more rows, from lo on, and zeros
  record Scanned (lo n m : ℕ) (b : List ℕ) : Type 0 where
    k : ℕ
    sum : m ≡ n + k
    table : Table lo (rows_of k b)
    ok : AllOk names (rows_of k b)
    words : b ≡ image width (length b) (rows_of k b)

  ended_sound : (lo n m : ℕ) (b : List ℕ) → ended_at n b ≡ Some m → Scanned lo n m b
  unfolding ended_at rows_of Each
  ended_sound lo n m b e = go (all_zero b) refl
    where
      go : (t : Bool) → all_zero b ≡ t → Scanned lo n m b
      go true q =
          let f : Some n ≡ Some m = sym (pick_true (Some n) None q) ∙ e in
          let f' : n ≡ m = cc in
          record { k = 0; sum = omega arith; table = tt; ok = tt; words = zeros_of b q ∙ sym (image_none width (length b)) }
      go false q =
          let f : None ≡ Some m = sym (pick_false (Some n) None q) ∙ e in
          let z : ◌≡◌ {A = ℕ} 0 1 = cc in
          absurd (omega arith)

  more_sound : (lo n m : ℕ) (b : List ℕ) → width ≤ length b → row_ok names (take width b) ≡ true → lo ≤ key (take width b)
      → Scanned (suc (key (take width b))) (suc n) m (drop width b) → Scanned lo n m b
  unfolding rows_of Each
  more_sound lo n m b fit o h S =
      let ld : length (drop width b) ≡ length b - width = length-drop width b in
      let le : length (drop width b) + width ≡ length b = omega arith in
      let whole : b ≡ image width (length (drop width b) + width) (take width b ∷ rows_of S.k (drop width b)) =
      sym (take-append-drop width b) ∙ ap (λ (l : List ℕ). take width b ++ l) S.words ∙ sym (image_cons (length (drop width b)) (take width b) (rows_of S.k (drop width b))) in
      record {
        k = suc S.k;
        sum = omega (arith, S.sum);
        table = (length-take-le width b fit, h, S.table);
        ok = (o, S.ok);
        words = whole ∙ ap (λ (j : ℕ). image width j (take width b ∷ rows_of S.k (drop width b))) le;
      }

  scan_sound : (f lo n m : ℕ) (b : List ℕ) → f * width ≤ length b → scan names f lo n b ≡ Some m → Scanned lo n m b
  unfolding scan
  scan_sound zero lo n m b fit e = ended_sound lo n m b e
  scan_sound (suc f) lo n m b fit e =
      go (eqb (get_or b 0 0) 0) refl (row_ok names (take width b)) refl (leb lo (key (take width b))) refl (scan_sound f (suc (key (take width b))) (suc n) m (drop width b) (omega (arith, length-drop width b)))
    where
      go : (s : Bool) → eqb (get_or b 0 0) 0 ≡ s → (t : Bool) → row_ok names (take width b) ≡ t → (u : Bool) → leb lo (key (take width b)) ≡ u
          → (scan names f (suc (key (take width b))) (suc n) (drop width b) ≡ Some m → Scanned (suc (key (take width b))) (suc n) m (drop width b)) → Scanned lo n m b
      go true q t r u v ih = ended_sound lo n m b (sym (scan_ended (suc f) lo n b (eqb-true (get_or b 0 0) 0 q)) ∙ e)
      go false q false r u v ih = bad_not m (scan names (suc f) lo n b) (scan_bad_row f lo n b (eqb-false (get_or b 0 0) 0 q) r) e
      go false q true r false v ih = bad_not m (scan names (suc f) lo n b) (scan_bad_key f lo n b (eqb-false (get_or b 0 0) 0 q) r (leb-false lo (key (take width b)) v)) e
      go false q true r true v ih =
          let h : lo ≤ key (take width b) = leb-true lo (key (take width b)) v in
          more_sound lo n m b (omega arith) r h (ih (sym (scan_next f lo n b (eqb-false (get_or b 0 0) 0 q) r h) ∙ e))

  -- a yes: the buffer holds the rows that stand in it, each in order by itself
  pub checked_sound : (n : ℕ) (b : List ℕ) → checked names b ≡ Some n → Lent names (rows_of n b) n b
  unfolding checked
  checked_sound n b e =
      let S : Scanned 1 0 n b = scan_sound (length b / width) 1 0 n b (omega arith) e in
      let k_is : S.k ≡ n = omega (arith, S.sum) in
      let t : Table 1 (rows_of n b) = rw k_is at S.table in
      let o : AllOk names (rows_of n b) = rw k_is at S.ok in
      let w : b ≡ image width (length b) (rows_of n b) = S.words ∙ ap (λ (j : ℕ). image width (length b) (rows_of j b)) k_is in
      record { holds = record { filled = record { words = w; count = length_rows_of n b; wide = table_wide 1 (rows_of n b) t }; table = table_down 0 1 (rows_of n b) zero-le t }; ok = o }

  -- ---- and that it says yes to every one

  -- a row in order has a first word
  ok_head : (r : Row) → row_ok names r ≡ true → get_or r 0 0 ≡ 0 → ⊥
  unfolding row_ok
  ok_head r o e =
      let low : leb 128 (kind_of (get_or r 0 0)) ≡ false = ap (λ (w : ℕ). leb 128 (kind_of w)) e in
      let g : false ≡ true = sym (pick_false (pick (leb (kind_of (get_or r 0 0)) 143) (kind_ok names (kind_of (get_or r 0 0) - 128) r) false) false low) ∙ o in
      let z : ◌≡◌ {A = ℕ} 0 1 = cc in
      omega arith

  ok_key : (r : Row) → row_ok names r ≡ true → 1 ≤ key r
  unfolding key
  ok_key r o = go (order 0 (get_or r 0 0))
    where
      go : (0 < get_or r 0 0) ⊎ (get_or r 0 0 ≤ 0) → 1 ≤ key_of (get_or r 0 0) (get_or r 1 0)
      go (inl h) = omega arith
      go (inr h) = absurd (ok_head r o (omega arith))

  table_one : (rows : List Row) → Table 0 rows → AllOk names rows → Table 1 rows
  unfolding Each
  table_one [] t o = tt
  table_one (r ∷ rs) t o = (t.0, ok_key r o.0, t.2)

  scan_complete : (f lo n : ℕ) (b : List ℕ) (rows : List Row) → f * width ≤ length b → length b < f * width + width → Table lo rows → AllOk names rows → b ≡ image width (length b) rows
      → scan names f lo n b ≡ Some (n + length rows)
  unfolding Each ended_at scan
  scan_complete f lo n b [] fit cap t o e =
      let z : b ≡ zeros (length b) = e ∙ image_none width (length b) in
      let h : get_or b 0 0 ≡ 0 = ap (λ (l : List ℕ). get_or l 0 0) z ∙ head_zeros (length b) in
      let a : all_zero b ≡ true = ap all_zero z ∙ of_zeros (length b) in
      let s : n ≡ n + 0 = omega arith in
      scan_ended f lo n b h ∙ pick_true (Some n) None a ∙ ap Some s
  scan_complete zero lo n b (r ∷ rs) fit cap t o e = absurd (omega (arith, image_fits lo (r ∷ rs) b t e))
  scan_complete (suc f) lo n b (r ∷ rs) fit cap t o e =
      let row : take width b ≡ r = first_row lo r rs b t e in
      let ok : row_ok names (take width b) ≡ true = ap (row_ok names) row ∙ o.0 in
      let h : get_or b 0 0 ≡ 0 → ⊥ = λ (z : get_or b 0 0 ≡ 0). ok_head (take width b) ok (get_or-take width b 0 0 (omega arith) ∙ z) in
      let k_is : key (take width b) ≡ key r = ap key row in
      let s : suc n + length rs ≡ n + suc (length rs) = omega arith in
      let t' : Table (suc (key (take width b))) rs = rw (ap suc k_is) t.2 in
      let ld : length (drop width b) ≡ length b - width = length-drop width b in
      scan_next f lo n b h ok (omega (arith, t.1))
      ∙ scan_complete f (suc (key (take width b))) (suc n) (drop width b) rs (omega arith) (omega arith) t' o.1 (rest_image lo r rs b t e)
      ∙ ap Some s

  -- a lent table of n rows is said to be one of n rows
  pub checked_complete : (rows : List Row) (n : ℕ) (b : List ℕ) → Lent names rows n b → checked names b ≡ Some n
  unfolding checked
  checked_complete rows n b L =
      let t : Table 1 rows = table_one rows L.holds.table L.ok in
      let s : 0 + length rows ≡ n = omega (arith, L.holds.filled.count) in
      scan_complete (length b / width) 1 0 b rows (omega arith) (omega arith) t L.ok L.holds.filled.words ∙ ap Some s

  -- ---- the rows that it gives

  -- a lent table's rows are its own
  pub lent_rows_lem : (rows : List Row) (n : ℕ) (b : List ℕ) → Lent names rows n b → lent_rows names b ≡ gives rows
  unfolding lent_rows
  lent_rows_lem rows n b L =
      ap (told b) (checked_complete rows n b L) ∙ ap gives (rows_filled L.holds.filled)
