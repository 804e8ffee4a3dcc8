-- What other crates use of a buffer that keeps a table. Assumes nothing.
use Rattle.std.specs.Prelude.{◌≡◌, refl, ◌⊎◌, List, ◌++◌, ℕ, ◌+◌, ◌-◌, ◌*◌, ◌%◌, ◌≤◌, ◌<◌, length, take, drop, get_or}
use Rattle.std.proofs.Common.{sym, ap, ◌∙◌, subst, inl, inr, arith, take_at, drop_at}
use Rattle.base_words.specs.Each.{Each}
use Rattle.rows_table.specs.Rows.{Row, width, key_of, Table, Holds, insert_all, remove}
use Rattle.rows_table.specs.Laws.{order, order₃}
use Rattle.rows_table.specs.Answers.{Removed}
use Rattle.rows_table.specs.Buffers.{removed_holds}
use Rattle.rows_table.specs.Images.{holds_fits}
use Rattle.rows_runs.specs.Runs.{row_of, Parted, Near, Last, Keeps, TakenOut}
use Rattle.rows_runs.specs.Places.{rows_filled, each_of, each_all}
use Rattle.rows_runs.specs.Parts.{runs_count, row_first, row_late, both_count, both_table, holds_runs, parts_all, runs_short, runs_order, first_less, late_less}

-- a table in one run is in two, wherever it is split
pub holds_parted : {rows : List Row} {n : ℕ} {buf : List ℕ} → Holds rows n buf → (m : ℕ) → m ≤ n → Parted rows m n buf
holds_parted {rows} H m h = record { first = take m rows; late = drop m rows; runs = holds_runs H m h; all = parts_all m H.table }

-- a buffer that holds a table keeps it
pub holds_keeps : {rows : List Row} {n : ℕ} {buf : List ℕ} → Holds rows n buf → Keeps rows n buf
holds_keeps {rows} {n} {buf} H = go (order n 32)
  where
    go : (n < 32) ⊎ (32 ≤ n) → Keeps rows n buf
    go (inl h) = record { at = 0; near = (omega arith, omega arith, omega arith, λ (e : ◌≡◌ {A = ℕ} 0 16). omega arith); parted = holds_parted H 0 (omega arith) }
    go (inr h) = record {
      at = n - n % 16;
      near = (omega arith, omega arith, omega arith, λ (e : n - n % 16 ≡ 16). omega arith);
      parted = holds_parted H (n - n % 16) (omega arith);
    }

module _ {rows : List Row} {n : ℕ} {buf : List ℕ} (K : Keeps rows n buf) where
  -- the rows fit the buffer
  pub keeps_fits : n * width ≤ length buf
  keeps_fits = holds_fits K.parted.runs.filled

  -- the table has n rows
  pub keeps_count : length rows ≡ n
  keeps_count = ap length K.parted.all ∙ both_count K.parted.runs

  -- its rows are in order
  pub keeps_table : Table 0 rows
  keeps_table = subst (Table 0) (sym K.parted.all) (both_table K.parted.runs)

  -- what holds of the rows of the buffer holds of the table's
  pub keeps_each : (P : Row → Type 0) → ((i : ℕ) → i < n → P (row_of buf i)) → Each P rows
  keeps_each P f =
      let m : ℕ = K.at in
      let A : Parted rows m n buf = K.parted in
      let c : m + length A.late ≡ n = runs_count A.runs in
      let first : Each P A.first = each_of P A.first (λ i h. subst P (row_first A.runs i (omega (arith, A.runs.split))) (f i (omega (arith, A.runs.split)))) in
      let late : Each P A.late = each_of P A.late (λ i h. subst P (row_late A.runs i (omega arith)) (f (m + i) (omega arith))) in
      subst (Each P) (sym A.all) (each_all P A.late A.first late first)

  -- fewer than 32 rows are in one run
  pub keeps_short : n < 32 → Holds rows n buf
  keeps_short h = runs_short K.parted.first K.parted.late K.parted.runs K.parted.all (omega (arith, K.near.0, K.near.1, K.near.3))

  -- ---- the number of rows in the first run, by the keys before the last block and at its beginning

  module _ (m : ℕ) (L : Last m n) where
    -- the first run ends with the last block or with the one before
    either : (K.at ≡ m) ⊎ (K.at + 16 ≡ m)
    either = go (order K.at m) L.1
      where
        go : (K.at < m) ⊎ (m ≤ K.at) → (n < 32) ⊎ (n < m + 16) → (K.at ≡ m) ⊎ (K.at + 16 ≡ m)
        go (inl q) (inl h) = absurd (omega (arith, L.0.0, L.0.1, L.0.3))
        go (inl q) (inr h) = inr (omega (arith, K.near.0, K.near.2, L.0.0))
        go (inr q) (inl h) = inl (omega (arith, K.near.0, K.near.1, K.near.3))
        go (inr q) (inr h) = inl (omega (arith, K.near.0, K.near.1, L.0.0))

    here : K.at ≡ m → Parted rows m n buf
    here e = subst (λ (j : ℕ). Parted rows j n buf) e K.parted

    -- 0 or 32 rows: the first run can't be a block shorter
    pub parted_short : m ≤ 32 → Parted rows m n buf
    parted_short h = go either
      where
        go : (K.at ≡ m) ⊎ (K.at + 16 ≡ m) → Parted rows m n buf
        go (inl e) = here e
        go (inr e) = absurd (omega (arith, K.near.0, K.near.3, L.0.3))

    module _ (x y : ℕ) (long : 32 < m) (e : x ≡ key_of (get_or buf ((m - 17) * width) 0) (get_or buf ((m - 17) * width + 1) 0)) (f : y ≡ key_of (get_or buf ((m - 16) * width) 0) (get_or buf ((m - 16) * width + 1) 0)) where
      -- the last block comes after the rows before it
      pub parted_order : x < y → Parted rows m n buf
      parted_order q = go either
        where
          go : (K.at ≡ m) ⊎ (K.at + 16 ≡ m) → Parted rows m n buf
          go (inl s) = here s
          go (inr s) =
              let A : Parted rows K.at n buf = K.parted in
              let i : m - 17 ≡ K.at - 1 = omega arith in
              let j : m - 16 ≡ K.at = omega arith in
              let H : Holds (insert_all A.late A.first) n buf =
              runs_order A.runs x y (omega arith) (omega (arith, L.0.1)) (e ∙ ap (λ (k : ℕ). key_of (get_or buf (k * width) 0) (get_or buf (k * width + 1) 0)) i) (
              f ∙ ap (λ (k : ℕ). key_of (get_or buf (k * width) 0) (get_or buf (k * width + 1) 0)) j) q in
              holds_parted (subst (λ (l : List Row). Holds l n buf) (sym A.all) H) m L.0.1

      -- it does not: it is the late run's
      pub parted_break : y ≤ x → Parted rows (m - 16) n buf
      parted_break q = go either
        where
          go : (K.at ≡ m) ⊎ (K.at + 16 ≡ m) → Parted rows (m - 16) n buf
          go (inl s) = absurd (omega (arith, first_less K.parted.runs (m - 17) (m - 16) x y (omega arith) (omega arith) e f))
          go (inr s) = subst (λ (j : ℕ). Parted rows j n buf) (omega arith) K.parted

    -- a last block whose keys do not rise is not the late run's (no block is so: the code's last test always holds)
    pub parted_never : (y z : ℕ) → 32 < m → y ≡ key_of (get_or buf ((m - 16) * width) 0) (get_or buf ((m - 16) * width + 1) 0) → z ≡ key_of (get_or buf ((m - 1) * width) 0) (get_or buf ((m - 1) * width + 1) 0)
        → z ≤ y → Parted rows m n buf
    parted_never y z long f g q = go either
      where
        go : (K.at ≡ m) ⊎ (K.at + 16 ≡ m) → Parted rows m n buf
        go (inl s) = here s
        go (inr s) = absurd (omega (arith, late_less K.parted.runs (m - 16) (m - 1) y z (omega arith) (omega arith) (omega (arith, L.0.1)) f g))

-- the block before the last is such a number too
pub near_before : (m n : ℕ) → Last m n → 32 < m → Near (m - 16) n
near_before m n L h = go L.1
  where
    go : (n < 32) ⊎ (n < m + 16) → Near (m - 16) n
    go (inl q) = absurd (omega (arith, L.0.1))
    go (inr q) = (omega (arith, L.0.0), omega (arith, L.0.1), omega arith, λ (e : m - 16 ≡ 16). omega arith)

-- two runs, the first of which has m rows, are one table
parted_same : {r₁ r₂ : List Row} {m n : ℕ} {buf : List ℕ} → Parted r₁ m n buf → Parted r₂ m n buf → r₁ ≡ r₂
parted_same {m = m} H K =
    let e : H.first ++ H.late ≡ K.first ++ K.late = sym (rows_filled H.runs.filled) ∙ rows_filled K.runs.filled in
    let f : H.first ≡ K.first = sym (take_at H.first H.late m H.runs.split) ∙ ap (take m) e ∙ take_at K.first K.late m K.runs.split in
    let l : H.late ≡ K.late = sym (drop_at H.first H.late m H.runs.split) ∙ ap (drop m) e ∙ drop_at K.first K.late m K.runs.split in
    H.all ∙ ap (λ (x : List Row). insert_all H.late x) f ∙ ap (λ (x : List Row). insert_all x K.first) l ∙ sym K.all

-- where a longer first run is in order too, it may be split there
parted_up : {r₁ r₂ : List Row} {a b n : ℕ} {buf : List ℕ} → Parted r₁ a n buf → Parted r₂ b n buf → a < b → Parted r₁ b n buf
parted_up {r₁} {r₂} {a} {b} {n} {buf} H K h = go (order 0 a)
  where
    end : b ≤ n
    end = omega (arith, runs_count K.runs)

    go : (0 < a) ⊎ (a ≤ 0) → Parted r₁ b n buf
    go (inl q) =
        let O : Holds (insert_all H.late H.first) n buf = runs_order H.runs _ _ q (omega (arith, end)) refl refl (first_less K.runs (a - 1) a _ _ (omega arith) h refl refl) in
        holds_parted (subst (λ (l : List Row). Holds l n buf) (sym H.all) O) b end
    go (inr q) = holds_parted (runs_short H.first H.late H.runs H.all (omega arith)) b end

-- a buffer keeps one table
pub keeps_same : {r₁ r₂ : List Row} {n : ℕ} {buf : List ℕ} → Keeps r₁ n buf → Keeps r₂ n buf → r₁ ≡ r₂
keeps_same {r₁} {r₂} {n} {buf} H K = go (order₃ H.at K.at)
  where
    go : (H.at < K.at) ⊎ ((H.at ≡ K.at) ⊎ (K.at < H.at)) → r₁ ≡ r₂
    go (inl q) = parted_same (parted_up H.parted K.parted q) K.parted
    go (inr (inl q)) = parted_same (subst (λ (m : ℕ). Parted r₁ m n buf) q H.parted) K.parted
    go (inr (inr q)) = parted_same H.parted (parted_up K.parted H.parted q)

-- ---- what the functions here use

-- rows taken out of one run
pub out_holds : {rows : List Row} {n : ℕ} {buf after : List ℕ} {m : ℕ} → Holds rows n buf → (lo hi : ℕ) → lo ≤ hi → Removed lo hi rows (length buf) m after → TakenOut (remove lo hi rows) m after
out_holds {rows} {n} {buf} {after} {m} H lo hi h R = record { answer = R.answer; after = holds_keeps (removed_holds rows n buf H lo hi m h after R) }
