-- What a buffer keeps while rows are entered. These are definitions, for contracts inside and proofs.
use Rattle.std.specs.Prelude.{◌≡◌, true, ◌⊎◌, List, ◌++◌, ℕ, ◌+◌, ◌*◌, ◌%◌, ◌≤◌, ◌<◌, length, take, drop, Option as RustOption, Some, None}
use Rattle.std.proofs.Math.Option.{Option, none, some}
use Rattle.base_words.specs.Word.{pick}
use Rattle.rows_table.specs.Rows.{Row, width, Table, find, insert_all, Filled}
use Rattle.rows_merge.specs.Merge.{Apart}
use Rattle.rows_table.specs.Answers.{Fits}
use Rattle.rows_table.specs.declared.rows.Rows.{Rows}

-- the row at place i
abbrev pub row_of : List ℕ → ℕ → Row
row_of buf i = take width (drop (i * width) buf)

-- the row that was found
abbrev pub row_in : List ℕ → RustOption ℕ → Option Row
row_in buf None = none
row_in buf (Some i) = some (row_of buf i)

-- the buffer has two runs of rows, one after the other, each in order; they share no key, and m of the n rows are in the first
pub record Runs (first late : List Row) (m n : ℕ) (buf : List ℕ) : Type 0 where
  pub filled : Filled width (first ++ late) n buf
  pub split : length first ≡ m
  pub first_table : Table 0 first
  pub late_table : Table 0 late
  pub apart : Apart late first

-- so many of n rows may be the first run: whole blocks of 16, none or at least two, so that a new row moves at most 31
abbrev pub Near : ℕ → ℕ → Type 0
Near m n = (m % 16 ≡ 0) × (m ≤ n) × (n < m + 32) × (m ≡ 16 → ⊥)

-- and there is no such number above m
abbrev pub Last : ℕ → ℕ → Type 0
Last m n = Near m n × ((n < 32) ⊎ (n < m + 16))

-- the table is that of both runs, the first of m rows
pub record Parted (rows : List Row) (m n : ℕ) (buf : List ℕ) : Type 0 where
  pub first : List Row
  pub late : List Row
  pub runs : Runs first late m n buf
  pub all : rows ≡ insert_all late first

-- the buffer keeps this table of n rows
pub record Keeps (rows : List Row) (n : ℕ) (buf : List ℕ) : Type 0 where
  pub at : ℕ
  pub near : Near at n
  pub parted : Parted rows at n buf

-- the buffer's rows keep this table
abbrev pub KeptIn : List Row → Rows → Type 0
KeptIn rs rows = Keeps rs rows.count rows.words.now

-- a row that was found is the table's; where none was, the first run has none with the key
abbrev pub Old : (k : ℕ) (rows first : List Row) → List ℕ → RustOption ℕ → Type 0
Old k rows first buf None = find k first ≡ none
Old k rows first buf (Some i) = some (row_of buf i) ≡ find k rows

-- rows put in, which leave the rows `new`: None only where these do not fit, and then the buffer has no meaning any more
pub record PutIn (new : List Row) (n : ℕ) (r : RustOption ℕ) (buf : List ℕ) : Type 0 where
  pub answer : r ≡ pick (Fits n new) (Some (length new)) None
  pub after : Fits n new ≡ true → Keeps new (length new) buf

-- rows taken out
pub record TakenOut (new : List Row) (r : ℕ) (buf : List ℕ) : Type 0 where
  pub answer : r ≡ length new
  pub after : Keeps new r buf
