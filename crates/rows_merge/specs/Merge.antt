-- Two tables that share no key, and one of them half merged into the other. These are definitions.
use Rattle.std.specs.Prelude.{◌≡◌, List, [], ◌∷◌, ◌++◌, ℕ, ◌+◌, ◌-◌, ◌*◌, ◌≤◌, length, take, drop}
use Rattle.std.proofs.Math.Option.{none}
use Rattle.base_words.specs.Word.{flatten}
use Rattle.rows_table.specs.Rows.{Row, width, key, Table, find, insert_all, zeros}

-- no row of the first has the key of one of the second
unfoldable pub Apart : List Row → List Row → Type 0
Apart [] rows = Unit {0}
Apart (r ∷ rs) rows = (find (key r) rows ≡ none) × Apart rs rows

-- for contracts inside and proofs: of the `count` rows the first i are still in their places, of the m more the first j are still to come, and
-- all others stand in order at the end of where the rows will be
pub record Merging (rows more : List Row) (count m i j : ℕ) (b : List ℕ) : Type 0 where
  pub table : Table 0 rows
  pub apart : Apart more rows
  pub front : take (i * width) b ≡ flatten (take i rows)
  pub rest : List Row
  pub back : drop ((i + j) * width) b ≡ flatten rest ++ zeros (length b - (count + m) * width)
  pub left : insert_all more rows ≡ insert_all (take j more) (take i rows) ++ rest
  pub few : i ≤ length rows
  pub come : j ≤ length more
  pub total : length rest + (i + j) ≡ count + m
