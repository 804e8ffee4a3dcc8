-- The table of document 01: rows of `width` words, strictly rising by their first two, in a buffer that is zero past the last. Diagnostics
-- stand in their own buffer, in the order in which they were pushed, and it too is zero past the last. These are definitions.
use Rattle.std.specs.Prelude.{◌≡◌, List, [], ◌∷◌, ◌++◌, ℕ, zero, suc, ◌+◌, ◌-◌, ◌*◌, ◌≤◌, leb, ltb, eqb, length, take, drop, get_or, replicate}
use Rattle.std.proofs.Math.Option.{Option, none, some}
use Rattle.base_words.specs.Word.{pick, flatten}

-- the words of a row: the one place where the width is said
abbrev pub width : ℕ
width = 6

-- the words of a diagnostic, here called a note (document 01's note, the N line, is `note_line` in list_message/specs/Message.antt)
abbrev pub note_width : ℕ
note_width = 6

-- a row is its words
abbrev pub Row : Type 0
Row = List ℕ

-- two words of 32 bits as one number, whose order is the words' lexicographic order
abbrev pub key_of : ℕ → ℕ → ℕ
key_of a b = a * 4294967296 + b

-- a row's key: its first two words
unfoldable pub key : Row → ℕ
key r = key_of (get_or r 0 0) (get_or r 1 0)

-- for the other entries, contracts inside and proofs: each row has w words
abbrev pub Wide : ℕ → List Row → Type 0
Wide w [] = Unit {0}
Wide w (r ∷ rs) = (length r ≡ w) × Wide w rs

-- for the other entries, contracts inside and proofs. `Table b rows`: each row has `width` words, and the keys rise strictly, from b on
abbrev pub Table : ℕ → List Row → Type 0
Table b [] = Unit {0}
Table b (r ∷ rs) = (length r ≡ width) × (b ≤ key r) × Table (suc (key r)) rs

-- for contracts inside and proofs: how many rows stand before the key k, the place where it is, or would go (no array's rank)
unfoldable pub rank : ℕ → List Row → ℕ
rank k [] = zero
rank k (r ∷ rs) = pick (ltb (key r) k) (suc (rank k rs)) zero

-- the row with the key k
unfoldable pub find : ℕ → List Row → Option Row
find k [] = none
find k (r ∷ rs) = pick (eqb (key r) k) (some r) (find k rs)

-- the row put in order, in the place of the one with its key where there is one
unfoldable pub insert : Row → List Row → List Row
insert r [] = r ∷ []
insert r (x ∷ xs) = pick (ltb (key x) (key r)) (x ∷ insert r xs) (pick (eqb (key x) (key r)) (r ∷ xs) (r ∷ x ∷ xs))

-- several rows, in turn
unfoldable pub insert_all : List Row → List Row → List Row
insert_all [] rows = rows
insert_all (r ∷ rs) rows = insert_all rs (insert r rows)

-- the rows without those whose keys are at least lo and below hi
unfoldable pub remove : ℕ → ℕ → List Row → List Row
remove lo hi [] = []
remove lo hi (x ∷ xs) = pick (leb lo (key x)) (pick (ltb (key x) hi) (remove lo hi xs) (x ∷ remove lo hi xs)) (x ∷ remove lo hi xs)

-- a redefinition, all in one entry: the old rows go first
unfoldable pub replace : ℕ → ℕ → List Row → List Row → List Row
replace lo hi new rows = insert_all new (remove lo hi rows)

-- ---- rows in a buffer: for the other entries' contracts, contracts inside and proofs. The listing needs `zeros` alone

-- n zeros (`zeros` of list_image/specs/Image.antt tests for them)
abbrev pub zeros : ℕ → List ℕ
zeros n = replicate n 0

-- a buffer of n words that holds rows of w words: the rows, and then zeros, also where too few words are left for one more.
-- (`Image` of list_image/specs/Image.antt is a program's.)
unfoldable pub image : ℕ → ℕ → List Row → List ℕ
image w n rows = flatten rows ++ zeros (n - length rows * w)

-- the first n rows of a buffer (`rows_of` of tree_views/specs/View.antt goes through rows of fields)
unfoldable pub rows_of : ℕ → List ℕ → List Row
rows_of zero b = []
rows_of (suc n) b = take width b ∷ rows_of n (drop width b)

-- the buffer holds these n rows of w words, and zeros after them
pub record Filled (w : ℕ) (rows : List Row) (n : ℕ) (buf : List ℕ) : Type 0 where
  pub words : buf ≡ image w (length buf) rows
  pub count : length rows ≡ n
  pub wide : Wide w rows

-- the buffer holds this table of n rows
pub record Holds (rows : List Row) (n : ℕ) (buf : List ℕ) : Type 0 where
  pub filled : Filled width rows n buf
  pub table : Table 0 rows
