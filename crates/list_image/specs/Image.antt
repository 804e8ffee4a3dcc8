-- A program's image (document 01, "The listing program and the compiler's entry"): the words string count, tree words, erased count, ends,
-- tree, erased numbers, and then the string bytes, zeros to a whole word. These are definitions.
use Rattle.std.specs.Prelude.{ℕ, zero, suc, ◌+◌, ◌*◌, ◌/◌, Bool, true, ◌&&◌, List, [], ◌∷◌, eqb, leb, length, take, drop, get_or, Option as RustOption, None, Some}
use Rattle.std.proofs.Math.Option.{Option, none, some}
use Rattle.base_words.specs.Word.{pick}
use Rattle.base_words.specs.Sizes.{max_words, max_strings, max_bytes, max_erased}
use Rattle.list_image.specs.declared.Shape.{Shape}

-- what an image holds
pub record Image : Type 0 where
  pub bytes : List ℕ
  pub ends : List ℕ
  pub words : List ℕ
  pub erased : List ℕ

-- the little-endian word whose first byte stands at a place (`word_at` of tree_stmt/specs/Reader.antt reads a tree's word)
unfoldable pub word_at : List ℕ → ℕ → ℕ
word_at l i = get_or l i 0 + 256 * get_or l (i + 1) 0 + 65536 * get_or l (i + 2) 0 + 16777216 * get_or l (i + 3) 0

-- n words from a place on
unfoldable pub words_at : List ℕ → ℕ → ℕ → List ℕ
words_at l i zero = []
words_at l i (suc n) = word_at l i ∷ words_at l (i + 4) n

-- the three counts (`strings` of tree_stmt/specs/Tree.antt is a count with marks)
unfoldable pub strings : List ℕ → ℕ
strings l = word_at l 0

-- the count of tree words
unfoldable pub tree_words : List ℕ → ℕ
tree_words l = word_at l 4

-- the count of erased names
unfoldable pub erased_names : List ℕ → ℕ
erased_names l = word_at l 8

-- where what follows them starts (`erased_from` of entry_read/specs/Program.antt tests the erased names)
unfoldable pub tree_from : List ℕ → ℕ
tree_from l = 12 + 4 * strings l

-- where the erased numbers start
unfoldable pub erased_from : List ℕ → ℕ
erased_from l = tree_from l + 4 * tree_words l

-- where the string bytes start
unfoldable pub bytes_from : List ℕ → ℕ
bytes_from l = erased_from l + 4 * erased_names l

-- the last of some ends, 0 where there are none: the byte count, which stands nowhere else
unfoldable pub last_end : List ℕ → ℕ
last_end [] = 0
last_end (e ∷ []) = e
last_end (e ∷ f ∷ es) = last_end (f ∷ es)

-- a file's byte count: the last of its ends
unfoldable pub byte_count : List ℕ → ℕ
byte_count l = last_end (words_at l 12 (strings l))

-- what a file holds if it is an image
unfoldable pub parts : List ℕ → Image
parts l = record {
  bytes = take (byte_count l) (drop (bytes_from l) l);
  ends = words_at l 12 (strings l);
  words = words_at l (tree_from l) (tree_words l);
  erased = words_at l (erased_from l) (erased_names l);
}

-- whether all are zero (`zeros` of rows_table/specs/Rows.antt is so many zeros)
unfoldable pub zeros : List ℕ → Bool
zeros [] = true
zeros (x ∷ xs) = eqb x 0 && zeros xs

-- up to a whole word
unfoldable pub padded : ℕ → ℕ
padded n = (n + 3) / 4 * 4

-- within the sizes, of exactly the length that the counts and the last end say, the padding zero
unfoldable pub well : List ℕ → Bool
well l =
    leb (strings l) max_strings && (leb (tree_words l) max_words && (leb (erased_names l) max_erased && (leb (byte_count l) max_bytes
    && (eqb (length l) (bytes_from l + padded (byte_count l)) && zeros (drop (bytes_from l + byte_count l) l)))))

-- the image that a file is; any other file is malformed or oversized
unfoldable pub decode : List ℕ → Option Image
decode l = pick (well l) (some (parts l)) none

-- for contracts inside: the same as the code answers it, the counts
unfoldable pub opened : List ℕ → RustOption Shape
opened l = pick (well l) (Some (record { strings = strings l; words = tree_words l; erased = erased_names l; bytes = byte_count l })) None
