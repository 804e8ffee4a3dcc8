-- Number 5: the sizes of what an entry takes. Exactly a size passes.
use Rattle.std.specs.Prelude.{ℕ, Bool, ◌&&◌, List, length, leb}
use Rattle.base_words.specs.Sizes.{max_words, max_strings, max_bytes, max_erased}

-- the string table
unfoldable pub sized_strings : List ℕ → List ℕ → Bool
sized_strings bytes ends = leb (length bytes) max_bytes && leb (length ends) max_strings

-- and a tree's words
unfoldable pub sized_tree : List ℕ → List ℕ → List ℕ → Bool
unfolding sized_strings
sized_tree bytes ends ws = sized_strings bytes ends && leb (length ws) max_words

-- and erased names
unfoldable pub sized_program : List ℕ → List ℕ → List ℕ → List ℕ → Bool
unfolding sized_tree
sized_program bytes ends ws erased = sized_tree bytes ends ws && leb (length erased) max_erased
