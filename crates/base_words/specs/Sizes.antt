-- The sizes of document 01. Exactly a size passes; one over is number 5, for the depth number 3.
use Rattle.std.specs.Prelude.{ℕ}

-- the words of a tree
abbrev pub max_words : ℕ
max_words = 8192

-- the strings of the table
abbrev pub max_strings : ℕ
max_strings = 1024

-- their bytes
abbrev pub max_bytes : ℕ
max_bytes = 16384

-- the erased names
abbrev pub max_erased : ℕ
max_erased = 1024

-- the deepest level: a top statement has depth 1, a statement or expression inside another is one deeper. Reading a whole program
-- (`program_at`, tree_stmt/specs/Reader.antt) begins with as many levels left
abbrev pub max_depth : ℕ
max_depth = 100
