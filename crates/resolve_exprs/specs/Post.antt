-- What the contracts of resolving expressions cite. These are definitions.
use Rattle.std.specs.Prelude.{ℕ, ◌+◌, ◌*◌, ◌≤◌, ◌≡◌, List, length, Bool}
use Rattle.std.proofs.lemmas.List.Edits.{sets}
use Rattle.tree_expr.specs.Expr.{Strings, Expr, Exprs, many, words, words_all}
use Rattle.tree_expr.specs.Stands.{Stands, StandsAll}
use Rattle.rows_table.specs.Rows.{Row, width, Holds}
use Rattle.resolve_definition.specs.Tables.{Tables, places}
use Rattle.resolve_definition.specs.FromRows.{tables_of}
use Rattle.resolve_definition.specs.Resolve.{resolve_expr, resolve_args}
use Rattle.resolve_exprs.specs.Node.{pair_of}

-- the buffer holds rows, and the output has room: it is as long as the tree, writing is not past reading, and resolving lengthens nothing
pub record Room (ws buf : List ℕ) (count scope at to size : ℕ) : Type 0 where
  pub rows : List Row
  pub holds : Holds rows count buf
  pub held : count * width ≤ length buf
  pub scoped : scope ≤ 16777216
  pub behind : to ≤ at
  pub fits : length ws ≤ size

-- some expression stands there
pub record Some (ws : List ℕ) (at : ℕ) : Type 0 where
  pub strings : Strings
  pub tree : Expr
  pub end : ℕ
  pub stands : Stands ws strings at tree end

-- some expression stands there, and there is room
pub record Ready (ws buf : List ℕ) (count scope at to size : ℕ) : Type 0 where
  pub some : Some ws at
  pub room : Room ws buf count scope at to size

-- so many expressions stand there
pub record ReadyAll (ws buf : List ℕ) (count scope at to size k : ℕ) : Type 0 where
  pub strings : Strings
  pub trees : Exprs
  pub end : ℕ
  pub stands : StandsAll ws strings at trees end
  pub counted : many trees ≡ k
  pub room : Room ws buf count scope at to size

-- the words xs are written from `to` on, all others stay; reading ended at `end`
pub record Put (xs out last : List ℕ) (to at' to' end : ℕ) : Type 0 where
  pub past : at' ≡ end
  pub upto : to' ≡ to + length xs
  pub now : last ≡ sets out to xs

-- whatever rows the buffer holds, and whatever expression stands there
pub record Resolved (ws buf out last : List ℕ) (count scope at to at' to' : ℕ) : Type 0 where
  pub gives : (rows : List Row) → Holds rows count buf → (n : Strings) (e : Expr) (end : ℕ) → Stands ws n at e end → Put (words (resolve_expr (tables_of rows) scope e)) out last to at' to' end

-- and whatever arguments of f
pub record ResolvedArgs (f k : ℕ) (ws buf out last : List ℕ) (count scope at to at' to' : ℕ) : Type 0 where
  pub gives : (rows : List Row) → Holds rows count buf → (n : Strings) (es : Exprs) (end : ℕ) → StandsAll ws n at es end → many es ≡ k → Put (words_all (resolve_args (tables_of rows) scope (places (tables_of rows) f) es)) out last to at' to' end

-- the pair of the argument there is written where k says `by_ref`, and h is how many words that is
pub record Paired (k : Tables → Bool) (ws buf out last : List ℕ) (count at to h : ℕ) : Type 0 where
  pub gives : (rows : List Row) → Holds rows count buf → (n : Strings) (e : Expr) (end : ℕ) → Stands ws n at e end → (h ≡ length (pair_of (k (tables_of rows)) e)) × (last ≡ sets out to (pair_of (k (tables_of rows)) e))
