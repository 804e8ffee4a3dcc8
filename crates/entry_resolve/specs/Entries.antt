-- The three functions as entries over lent strings, words and rows, into a lent output: 5 and 1, then 2 or 3, 6, 11, 10, and then the words.
-- These are definitions.
use Rattle.std.specs.Prelude.{ℕ, ◌-◌, Bool, ◌&&◌, ◌≡◌, List, ◌∷◌, leb, Result, Ok, Err}
use Rattle.std.proofs.Math.Bool.{true}
use Rattle.std.proofs.Math.ListN.{length}
use Rattle.std.proofs.lemmas.List.Edits.{sets}
use Rattle.base_words.specs.Word.{word_of}
use Rattle.base_words.specs.Sizes.{max_depth}
use Rattle.base_words.specs.Told.{Told, stops, gives, after, unless}
use Rattle.base_words.specs.Refusals.{refused}
use Rattle.base_strings.specs.Open.{Place, entry_of}
use Rattle.tree_expr.specs.Expr.{Expr, many, words, words_all}
use Rattle.tree_expr.specs.Got.{Got, got, wrong, deep}
use Rattle.tree_expr.specs.Reader.{expr_at, list_at}
use Rattle.tree_stmt.specs.Tree.{strings, words_t, Program}
use Rattle.entry_read.specs.Program.{program_of}
use Rattle.rows_table.specs.Rows.{Row}
use Rattle.rows_lent.specs.Rules.{is_marked, scope_ok}
use Rattle.rows_lent.specs.Lent.{lent_rows}
use Rattle.resolve_definition.specs.Tables.{Tables, places}
use Rattle.resolve_definition.specs.FromRows.{tables_of}
use Rattle.resolve_definition.specs.Resolve.{resolve_expr, resolve_args, resolve_array_accesses}
use Rattle.entry_resolve.specs.declared.Reached.{Reached}
use Rattle.base_words.specs.declared.Refusal.{Refusal}

-- what is read at a place, and the place past it
pub record Taken (A : Type 0) : Type 0 where
  pub tree : A
  pub end : ℕ

-- the words to write, and the reading place past what was read
pub record Written : Type 0 where
  pub words' : List ℕ
  pub end : ℕ

-- what was read, or number 2 or 3 with its place
unfoldable pub taken_of : {A : Type 0} → Got A → Told (Taken A)
taken_of (got a m) = gives (record { tree = a; end = m })
taken_of (wrong p) = stops 2 p
taken_of (deep p) = stops 3 p

-- 6, then 11 unless the scope and name are right, then 10 where the output is shorter than what was read
unfoldable pub ruling : (names rows : List ℕ) (right : Bool) (size room : ℕ) → Told (List Row)
ruling names rows right size room = after (lent_rows names rows) (λ (rs : List Row). unless right 11 0 (unless (leb size room) 10 0 (gives rs)))

-- what was read, written anew by f under the rows that passed
unfoldable pub rewritten : {A : Type 0} → (names rows : List ℕ) (right : Bool) (at room : ℕ) → (Tables → A → List ℕ) → Taken A → Told Written
unfolding ruling
rewritten names rows right at room f x = after (ruling names rows right (x.end - at) room) (λ (rs : List Row). gives (record { words' = f (tables_of rs) x.tree; end = x.end }))

-- names: for each string 1 where it is a name; room: the output's length
module _ (names ws rows : List ℕ) (room : ℕ) where
  abbrev expression_at : ℕ → Got Expr
  expression_at at = expr_at ws (strings names (length names)) max_depth at

  -- `resolve_expr`: the expression at a place, in a scope
  unfoldable pub resolve_expr_at : (scope at : ℕ) → Told Written
  unfolding taken_of rewritten
  resolve_expr_at scope at = after (taken_of (expression_at at)) (rewritten names rows (scope_ok names scope) at room (λ T e. words (resolve_expr T scope e)))

  -- `resolve_args`: the list of expressions at a place, as the arguments of that name
  unfoldable pub resolve_args_at : (scope name at : ℕ) → Told Written
  unfolding taken_of rewritten
  resolve_args_at scope name at =
      after (taken_of (list_at ws (strings names (length names)) expression_at at))
      (rewritten names rows (scope_ok names scope && is_marked names name) at room (λ T es. word_of 1 (many es) ∷ words_all (resolve_args T scope (places T name) es)))

  -- `resolve_array_accesses`: the whole tree, in the module's scope
  unfoldable pub resolve_all : Told Written
  unfolding rewritten
  resolve_all = after (program_of names ws) (λ (p : Program). rewritten names rows true 0 room (λ T q. words_t (resolve_array_accesses T 0 q)) (record { tree = p; end = length ws }))

-- ---- answers

-- document 01's number and place, or where reading and writing ended
unfoldable pub told : Result Reached Refusal → Told Reached
told (Ok r) = gives r
told (Err f) = refused f

-- the same of what the definition tells
unfoldable pub counted : Told Written → Told Reached
counted (stops n p) = stops n p
counted (gives w) = gives (record { end = w.end; count = length w.words' })

-- the output afterwards: as it came, or with the words from its start on
unfoldable pub written : List ℕ → Told Written → List ℕ
written out (stops n p) = out
written out (gives w) = sets out 0 w.words'

-- the answer and the output are what the definition u gives
pub record Tells (r : Result Reached Refusal) (out last : List ℕ) (u : Told Written) : Type 0 where
  pub answer : told r ≡ counted u
  pub output : last ≡ written out u

-- and before it, 5 and 1
pub record Rewrites (sized : Bool) (bytes ends : List ℕ) (r : Result Reached Refusal) (out last : List ℕ) (u : Told Written) : Type 0 where
  pub at : ℕ
  pub place : Place bytes ends at
  pub is : Tells r out last (entry_of sized at bytes ends u)
