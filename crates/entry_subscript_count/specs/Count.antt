-- `subscript_count` as an entry: the number and the place that stop the call, or the first use. Definitions only.
use Rattle.std.specs.Prelude.{ℕ, ◌≡◌, List, length, Option as RustOption, Result, Ok, Some, None, Err}
use Rattle.std.proofs.Math.Option.{Option, none as nothing, some}
use Rattle.tree_stmt.specs.Tree.{Program}
use Rattle.base_words.specs.Told.{Told, gives, after, unless}
use Rattle.base_words.specs.Refusals.{refused}
use Rattle.tree_expr.specs.Expr.{Expr}
use Rattle.tree_expr.specs.Got.{got}
use Rattle.tree_stmt.specs.Reader.{program_at}
use Rattle.entry_read.specs.Program.{program_of}
use Rattle.rows_lent.specs.Rules.{is_marked}
use Rattle.collect_subscript_count.specs.Subscripts.{in_expr, subscript_count}
use Rattle.base_words.specs.declared.Refusal.{Refusal}

-- ns: for each string 1 where it is a name. Numbers 2 or 3, then 11; the words are the body's and no more.
unfoldable pub count_of : (ns ws : List ℕ) (name : ℕ) → Told (Option ℕ)
count_of ns ws name = after (program_of ns ws) (λ (p : Program). unless (is_marked ns name) 11 0 (gives (subscript_count (λ name (e : Expr). in_expr name e) name p)))

-- document 01's number and values for each case of the answer
unfoldable pub told : Result (RustOption ℕ) Refusal → Told (Option ℕ)
told (Ok (Some n)) = gives (some n)
told (Ok None) = gives nothing
told (Err r) = refused r

-- a body was read, up to `at`
pub record WasRead (ns ws : List ℕ) (at : ℕ) : Type 0 where
  pub body : Program
  pub reads : program_at ws ns (length ns) ≡ got body at
