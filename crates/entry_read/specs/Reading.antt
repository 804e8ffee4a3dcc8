-- One statement or one expression at a place: the node, or the number and the place that stop the call.
use Rattle.std.specs.Prelude.{ℕ, List, length, get_or, Ok, Err, Result}
use Rattle.base_words.specs.Sizes.{max_depth}
use Rattle.base_words.specs.Told.{Told, stops, gives}
use Rattle.base_words.specs.Refusals.{refused}
use Rattle.tree_expr.specs.Got.{Got, got, wrong, deep}
use Rattle.tree_expr.specs.Reader.{expr_at}
use Rattle.tree_stmt.specs.Tree.{strings}
use Rattle.tree_stmt.specs.Reader.{stmt_at}
use Rattle.entry_read.specs.declared.Node.{Node}
use Rattle.tree_expr.specs.Answer.{Step}
use Rattle.tree_expr.specs.declared.Misread.TheVariants.{Wrong, Deep}
use Rattle.base_words.specs.declared.Refusal.{Refusal}

-- what was read from `at`: its head word, its place, and the place past it
unfoldable pub node_of : {A : Type 0} → List ℕ → ℕ → Got A → Told Node
node_of ws at (got a m) = gives (record { head = get_or ws at 0; first = at; end = m })
node_of ws at (wrong p) = stops 2 p
node_of ws at (deep p) = stops 3 p

-- the same of the code's answer, which leaves the tree out
unfoldable pub node_of_step : List ℕ → ℕ → Step → Told Node
node_of_step ws at (Ok c) = gives (record { head = get_or ws at 0; first = at; end = c.at })
node_of_step ws at (Err (Wrong p)) = stops 2 p
node_of_step ws at (Err (Deep p)) = stops 3 p

-- ns: for each string 1 where it is a name. The node there has depth 1, and words may follow it.
unfoldable pub statement_of : List ℕ → List ℕ → ℕ → Told Node
unfolding node_of
statement_of ns ws at = node_of ws at (stmt_at ws ns (length ns) max_depth at)

-- the same for an expression
unfoldable pub expression_of : List ℕ → List ℕ → ℕ → Told Node
unfolding node_of
expression_of ns ws at = node_of ws at (expr_at ws (strings ns (length ns)) max_depth at)

-- document 01's number and values for each case of the answer
unfoldable pub told : Result Node Refusal → Told Node
told (Ok n) = gives n
told (Err r) = refused r

-- the place afterwards: past the node, or as it came
unfoldable pub moved_of : ℕ → Told Node → ℕ
moved_of at (gives n) = n.end
moved_of at (stops number place) = at
