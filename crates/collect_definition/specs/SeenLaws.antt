-- What collecting sees of a tree counts subscripts as the tree itself does.
use Rattle.std.specs.Prelude.{ℕ, ◌≡◌, refl}
use Rattle.tree_expr.specs.Expr.{Expr}
use Rattle.tree_stmt.specs.Tree.{Shape, Tree, over}
use Rattle.collect_subscript_count.specs.Subscripts.{in_expr, subscript_count}
use Rattle.collect_subscript_count.specs.Over.{subscript_count_over}
use Rattle.collect_definition.specs.Seen.{Seen, see}

-- `subscript_count` over what is seen of a tree is that over the tree
pub seen_count : {i : Shape} (name : ℕ) (v : Tree Expr i) → subscript_count (λ name (e : Seen). e.use_under name) name (over see v) ≡ subscript_count (λ name (e : Expr). in_expr name e) name v
unfolding see
seen_count name v = subscript_count_over see (λ name (e : Expr). in_expr name e) (λ name (e : Seen). e.use_under name) name (λ e. refl) v
