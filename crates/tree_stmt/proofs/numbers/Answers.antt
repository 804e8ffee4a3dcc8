-- `numbers`: the rows of both tables, one after the other, by computation. Assumes nothing.
use mathlib.Core.List.{List, []}
use mathlib.Core.Path.{ap, ◌∙◌}
use Prim.Native.Nat.{ℕ, ◌-◌, ◌<◌}
use native.Mathlib.Omega.{arith}
use lib.ListN.{get_or}
use Rattle.tree_stmt.specs.Codes.{part_codes, stmt_codes}
use Rattle.tree_stmt.specs.Memo.{zero_at}
use Rattle.tree_stmt.proofs.Steps.{get_d_any}
use Rattle.tree_stmt.proofs.Tables.{no_row, codes_part, codes_stmt}
use Rattle.tree_stmt.proofs.numbers.Goals as goal

pub returns-then-row-lt39 : goal.returns-then-row-lt39
unfolding part_codes
returns-then-row-lt39 c = λ i. ap (λ (l : List ℕ). get_or l i 0) (get_d_any part_codes c.args.row _ [] c.if-row-lt39.true ∙ codes_part c.args.row c.if-row-lt39.true)

pub returns-then-row-lt93 : goal.returns-then-row-lt93
unfolding stmt_codes
returns-then-row-lt93 c =
    let h : c.args.row - 39 < 54 = omega arith in
    λ i. ap (λ (l : List ℕ). get_or l i 0) (get_d_any stmt_codes (c.args.row - 39) _ [] h ∙ codes_stmt c.args.row c.if-row-lt39.false)

pub returns-else-row-lt93 : goal.returns-else-row-lt93
returns-else-row-lt93 c = λ i. zero_at 6 i ∙ no_row c.args.row i c.if-row-lt93.false
