-- `settle` joins the two runs. Assumes nothing.
use mathlib.Core.Path.{sym, subst}
use mathlib.Core.List.{List}
use Rattle.rows_table.specs.Rows.{Row, Holds}
use Rattle.rows_runs.specs.Laws.{keeps_short}
use Rattle.rows_runs.proofs.settle.Goals as goal

pub returns-then-count-lt32 : goal.returns-then-count-lt32
returns-then-count-lt32 c = λ rows K. keeps_short K c.if-count-lt32.true

pub returns : goal.returns
returns c =
    λ rows K.
    let P = c.split-m.ensures.parted rows K in
    subst (λ (l : List Row). Holds l c.args.count c.join.new.b) (sym P.all) (c.join.ensures P.first P.late P.runs)
