-- Fewer than 32 rows are one run; else `find_long` finds it. Assumes nothing.
use Rattle.rows_runs.specs.Laws.{keeps_short}
use Rattle.rows_runs.specs.Places.{row_filled}
use Rattle.rows_runs.specs.Parts.{found_part}
use Rattle.rows_runs.proofs.find.Goals as goal

pub returns-then-rows-lt32-clause-found : goal.returns-then-rows-lt32-clause-found
returns-then-rows-lt32-clause-found c = λ rows K.
    let H = keeps_short K c.if-rows-lt32.true in
    found_part c.args.rows.now.words.now H (row_filled H.filled) c.args.k c.find.result c.find.ensures.within (c.find.ensures.found rows H)
