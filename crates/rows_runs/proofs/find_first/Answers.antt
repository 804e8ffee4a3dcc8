-- `find_first` looks at the last row of the first run, and then into that run alone. Assumes nothing.
use Rattle.std.proofs.Common.{sym, arith}
use Rattle.rows_runs.specs.Parts.{none_first, beyond_first, first_holds, row_first, found_part}
use Rattle.rows_runs.proofs.find_first.Goals.{then-rows-eq0-via-then-rows-eq0, then-rows-eq0-via-else-rows-eq0+then-key-k}
use Rattle.rows_runs.proofs.find_first.Goals as goal

pub returns-then-rows-eq0-clause-found : goal.returns-then-rows-eq0-clause-found
returns-then-rows-eq0-clause-found c = λ first late n R. sym (elim c.then-rows-eq0.branch [
  | then-rows-eq0-via-then-rows-eq0 w ↦ none_first R c.args.k w.if-rows-eq0.true
  | then-rows-eq0-via-else-rows-eq0+then-key-k w ↦ beyond_first R c.args.k w.key.result (omega (arith, w.if-rows-eq0.false)) w.key.ensures w.if-key-k.true
])

pub returns-clause-found : goal.returns-clause-found
returns-clause-found c = λ first late n R. found_part c.args.rows.now.words.now (first_holds R) (row_first R) c.args.k c.find.result c.find.ensures.within (c.find.ensures.found first (first_holds R))
