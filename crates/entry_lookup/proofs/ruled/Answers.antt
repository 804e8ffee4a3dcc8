-- `ruled`: rows that pass are a table. Assumes nothing.
use mathlib.Core.Path.{refl}
use Rattle.entry_lookup.proofs.Laws.{rows_fit, rows_judged}
use Rattle.entry_lookup.proofs.ruled.Goals as goal

pub invariant_of-result : goal.invariant_of-result
invariant_of-result c = record { fits = rows_fit c.args.names.now c.args.rows.now c.args.q c.check_rows.ensures c.in_ok-count.ensures.ok_part }

pub returns-then-admits-clause-judged : goal.returns-then-admits-clause-judged
returns-then-admits-clause-judged c = rows_judged c.args.names.now c.args.rows.now c.args.q c.check_rows.ensures c.in_ok-count.ensures.ok_part _ refl refl c.if-admits.ensures
