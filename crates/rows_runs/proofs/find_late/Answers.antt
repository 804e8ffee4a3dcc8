-- `find_late` looks at the first row of the late run, and then into that run alone. Assumes nothing.
use Rattle.std.proofs.Common.{sym, ap, ◌∙◌, arith}
use Rattle.rows_table.specs.Buffers.{found_none}
use Rattle.rows_runs.specs.Runs.{row_in}
use Rattle.rows_runs.specs.Parts.{none_late, below_late, late_part, found_late}
use Rattle.rows_runs.proofs.find_late.Goals.{then-m-count-via-then-m-count, then-m-count-via-else-m-count+then-k-key_at}
use Rattle.rows_runs.proofs.find_late.Goals as goal

pub returns-then-m-count-clause-found : goal.returns-then-m-count-clause-found
returns-then-m-count-clause-found c = λ first late R. sym (elim c.then-m-count.branch [
  | then-m-count-via-then-m-count w ↦ none_late R c.args.k w.if-m-count.true
  | then-m-count-via-else-m-count+then-k-key_at w ↦ below_late R c.args.k w.key_at.result (omega (arith, w.if-m-count.false, c.requires.1)) w.key_at.ensures w.if-k-key_at.true
])

pub returns-clause-found : goal.returns-clause-found
returns-clause-found c = λ first late R. found_late R c.args.k c.in_ok-i.i c.in_ok-i.ensures.within (c.in_ok-i.ensures.found late (late_part R))

pub returns-in_err-i-clause-found : goal.returns-in_err-i-clause-found
returns-in_err-i-clause-found c =
    λ first late R. ap (row_in c.args.b.now) c.from_residual.ensures ∙ sym (found_none late _ _ (late_part R) c.args.k (c.in_err-i.ensures.found late (late_part R)))
