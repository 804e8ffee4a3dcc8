-- Number 6, or the run. Assumes nothing.
use mathlib.Core.Path.{ap, ◌∙◌}
use Rattle.std.specs.Result.{result_ok}
use Rattle.entry_collisions.proofs.EntryLaws.{no_rows, rows_bad, lent_ready, rows_fine}
use Rattle.entry_collisions.proofs.under.Goals as goal

pub over-requires : goal.over-requires
over-requires c = lent_ready c.args.rows.now c.requires c.check_rows.ensures (c.ok_or.ensures.ok_part ∙ ap result_ok c.in_ok-n.was)

pub returns-in_err-n : goal.returns-in_err-n
returns-in_err-n c =
    let q = no_rows c.ok_or.ensures.value c.in_err-n.was c.from_residual.ensures.1 in
    rw q.1 (rows_bad c.args.rows.now c.requires c.check_rows.ensures c.args.d.now q.0)

pub returns : goal.returns
returns c = rows_fine c.args.rows.now c.requires c.check_rows.ensures (c.ok_or.ensures.ok_part ∙ ap result_ok c.in_ok-n.was) c.over.ensures
