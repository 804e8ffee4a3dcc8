-- 6, 11 and 10, in this order, or the rows that passed. Assumes nothing.
use mathlib.Core.Path.{sym, ◌∙◌}
use Rattle.std.proofs.lemmas.Result.{err_from_is_err_and}
use Rattle.entry_resolve.proofs.Laws.{ruled_bad, ruled_no, ruled_short, rows_counted, rows_missing, checked_fit}
use Rattle.entry_resolve.proofs.ruled.Goals as goal

pub returns-then-not-right : goal.returns-then-not-right
returns-then-not-right c = ruled_no c.args.names.now c.args.rows.now c.args.right c.args.size c.args.room _ (sym c.check_rows.ensures ∙ rows_counted c.ok_or.ensures.value c.in_ok-count.was) c.if-not-right.true

pub returns-then-room-size : goal.returns-then-room-size
returns-then-room-size c = ruled_short c.args.names.now c.args.rows.now c.args.right c.args.size c.args.room _ (sym c.check_rows.ensures ∙ rows_counted c.ok_or.ensures.value c.in_ok-count.was) c.if-not-right.false c.if-room-size.true

pub returns-in_err-count : goal.returns-in_err-count
returns-in_err-count c = let p = err_from_is_err_and c.from_residual.result c.from_residual.ensures.1 in let m = rows_missing c.ok_or.ensures.value c.in_err-count.was in rw (p.1, p.2, m.1) (ruled_bad c.args.names.now c.args.rows.now c.args.right c.args.size c.args.room (sym c.check_rows.ensures ∙ m.0))

pub invariant_of-result : goal.invariant_of-result
invariant_of-result c = record { fits = checked_fit c.args.names.now c.args.rows.now (sym c.check_rows.ensures ∙ rows_counted c.ok_or.ensures.value c.in_ok-count.was) }
