-- A whole tree: the refusals of `ruled`, or what `resolve_scan` writes. Assumes nothing.
use lib.ListN.{length}
use Rattle.std.proofs.lemmas.Result.{err_from_is_err_and}
use Rattle.entry_resolve.proofs.Laws.{stopped, all_shut, ready_all, all_told}
use Rattle.entry_resolve.proofs.program.Goals as goal

pub resolve_array_accesses-count-requires : goal.resolve_array_accesses-count-requires
resolve_array_accesses-count-requires c = rw (rw c.in_ok-held.was at c.ruled.ensures).0 (ready_all c.args.source.now.names.now c.args.source.now.words.now c.args.rows.now (length c.args.out.now) c.requires c.args.source.now.few (rw c.in_ok-held.was at c.ruled.ensures).1)

pub returns-in_err-held : goal.returns-in_err-held
returns-in_err-held c = let p = err_from_is_err_and c.from_residual.result c.from_residual.ensures.1 in rw (p.1, p.2) (stopped _ _ (all_shut c.args.source.now.names.now c.args.source.now.words.now c.args.rows.now (length c.args.out.now) c.requires _ (rw c.in_err-held.was at c.ruled.ensures)))

pub returns : goal.returns
returns c = all_told c.args.source.now.names.now c.args.source.now.words.now c.args.rows.now (length c.args.out.now) c.requires (rw c.in_ok-held.was at c.ruled.ensures).1 (rw (rw c.in_ok-held.was at c.ruled.ensures).0 at c.resolve_array_accesses-count.ensures)
