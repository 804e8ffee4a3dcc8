-- The tables, and then resolving under them; a stopped run is refused by its number. Assumes nothing.
use Rattle.entry_analyse.proofs.Laws.{stopped_zeroing, run_stopped, run_resolved, run_ready}
use Rattle.entry_analyse.proofs.run.Goals as goal

pub refusal-requires : goal.refusal-requires
refusal-requires c = stopped_zeroing c.requires.0 c.tables-s.ensures c.if-s-ne0.true

pub returns-then-s-ne0 : goal.returns-then-s-ne0
returns-then-s-ne0 c = run_stopped c.requires.0 c.requires.1 c.tables-s.ensures c.if-s-ne0.true c.refusal.ensures

pub invariant_of-kept : goal.invariant_of-kept
invariant_of-kept c = record { fits = (run_ready c.requires.0 c.requires.1 c.tables-s.ensures c.if-s-ne0.false).room.held }

pub resolve_with-count-requires : goal.resolve_with-count-requires
resolve_with-count-requires c = (run_ready c.requires.0 c.requires.1 c.tables-s.ensures c.if-s-ne0.false, c.requires.2)

pub returns : goal.returns
returns c = run_resolved c.requires.0 c.requires.1 c.tables-s.ensures c.if-s-ne0.false c.resolve_with-count.ensures
