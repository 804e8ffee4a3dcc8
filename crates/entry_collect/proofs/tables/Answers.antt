-- Empty buffers, the walk, and zeros where it stopped: what is left of a whole run. Assumes nothing.
use Rattle.collect_scan.specs.Start.{start_ready}
use Rattle.entry_collect.proofs.Entry.{run_tabled}
use Rattle.entry_collect.proofs.tables.Goals as goal

pub statements-t-requires : goal.statements-t-requires
statements-t-requires c = (start_ready c.requires.0 c.begin-s.ensures, c.requires.1)

pub returns : goal.returns
returns c = run_tabled c.requires.0 c.begin-s.ensures c.statements-t.ensures c.finish.ensures
