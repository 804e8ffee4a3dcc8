-- Empty buffers, the walk, the rows put in order, the collision check, and zeros where it stopped. Assumes nothing.
use mathlib.Core.List.{[]}
use Rattle.collect_scan.specs.Start.{start_ready}
use Rattle.entry_analyse.proofs.Laws.{check_ready, tabled}
use Rattle.entry_analyse.proofs.tables.Goals as goal

pub statements-c-requires : goal.statements-c-requires
statements-c-requires c = (start_ready c.requires.0 c.begin_in-s.ensures, c.requires.1)

pub collisions-d-requires : goal.collisions-d-requires
collisions-d-requires c = check_ready c.requires.0 c.statements-c.ensures.kept c.settle.ensures

pub finish-requires : goal.finish-requires
finish-requires c = (c.collisions-d.ensures.does []).fit.0

pub returns : goal.returns
returns c = tabled c.requires.0 c.begin_in-s.ensures c.statements-c.ensures c.settle.ensures c.collisions-d.ensures c.finish.ensures
