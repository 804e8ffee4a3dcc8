-- A fresh run over lent rows, which leaves zeros where it is stopped. Assumes nothing.
use native.Mathlib.Omega.{arith}
use Rattle.rows_table.specs.Images.{holds_fits}
use Rattle.entry_collisions.proofs.EntryLaws.{ready, over_fine, over_full}
use Rattle.entry_collisions.proofs.over.Goals as goal

pub collisions-t-requires : goal.collisions-t-requires
collisions-t-requires c = (ready c.requires, (holds_fits c.requires.lent.holds.filled, omega arith))

pub returns-then-t-ne0 : goal.returns-then-t-ne0
returns-then-t-ne0 c = over_full c.requires (c.args.d.now) c.empty.auto.b c.empty.ensures.2 c.collisions-t.ensures c.if-t-ne0.true c.empty-then-t-ne0.ensures.0

pub returns : goal.returns
returns c = over_fine c.requires (c.args.d.now) c.empty.auto.b c.empty.ensures.2 c.collisions-t.ensures c.if-t-ne0.false
