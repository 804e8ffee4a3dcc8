-- lay_rows: the rows' lines, one after the other, 56 bytes each.
use Rattle.std.proofs.Common.{[], arith}
use Rattle.base_text.specs.Laws.{moved, items_none, items_more, items_all}
use Rattle.list_page.specs.Page.{line}
use Rattle.list_page.proofs.lay_rows.Goals as goal

pub loop-i-init : goal.loop-i-init
loop-i-init c = moved (omega arith) (items_none (line 84) c.args.rows.now)

pub loop-i-preserved : goal.loop-i-preserved
loop-i-preserved c = moved (omega arith) (items_more (line 84) c.args.rows.now c.loop-i.i [] c.loop-i-test.true c.loop-i.invariant c.lay_row.ensures)

pub returns : goal.returns
returns c = moved (omega arith) (items_all (line 84) c.args.rows.now c.loop-i.i c.loop-i-test.false c.loop-i.invariant)
