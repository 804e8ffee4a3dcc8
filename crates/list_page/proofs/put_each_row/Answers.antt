-- put_each_row: the rows' lines, one after the other.
use Rattle.std.proofs.Common.{[]}
use Rattle.list_page.specs.Page.{line}
use Rattle.base_text.specs.Laws.{items_none, items_more, items_all}
use Rattle.list_page.proofs.put_each_row.Goals as goal

pub loop-row-init : goal.loop-row-init
loop-row-init c = items_none (line 84) c.args.rows.now

pub loop-row-preserved : goal.loop-row-preserved
loop-row-preserved c = items_more (line 84) c.args.rows.now _ [] c.loop-row-test.true c.loop-row.invariant c.put_line-next.ensures

pub returns : goal.returns
returns c = items_all (line 84) c.args.rows.now _ c.loop-row-test.false c.loop-row.invariant
