-- put_notes: the lines of the diagnostics, one after the other.
use Rattle.std.proofs.Common.{[]}
use Rattle.base_text.specs.Laws.{items_none, items_more, items_all}
use Rattle.list_page.proofs.put_notes.Goals as goal

pub loop-note-init : goal.loop-note-init
loop-note-init c = items_none _ c.args.notes.now

pub loop-note-preserved : goal.loop-note-preserved
loop-note-preserved c = items_more _ c.args.notes.now _ [] c.loop-note-test.true c.loop-note.invariant (rw c.diag.ensures at c.put_diag-next.ensures)

pub returns : goal.returns
returns c = items_all _ c.args.notes.now _ c.loop-note-test.false c.loop-note.invariant
