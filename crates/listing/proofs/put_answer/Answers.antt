-- put_answer: the text of what the answer and the buffers tell, by the answer's case.
use mathlib.Core.Path.{sym}
use lib.Seq.{length-take-le}
use Rattle.listing.proofs.Laws.{text_refused, text_done, within_done}
use Rattle.listing.proofs.put_answer.Goals as goal

pub slice_bounds-put_page-end : goal.slice_bounds-put_page-end
slice_bounds-put_page-end c = sym (length-take-le _ _ (within_done c.args.a c.in-Ok.n c.args.notes.now c.args.rows.now c.args.words.now c.in-Ok.is c.requires).2)

pub put_page-requires : goal.put_page-requires
put_page-requires c = (let w = within_done c.args.a c.in-Ok.n c.args.notes.now c.args.rows.now c.args.words.now c.in-Ok.is c.requires in (w.0, w.1))

pub returns-in-Err : goal.returns-in-Err
returns-in-Err c = text_refused c.args.strings.now.bytes.now c.args.strings.now.ends.now c.args.notes.now c.args.rows.now c.args.words.now c.in-Err.is c.number.ensures c.put_refusal.ensures

pub returns-in-Ok : goal.returns-in-Ok
returns-in-Ok c = text_done c.args.strings.now.bytes.now c.args.strings.now.ends.now c.args.notes.now c.args.rows.now c.args.words.now c.in-Ok.is c.put_page.ensures
