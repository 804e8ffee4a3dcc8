-- put_page: the three parts, one after the other; the rows of a buffer are its words cut into arrays.
use Rattle.std.proofs.Common.{◌≡◌, ◌∙◌, sym}
use Rattle.base_text.specs.Laws.{then}
use Rattle.list_page.specs.Page.{page}
use Rattle.list_page.specs.Chunks.{chunks}
use Rattle.list_page.proofs.Laws.{rows_cut}
use Rattle.list_page.proofs.put_page.Goals as goal

pub returns : goal.returns
unfolding page
returns c =
    let n = c.args.n in
    let notes : chunks 6 n.notes c.args.notes.now ≡ c.as_chunks.result.0.now = sym (c.as_chunks.ensures.front ∙ rows_cut n.notes c.args.notes.now c.requires.0) in
    let rows : chunks 6 n.rows c.args.rows.now ≡ c.as_chunks-2.result.0.now = sym (c.as_chunks-2.ensures.front ∙ rows_cut n.rows c.args.rows.now c.requires.1) in
    rw (notes, rows) (then c.put_notes-next.ensures (then c.put_rows-next.ensures c.put_line.ensures))
