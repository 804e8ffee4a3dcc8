-- lay_row: a letter, six words and the line's end are one text written (`whole_row`).
use Rattle.std.proofs.Common.{◌+◌, arith}
use Rattle.base_text.specs.Laws.{moved}
use Rattle.list_page.proofs.Laws.{stored, whole_row}
use Rattle.list_page.proofs.lay_row.Goals as goal

pub returns : goal.returns
returns c =
    let at = c.args.at in
    whole_row c.args.row.now (omega arith) (stored c.args.out.now at 84)
    (moved (omega arith) c.lay_word.ensures) (moved (omega arith) c.lay_word-2.ensures) (moved (omega arith) c.lay_word-3.ensures)
    (moved (omega arith) c.lay_word-4.ensures) (moved (omega arith) c.lay_word-5.ensures) (moved (omega arith) c.lay_word-6.ensures)
    (moved (omega arith) (stored c.lay_word-6.new.out (at + 55) 10))
