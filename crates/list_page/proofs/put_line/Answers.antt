-- put_line: the letter, the words, the line's end.
use Rattle.list_page.proofs.Laws.{whole_line}
use Rattle.list_page.proofs.put_line.Goals as goal

pub returns : goal.returns
returns c = whole_line c.args.words.now c.put_byte-next.ensures c.put_words-next.ensures c.put_byte.ensures
