-- put_word: where the word doesn't fit, the nine bytes that `lay_word` leaves are the word's, and they are written.
use Rattle.base_text.specs.Text.{hex8}
use Rattle.base_text.specs.Laws.{same}
use Rattle.base_text.proofs.put_word.Goals as goal

pub returns : goal.returns
unfolding hex8
returns c = same c.lay_word-2.ensures.now c.put_bytes.ensures
