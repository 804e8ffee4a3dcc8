-- put_all: with the room that is promised, what the passes tell has the text of what their definition gives (`text_full`).
use Rattle.base_text.specs.Laws.{same}
use Rattle.listing.proofs.Laws.{text_full, counts_within}
use Rattle.listing.proofs.put_all.Goals as goal

pub put_answer-requires : goal.put_answer-requires
put_answer-requires c = counts_within c.analyse_in-a.ensures

pub returns : goal.returns
returns c = same (text_full c.analyse_in-a.ensures c.requires.0 c.requires.1 c.requires.2) c.put_answer.ensures
