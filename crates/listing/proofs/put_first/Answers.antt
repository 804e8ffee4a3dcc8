-- put_first: an answer that is neither 7 nor 8 is that of longer buffers (`text_first`); for the others nothing is written.
use mathlib.Core.Path.{sym, ◌∙◌}
use Rattle.base_text.specs.Laws.{same}
use Rattle.listing.proofs.Laws.{text_first, counts_within, kept, written}
use Rattle.listing.proofs.put_first.Goals as goal

pub returns-then-too_short : goal.returns-then-too_short
returns-then-too_short c = kept

pub put_answer-requires : goal.put_answer-requires
put_answer-requires c = counts_within c.analyse_in-a.ensures

pub returns : goal.returns
returns c = written (same (text_first c.analyse_in-a.ensures c.requires.0 (sym c.too_short.ensures ∙ c.if-too_short.false) c.requires.1 c.requires.2) c.put_answer.ensures)
