-- An answer in words: those of its value, which a CONST row may hold. Assumes nothing.
use Rattle.fold_const_eval.proofs.Laws.{value_laid}
use Rattle.fold_const_eval.proofs.laid.Goals as goal

pub returns : goal.returns
returns c = value_laid c.in_ok-v.v c.const_words.result c.in_ok-v.was c.requires c.const_words.ensures
