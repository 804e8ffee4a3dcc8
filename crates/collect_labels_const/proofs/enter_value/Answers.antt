-- A folded constant's row: its three words are those of the value. Assumes nothing.
use Rattle.collect_labels_const.proofs.Laws.{const_entered}
use Rattle.collect_labels_const.proofs.enter_value.Goals as goal

pub returns : goal.returns
returns c = const_entered c.args.name c.args.v c.const_words-c.ensures c.enter.ensures
