-- `open`: a stop of the first checks stops it; behind them the names' marks are the string table's, and `ruled` decides. Assumes nothing.
use mathlib.Core.Path.{ap, ◌∙◌}
use Rattle.base_strings.specs.Table.{names_of}
use Rattle.base_words.specs.Told.{after}
use Rattle.entry_lookup.specs.Leaves.{ruled}
use Rattle.entry_lookup.proofs.Laws.{answers_after}
use Rattle.entry_lookup.proofs.open.Goals as goal

pub returns-clause-told : goal.returns-clause-told
unfolding after
returns-clause-told c = answers_after (λ _. ruled (names_of c.args.strings.now.bytes.now c.args.strings.now.ends.now) c.args.rows.now c.args.q) c.in_ok-passes.ensures.told (c.ruled.ensures.told ∙ ap (λ l. ruled l c.args.rows.now c.args.q) c.names_of-names.ensures.first)
