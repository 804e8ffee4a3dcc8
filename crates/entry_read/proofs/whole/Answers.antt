-- `whole` by cases: words over, right erased names, wrong ones. Assumes nothing.
use mathlib.Core.Path.{sym, ◌∙◌}
use Rattle.base_words.specs.Refusals.{refused}
use Rattle.entry_read.specs.Program.{told}
use Rattle.entry_read.proofs.Laws.{end_over, end_fine, end_erased}
use Rattle.entry_read.proofs.whole.Goals as goal

pub returns-then-at-source : goal.returns-then-at-source
unfolding told refused
returns-then-at-source c = end_over c.args.source.now.names.now c.args.source.now.words.now c.args.erased.now c.args.at c.if-at-source.true

pub returns : goal.returns
unfolding told refused
returns c = end_fine c.args.source.now.names.now c.args.source.now.words.now c.args.erased.now c.args.at c.if-at-source.false (sym c.erased_right.ensures ∙ c.if-not-erased_right.false)

pub returns-then-not-erased_right : goal.returns-then-not-erased_right
unfolding told refused
returns-then-not-erased_right c = end_erased c.args.source.now.names.now c.args.source.now.words.now c.args.erased.now c.args.at c.if-at-source.false (sym c.erased_right.ensures ∙ c.if-not-erased_right.true)
