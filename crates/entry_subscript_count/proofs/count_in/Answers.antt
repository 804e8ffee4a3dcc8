-- Words over, number 11, or the first use. Assumes nothing.
use mathlib.Core.Path.{sym, ◌∙◌}
use Rattle.entry_subscript_count.specs.Count.{told}
use Rattle.entry_subscript_count.proofs.Laws.{body_there, over_is, no_name_is, counted_is, found_told}
use Rattle.entry_subscript_count.proofs.count_in.Goals as goal

pub returns-then-at-source : goal.returns-then-at-source
unfolding told
returns-then-at-source c = over_is c.requires c.args.name c.if-at-source.true

pub returns-then-not-is_name : goal.returns-then-not-is_name
unfolding told
returns-then-not-is_name c = no_name_is c.requires c.args.name c.if-at-source.false (sym c.is_name.ensures ∙ c.if-not-is_name.true)

pub subscript_count-requires : goal.subscript_count-requires
subscript_count-requires c = body_there c.requires

pub returns : goal.returns
returns c = counted_is c.requires c.args.name c.if-at-source.false (sym c.is_name.ensures ∙ c.if-not-is_name.false) c.subscript_count.ensures (found_told c.subscript_count.result)
