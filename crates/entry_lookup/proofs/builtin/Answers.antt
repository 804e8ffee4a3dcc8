-- `builtin`: a stop of the first checks stops it; behind them the names' marks are the string table's. Assumes nothing.
use mathlib.Core.Path.{◌≡◌, sym, ap, ◌∙◌}
use mathlib.Core.Bool.{Bool}
use Rattle.base_words.specs.Told.{gives, after, unless}
use Rattle.base_words.specs.Refusals.{refused}
use Rattle.base_strings.specs.Table.{string_at, names_of}
use Rattle.rows_lent.specs.Rules.{is_marked}
use Rattle.base_builtins.specs.Builtins.{builtin}
use Rattle.base_builtins.specs.Answers.{arguments_of}
use Rattle.entry_lookup.specs.Leaves.{builtin_at}
use Rattle.entry_lookup.proofs.Laws.{answers_after}
use Rattle.entry_lookup.proofs.builtin.Goals as goal

pub returns-then-is_name : goal.returns-then-is_name
unfolding after builtin_at unless
returns-then-is_name c =
    let named : is_marked (names_of c.args.bytes.now c.args.ends.now) c.args.name ≡ c.is_name.result = ap (λ l. is_marked l c.args.name) (sym c.names_of-names.ensures.first) ∙ sym c.is_name.ensures in
    answers_after (λ _. builtin_at c.args.bytes.now c.args.ends.now c.args.name) c.in_ok-passes.ensures.told (ap gives c.spelled.ensures ∙ sym (ap (λ (t : Bool). unless t 11 0 (gives (arguments_of (builtin (string_at c.args.bytes.now c.args.ends.now c.args.name))))) (named ∙ c.if-is_name.true)))

pub returns-else-is_name : goal.returns-else-is_name
unfolding after builtin_at unless refused
returns-else-is_name c =
    let named : is_marked (names_of c.args.bytes.now c.args.ends.now) c.args.name ≡ c.is_name.result = ap (λ l. is_marked l c.args.name) (sym c.names_of-names.ensures.first) ∙ sym c.is_name.ensures in
    answers_after (λ _. builtin_at c.args.bytes.now c.args.ends.now c.args.name) c.in_ok-passes.ensures.told (sym (ap (λ (t : Bool). unless t 11 0 (gives (arguments_of (builtin (string_at c.args.bytes.now c.args.ends.now c.args.name))))) (named ∙ c.if-is_name.false)))
