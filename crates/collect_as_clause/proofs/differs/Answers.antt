-- `differs`: no suffix, or the type that the suffix stands for. Assumes nothing.
use mathlib.Core.Path.{refl, sym, ◌∙◌}
use Rattle.base_strings.specs.Table.{string_at}
use Rattle.collect_as_clause.proofs.Suffixes.{suffix_disagrees}
use Rattle.collect_as_clause.proofs.differs.Goals as goal

pub returns-then-is_suffix : goal.returns-then-is_suffix
returns-then-is_suffix c =
    suffix_disagrees (string_at c.args.strings.now.bytes.now c.args.strings.now.ends.now c.args.name) c.last_byte-last.ensures (sym c.if-is_suffix.true ∙ c.is_suffix.ensures) c.from_type_ref.ensures c.from_suffix.ensures

pub returns-else-is_suffix : goal.returns-else-is_suffix
returns-else-is_suffix c = λ ty e. c.if-is_suffix.false ∙ suffix_disagrees (string_at c.args.strings.now.bytes.now c.args.strings.now.ends.now c.args.name) c.last_byte-last.ensures (sym c.if-is_suffix.false ∙ c.is_suffix.ensures) refl refl ty e
