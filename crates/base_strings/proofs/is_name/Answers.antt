-- `is_name` by its tests, in turn: the length, the first capital, the rest. Assumes nothing.
use Rattle.std.proofs.Common.{arith, sym}
use Rattle.std.proofs.lemmas.Grind.{common_steps}
use Rattle.base_strings.specs.Name.{between}
use Rattle.base_strings.proofs.Laws.{name_of, name_empty}
use Rattle.base_strings.proofs.is_name.Goals as goal

pub returns-in-empty : goal.returns-in-empty
returns-in-empty c = sym (name_empty _ (omega arith))

pub returns-then-is_ascii_uppercase : goal.returns-then-is_ascii_uppercase
unfolding between
returns-then-is_ascii_uppercase c = let e = name_of c.args.s.now (omega arith) in grind (arith, common_steps)

pub returns-else-is_ascii_uppercase : goal.returns-else-is_ascii_uppercase
unfolding between
returns-else-is_ascii_uppercase c = let e = name_of c.args.s.now (omega arith) in grind (arith, common_steps)
