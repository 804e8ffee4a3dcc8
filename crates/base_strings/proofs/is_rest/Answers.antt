-- `is_rest`: all but the last are inner bytes, and the last may be a suffix. Assumes nothing.
use Rattle.std.proofs.Common.{arith, rules, sym, ◌-◌, length, take}
use Rattle.std.proofs.lemmas.Grind.{common_steps}
use Rattle.std.proofs.lemmas.Iterator.{YieldsList-from_slice}
use Rattle.std.proofs.lemmas.Iterator.Search.{all_from_yields_List}
use Rattle.base_strings.specs.Name.{inner}
use Rattle.base_strings.proofs.Laws.{rest_of, rest_none}
use Rattle.base_strings.proofs.is_rest.Goals as goal

pub returns-in-empty : goal.returns-in-empty
returns-in-empty c = sym (rest_none _ (omega arith))

pub returns-then-is_suffix : goal.returns-then-is_suffix
returns-then-is_suffix c =
    let s = c.args.s.now in
    let a = all_from_yields_List inner _ _ c.all.result c.all.ensures.ran (YieldsList-from_slice (take (length s - 1) s) c.iter.ensures.rest) (λ x b q k. search rules) in
    let e = rest_of s (length s - 1) (omega arith) in
    grind (arith, common_steps)

pub returns-else-is_suffix : goal.returns-else-is_suffix
returns-else-is_suffix c =
    let s = c.args.s.now in
    let e = rest_of s (length s - 1) (omega arith) in
    grind (arith, common_steps)
