-- `rises`: the first string does, any other by `compare` with the one before it. Assumes nothing.
use Rattle.std.proofs.Common.{sym, ◌∙◌, arith}
use Rattle.std.proofs.lemmas.Grind.{common_steps}
use Rattle.base_strings.proofs.Laws.{rises_first, rises_is}
use Rattle.base_strings.proofs.rises.Goals as goal

pub returns-then-span-eq0 : goal.returns-then-span-eq0
returns-then-span-eq0 c = let e = rises_first c.args.strings.now.bytes.now c.args.strings.now.ends.now c.args.span.string c.if-span-eq0.true in grind (arith, common_steps)

pub returns-else-span-eq0 : goal.returns-else-span-eq0
returns-else-span-eq0 c =
    c.is_lt.ensures
    ∙ sym (rises_is c.args.strings.now.bytes.now c.args.strings.now.ends.now c.args.span.string _ _ _ (omega arith) c.requires.reached.back c.requires.reached.from c.requires.reached.to c.compare.ensures)
