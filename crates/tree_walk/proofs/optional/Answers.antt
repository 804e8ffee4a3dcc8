-- `optional`: the word 0, or a row, which never begins with it. Assumes nothing.
use Rattle.std.proofs.Common.{arith, ◌<◌, ◌≡◌, length, get_or, false}
use Rattle.std.proofs.lemmas.Grind.{common_steps}
use Rattle.tree_stmt.specs.Reader.{is_at}
use Rattle.tree_walk.proofs.Fields.{clear_opt, plan_absent, plan_present}
use Rattle.tree_walk.proofs.optional.Goals as goal

pub returns-then-eq : goal.returns-then-eq
returns-then-eq c =
    let here : c.args.at < length c.args.words.now = grind (arith, common_steps) in
    let zero : get_or c.args.words.now c.args.at 0 ≡ 0 = grind (arith, common_steps) in
    plan_absent c.args.words.now c.args.at c.args.r (clear_opt c.args.r c.requires.0 c.requires.1) here zero

pub returns-else-eq : goal.returns-else-eq
unfolding is_at
returns-else-eq c =
    let other : is_at c.args.words.now 0 c.args.at ≡ false = grind (arith, common_steps) in
    plan_present c.args.words.now c.args.at c.args.r other
