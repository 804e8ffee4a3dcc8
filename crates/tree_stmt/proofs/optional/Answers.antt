-- `optional`: the word 0, or a row that is left at the same place. Assumes nothing.
use mathlib.Core.Path.{refl, sym}
use mathlib.Core.Logic.{inl}
use Rattle.std.proofs.Common.{arith, ◌<◌, ◌≡◌, length, get_or, false}
use Rattle.std.proofs.lemmas.Grind.{common_steps}
use Rattle.tree_stmt.specs.Reader.{is_at}
use Rattle.tree_stmt.specs.Frames.{past, goes}
use Rattle.tree_stmt.proofs.Steps.{opt_none, opt_some}
use Rattle.tree_stmt.proofs.Frames.{row_same}
use Rattle.tree_stmt.proofs.optional.Goals as goal

pub returns-then-eq : goal.returns-then-eq
returns-then-eq c =
    let here : c.args.c.at < length c.args.words.now = grind (arith, common_steps) in
    let zero : get_or c.args.words.now c.args.c.at 0 ≡ 0 = grind (arith, common_steps) in
    λ ns n. goes (past (sym (opt_none _ ns n _ _ _ _ here zero)))

pub returns-else-eq : goal.returns-else-eq
unfolding is_at
returns-else-eq c =
    let other : is_at c.args.words.now 0 c.args.c.at ≡ false = grind (arith, common_steps) in
    λ ns n. row_same _ ns n c.one_row.ensures (inl refl) (sym (opt_some _ ns n _ _ _ _ other refl))
