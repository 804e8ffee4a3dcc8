-- `any_between` asks the one run and then the other: a key's place in the table of both is the sum of its places in them. Assumes nothing.
use Rattle.std.specs.Prelude.{List, ltb}
use Rattle.std.proofs.Common.{sym, ap, ◌∙◌}
use Rattle.rows_table.specs.Rows.{Row, rank}
use Rattle.rows_runs.specs.Parts.{first_holds, late_part, between_first, between_late}
use Rattle.rows_runs.proofs.any_between.Goals as goal

pub returns-then-any_in : goal.returns-then-any_in
returns-then-any_in c =
    λ rows K.
    let P = c.split-m.ensures.parted rows K in
    let R = P.runs in
    c.if-any_in.true ∙ sym (ap (λ (l : List Row). ltb (rank c.args.lo l) (rank c.args.hi l)) P.all
    ∙ between_first R c.args.lo c.args.hi c.requires (sym (c.any_in.ensures P.first (first_holds R)) ∙ c.if-any_in.true))

pub returns-else-any_in : goal.returns-else-any_in
returns-else-any_in c =
    λ rows K.
    let P = c.split-m.ensures.parted rows K in
    let R = P.runs in
    c.any_in-else-any_in.ensures P.late (late_part R)
    ∙ between_late R c.args.lo c.args.hi c.requires (sym (c.any_in.ensures P.first (first_holds R)) ∙ c.if-any_in.false)
    ∙ ap (λ (l : List Row). ltb (rank c.args.lo l) (rank c.args.hi l)) (sym P.all)
