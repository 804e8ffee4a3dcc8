-- `remove` takes rows out of the late run; where the first has some too, it makes the runs one first. Assumes nothing.
use mathlib.Core.Path.{sym, ◌∙◌, subst}
use mathlib.Core.List.{List}
use Rattle.rows_table.specs.Rows.{Row, Holds}
use Rattle.rows_runs.specs.Laws.{out_holds}
use Rattle.rows_runs.specs.Parts.{first_holds}
use Rattle.rows_runs.specs.Entering.{out_late}
use Rattle.rows_runs.proofs.remove.Goals as goal

pub returns-then-any_in-clause-after : goal.returns-then-any_in-clause-after
returns-then-any_in-clause-after c = λ rows K.
    let P = c.split-m.ensures.parted rows K in
    let H : Holds rows c.args.count c.join.new.b = subst (λ (l : List Row). Holds l c.args.count c.join.new.b) (sym P.all) (c.join.ensures P.first P.late P.runs) in
    out_holds H c.args.lo c.args.hi c.requires.1 (c.remove.ensures.after rows H)

pub returns-clause-after : goal.returns-clause-after
returns-clause-after c = λ rows K.
    let P = c.split-m.ensures.parted rows K in
    out_late c.split-m.result P c.split-m.ensures.near c.args.lo c.args.hi c.requires.1 (sym (c.any_in.ensures P.first (first_holds P.runs)) ∙ c.if-any_in.false) c.remove-n.result c.remove-n.new.b c.remove-n.ensures.after
