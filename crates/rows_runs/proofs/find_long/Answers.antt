-- `find_long` finds the key in the first run or else in the late one: what the table of both finds. Assumes nothing.
use Rattle.std.specs.Prelude.{◌≡◌}
use Rattle.std.proofs.Common.{rules, sym, ap, ◌∙◌}
use Rattle.rows_table.specs.Rows.{find}
use Rattle.rows_runs.specs.Runs.{row_in}
use Rattle.rows_runs.specs.Cases.{option_cases}
use Rattle.rows_runs.specs.Parts.{both_first, both_late}
use Rattle.rows_runs.proofs.find_long.Goals as goal

pub returns-clause-found : goal.returns-clause-found
returns-clause-found c = λ rows K.
    let P = c.split-m.ensures.parted rows K in
    let R = P.runs in
    let first = c.find_first.ensures.found P.first P.late c.args.rows.now.count R in
    option_cases c.find_first.result c.or_else.ensures
    (λ e h.
    let late : row_in c.args.rows.now.words.now c.or_else.result ≡ find c.args.k P.late = search rules in
    late ∙ both_late R c.args.k (sym (ap (row_in c.args.rows.now.words.now) e) ∙ first) ∙ ap (find c.args.k) (sym P.all))
    (λ x e h. ap (row_in c.args.rows.now.words.now) h ∙ both_first R c.args.k _ (sym (ap (row_in c.args.rows.now.words.now) e) ∙ first) ∙ ap (find c.args.k) (sym P.all))
