-- `word` reads the row that `find` found, whose words stand in the buffer. Assumes nothing.
use Rattle.std.specs.Prelude.{◌≡◌, ◌+◌, ◌*◌, get_or}
use Rattle.std.proofs.Common.{rules, sym, ap, ◌∙◌}
use Rattle.rows_table.specs.Rows.{width}
use Rattle.rows_runs.specs.Runs.{row_in}
use Rattle.rows_runs.specs.Cases.{option_cases}
use Rattle.rows_runs.specs.Places.{row_word_lem}
use Rattle.rows_kinds.specs.Kinds.{row_word}
use Rattle.rows_kinds.proofs.word.Goals as goal

pub returns : goal.returns
returns c = λ rows K.
    let found = ap (row_word c.args.j) (c.find.ensures.found rows K) in
    option_cases c.find.result c.map_or.ensures
    (λ e h. h ∙ ap (λ f. row_word c.args.j (row_in c.args.rows.now.words.now f)) (sym e) ∙ found)
    (λ i e h.
    let read : c.map_or.result ≡ get_or c.args.rows.now.words.now (i * width + c.args.j) 0 = search rules in
    read ∙ sym (row_word_lem c.args.rows.now.words.now i c.args.j c.requires) ∙ ap (λ f. row_word c.args.j (row_in c.args.rows.now.words.now f)) (sym e) ∙ found)
