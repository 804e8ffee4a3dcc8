-- `words_ok`: the words from j on decide; a turn is a law of `Words`. Assumes nothing.
use mathlib.Core.Path.{◌≡◌, sym, ◌∙◌}
use mathlib.Core.List.{[]}
use native.Mathlib.Omega.{arith}
use lib.ListN.{get_or}
use Rattle.rows_lent.specs.Rules.{rules}
use Rattle.rows_lent.proofs.Words.{here, words_more, words_no, words_end}
use Rattle.rows_lent.proofs.words_ok.Goals as goal

pub returns-then-not-word_ok : goal.returns-then-not-word_ok
returns-then-not-word_ok c =
    let word_is : c.word_ok.result ≡ here c.args.names.now ((get_or rules c.args.k [])) c.args.row.now c.loop-j.j = rw (← c.rule.ensures, ← c.at.ensures, ← c.at-in-loop-j.ensures) c.word_ok.ensures in
    sym (c.loop-j.invariant ∙ words_no c.args.names.now ((get_or rules c.args.k [])) c.args.row.now c.loop-j.j (omega arith) (sym (word_is) ∙ c.if-not-word_ok.true))

pub loop-j-preserved : goal.loop-j-preserved
loop-j-preserved c =
    let word_is : c.word_ok.result ≡ here c.args.names.now ((get_or rules c.args.k [])) c.args.row.now c.loop-j.j = rw (← c.rule.ensures, ← c.at.ensures, ← c.at-in-loop-j.ensures) c.word_ok.ensures in
    c.loop-j.invariant ∙ words_more c.args.names.now ((get_or rules c.args.k [])) c.args.row.now c.loop-j.j (omega arith) (sym (word_is) ∙ c.if-not-word_ok.false)

pub returns : goal.returns
returns c =
    sym (c.loop-j.invariant ∙ words_end c.args.names.now ((get_or rules c.args.k [])) c.args.row.now c.loop-j.j (omega arith))
