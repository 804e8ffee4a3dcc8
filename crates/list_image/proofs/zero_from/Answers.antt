-- zero_from: the library's test of all bytes.
use Rattle.std.proofs.Common.{rules, arith, ◌∙◌, ◌-◌, drop, eqb, length, length-drop}
use lib.Seq.{take_all}
use Rattle.std.proofs.lemmas.Iterator.{YieldsList-from_slice}
use Rattle.std.proofs.lemmas.Iterator.Search.{all_from_yields_List}
use Rattle.list_image.proofs.Laws.{zeros_are}
use Rattle.list_image.proofs.zero_from.Goals as goal

pub returns : goal.returns
returns c =
    let l = c.args.image.now in
    let i = c.args.from in
    all_from_yields_List (λ b. eqb b 0) _ _ _ c.all.ensures.ran
    (YieldsList-from_slice (drop i l) (c.iter.ensures.rest ∙ take_all (length l - i) (drop i l) (omega (arith, length-drop i l)))) (λ x b q k. search rules)
    ∙ zeros_are _
