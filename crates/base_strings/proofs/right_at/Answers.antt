-- `right_at` by its tests, in turn; of a plain table those of the bytes are left out. Assumes nothing.
use Rattle.std.proofs.Common.{◌≡◌, true, sym, ◌∙◌, arith}
use Rattle.std.proofs.lemmas.Grind.{common_steps}
use Rattle.base_strings.specs.Table.{is_plain}
use Rattle.base_strings.proofs.Laws.{right_of, plain_part, plain_last}
use Rattle.base_strings.proofs.right_at.Goals as goal

pub returns-then-plain : goal.returns-then-plain
returns-then-plain c =
    let a = c.args in
    let p : is_plain a.strings.now.bytes.now a.strings.now.ends.now ≡ true = sym c.requires.1 ∙ c.if-plain.true in
    let e = right_of a.strings.now.bytes.now a.strings.now.ends.now a.span.string a.span.from a.span.to c.requires.0.from c.requires.0.to in
    let f = plain_part a.strings.now.bytes.now a.strings.now.ends.now p a.span.from a.span.to in
    let g = plain_last a.strings.now.bytes.now a.strings.now.ends.now p a.span.string in
    grind (arith, common_steps)

pub returns-else-plain : goal.returns-else-plain
returns-else-plain c =
    let a = c.args in
    let e = right_of a.strings.now.bytes.now a.strings.now.ends.now a.span.string a.span.from a.span.to c.requires.0.from c.requires.0.to in
    grind (arith, common_steps)

pub returns-else-rises : goal.returns-else-rises
returns-else-rises c =
    let a = c.args in
    let e = right_of a.strings.now.bytes.now a.strings.now.ends.now a.span.string a.span.from a.span.to c.requires.0.from c.requires.0.to in
    grind (arith, common_steps)
