-- put_decimal: a number's digits are its tenth's digits and then its last (`decimal_more`). The measure is the number.
use mathlib.Core.Path.{sym, ap, ◌∙◌}
use mathlib.Core.List.{[], ◌∷◌, ◌++◌}
use Prim.Native.Nat.{◌/◌}
use Rattle.base_text.specs.Laws.{then, same, decimal_one, decimal_more}
use Rattle.base_text.specs.Text.{decimal}
use Rattle.base_text.proofs.+put_decimal.Goals as goal

pub shape_of-out-then-n-lt10 : goal.shape_of-out-then-n-lt10
shape_of-out-then-n-lt10 t c = c.put_byte.auto.out

pub returns-then-n-lt10 : goal.returns-then-n-lt10
returns-then-n-lt10 t c = same (ap (λ x. x ∷ []) c.digit.ensures ∙ sym (decimal_one c.args.n c.if-n-lt10.true)) c.put_byte.ensures

pub shape_of-out : goal.shape_of-out
shape_of-out t c = c.put_byte-2.auto.out ∙ c.put_decimal-next.auto.out

pub returns : goal.returns
returns t c = same (ap (λ x. decimal (c.args.n / 10) ++ (x ∷ [])) c.digit-2.ensures ∙ sym (decimal_more c.args.n c.if-n-lt10.false c.ranges.n.fits)) (then c.put_decimal-next.ensures c.put_byte-2.ensures)
