-- By its name's mark, or by its type. Assumes nothing.
use Rattle.collect_type.proofs.Marks.{codes_twice, codes_rejected, codes_kept}
use Rattle.collect_type.proofs.Turns.{why_some, handed}
use mathlib.Core.Path.{refl}
use Rattle.collect_type.proofs.check_field.Goals as goal

pub returns-then-seen-x : goal.returns-then-seen-x
returns-then-seen-x c = codes_twice c.if-seen-x.true

pub returns-in_err-check_type : goal.returns-in_err-check_type
returns-in_err-check_type c = rw (handed c.from_residual.ensures.1) (codes_rejected c.if-seen-x.false (rw c.in_err-check_type.was at c.check_type.ensures) (why_some _))

pub returns : goal.returns
returns c = codes_kept c.if-seen-x.false (rw c.in_ok-check_type.was at c.check_type.ensures) refl
