-- The two passes, and the TYPE's row between them. Assumes nothing.
use mathlib.Core.Path.{refl}
use Rattle.collect_type.proofs.Marks.{below_one}
use Rattle.collect_type.proofs.Whole.{defines_stopped, defines_done}
use Rattle.collect_type.proofs.fields.Goals as goal

pub returns-then-s-ne0 : goal.returns-then-s-ne0
returns-then-s-ne0 c = defines_stopped c.requires.0 c.if-s-ne0.true

pub check-c-requires : goal.check-c-requires
check-c-requires c = (c.requires.0, c.requires.1, below_one 1024 refl)

pub returns : goal.returns
returns c = defines_done c.if-s-ne0.false c.args.owner.small.1 c.check-c.ensures.0 c.remove_under-t1.ensures c.enter-t2.ensures c.enter_fields.ensures
