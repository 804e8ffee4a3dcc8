-- `used`: the notes have the first use where they have room for the name; where no list stands after the name there is no use, else the body is walked.
-- Assumes nothing.
use native.Mathlib.Omega.{arith}
use mathlib.Core.Path.{sym, ◌∙◌}
use Rattle.collect_subscript_count.proofs.Expressions.{unused}
use Rattle.collect_procedure.proofs.Noted.{room_below}
use Rattle.collect_procedure.proofs.Reading.{body_inside, proc_body}
use Rattle.collect_procedure.proofs.Quiet.{quiet_none}
use Rattle.collect_procedure.proofs.used.Goals as goal

pub first_use-requires : goal.first_use-requires
first_use-requires c = room_below _ _ (omega (arith, c.if-name-uses.true))

pub returns-then-name-uses : goal.returns-then-name-uses
returns-then-name-uses c = λ ns n v s. c.first_use.ensures ∙ c.requires.1.gives ns n v _ s _ (room_below _ _ c.if-name-uses.true)

pub listed-requires : goal.listed-requires
listed-requires c = body_inside (proc_body c.requires.0)

pub returns : goal.returns
returns c = λ ns n v s. unused ∙ sym (quiet_none c.args.q.name v s (c.listed.ensures c.if-listed.false))
