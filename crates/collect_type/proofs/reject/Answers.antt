-- The diagnostic by the reason. Assumes nothing.
use Rattle.collect_type.specs.Types.{note_of}
use Rattle.collect_type.proofs.reject.Goals as goal

pub returns-in-Twice : goal.returns-in-Twice
unfolding note_of
returns-in-Twice c = rw c.in-Twice.is c.push.ensures

pub returns-in-Itself : goal.returns-in-Itself
unfolding note_of
returns-in-Itself c = rw c.in-Itself.is c.push-in-Itself.ensures

pub returns-in-Undefined : goal.returns-in-Undefined
unfolding note_of
returns-in-Undefined c = rw c.in-Undefined.is c.push-in-Undefined.ensures
