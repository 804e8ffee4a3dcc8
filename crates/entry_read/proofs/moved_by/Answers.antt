-- `moved_by` by cases: past the node that was read, and no move on a refusal. Assumes nothing.
use Rattle.std.proofs.Common.{refl, sym}
use Rattle.entry_read.specs.Reading.{told, moved_of}
use Rattle.base_words.specs.Refusals.{refused}
use Rattle.entry_read.proofs.moved_by.Goals as goal

pub returns-in-Ok : goal.returns-in-Ok
unfolding told moved_of refused
returns-in-Ok c = (sym c.in-Ok.is, rw c.in-Ok.is refl)

pub returns-in-Err : goal.returns-in-Err
unfolding told moved_of refused
returns-in-Err c = (refl, rw c.in-Err.is refl)
