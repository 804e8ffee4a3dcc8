-- `say`: the clash's diagnostic, or none. Assumes nothing.
use mathlib.Core.Path.{refl}
use mathlib.Core.Bool.{false}
use mathlib.Core.List.{[]}
use Rattle.collect_buffers.proofs.Laws.{no_note}
use Rattle.collect_dim.proofs.say.Goals as goal

pub returns-in-None : goal.returns-in-None
returns-in-None c = rw c.in-None.is (no_note c.args.s c.args.d.now [] c.requires false refl)
