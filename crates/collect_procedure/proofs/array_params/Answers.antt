-- `array_params`: without notes each is asked of the body. Assumes nothing.
use Rattle.collect_procedure.proofs.Noted.{told_nothing}
use Rattle.collect_procedure.proofs.array_params.Goals as goal

pub arrays_by-requires : goal.arrays_by-requires
arrays_by-requires c = (c.requires.0, told_nothing _ _, c.requires.1)
