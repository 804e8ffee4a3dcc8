-- `declared`: its type, then its array. Assumes nothing.
use Rattle.collect_dim.proofs.Doing.{declared_does}
use Rattle.collect_dim.proofs.declared.Goals as goal

pub returns : goal.returns
returns c = declared_does c.declared_type-t.ensures c.declared_array.ensures
