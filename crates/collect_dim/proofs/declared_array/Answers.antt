-- `declared_array`: no dimensions, or what its diagnostics and its row do. Assumes nothing.
use Rattle.collect_dim.proofs.Doing.{array_none, array_some}
use Rattle.collect_dim.proofs.declared_array.Goals as goal

pub returns-in_default : goal.returns-in_default
returns-in_default c = array_none c.args.erased.now c.args.st.scope c.args.st.line c.args.st.redim c.args.st.preserve c.args.v c.in_default.is c.requires

pub returns : goal.returns
returns c = array_some c.args.erased.now c.args.st.scope c.args.st.line c.args.st.redim c.args.st.preserve c.args.v c.in-Some.is c.requires c.push_if-s1.ensures c.old_array-old.ensures c.clashing-clash.ensures c.say-s2.ensures c.any_lower.ensures c.bit-low.ensures.value c.enter.ensures
