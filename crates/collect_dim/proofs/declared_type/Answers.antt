-- `declared_type`: no type, or what its three diagnostics and its row do. Assumes nothing.
use Rattle.collect_dim.proofs.Doing.{type_none, type_some}
use Rattle.collect_dim.proofs.declared_type.Goals as goal

pub returns-in_default : goal.returns-in_default
returns-in_default c = type_none c.args.strings.now.bytes.now c.args.strings.now.ends.now c.args.st.scope c.args.st.line c.args.st.redim c.args.v c.in_default.is c.requires.0

pub returns : goal.returns
returns c = type_some c.args.strings.now.bytes.now c.args.strings.now.ends.now c.args.st.scope c.args.st.line c.args.st.redim c.args.v c.in-Some.is c.requires.0 c.contradicts-differs.ensures c.push_if-s1.ensures c.undefined-unknown.ensures c.push_if-s2.ensures c.again-twice.ensures c.push_if-s3.ensures c.enter.ensures
