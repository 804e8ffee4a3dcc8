-- `dimensions`: the word 0, or a list of expressions after its count. Assumes nothing.
use Rattle.collect_dim.proofs.Reading.{dims_inside, dims_absent, dims_rows, dims_present}
use Rattle.collect_dim.proofs.dimensions.Goals as goal

pub bounds-words-at : goal.bounds-words-at
bounds-words-at c = dims_inside c.requires

pub returns-then-w-eq0 : goal.returns-then-w-eq0
returns-then-w-eq0 c = dims_absent c.if-w-eq0.true

pub exprs-requires : goal.exprs-requires
exprs-requires c = dims_rows c.if-w-eq0.false c.requires

pub returns : goal.returns
returns c = dims_present c.if-w-eq0.false c.exprs.ensures
