-- `declarator`: its four parts, one after another. Assumes nothing.
use Rattle.collect_dim.proofs.Reading.{decl_inside, decl_dims, decl_lows, decl_type, decl_is}
use Rattle.collect_dim.proofs.declarator.Goals as goal

pub bounds-words-at : goal.bounds-words-at
bounds-words-at c = decl_inside c.requires

pub dimensions-rank-requires : goal.dimensions-rank-requires
dimensions-rank-requires c = decl_dims c.requires

pub lowers-lower-requires : goal.lowers-lower-requires
lowers-lower-requires c = decl_lows c.requires c.dimensions-rank.ensures

pub as_type-ty-requires : goal.as_type-ty-requires
as_type-ty-requires c = decl_type c.requires c.dimensions-rank.ensures c.lowers-lower.ensures

pub returns : goal.returns
returns c = decl_is c.dimensions-rank.ensures c.lowers-lower.ensures c.as_type-ty.ensures
