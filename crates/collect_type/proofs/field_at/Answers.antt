-- The field at a place: its name's word, and its type after it. Assumes nothing.
use Rattle.collect_type.proofs.Walk.{field_inside, field_type, field_is}
use Rattle.collect_type.proofs.field_at.Goals as goal

pub bounds-words-at : goal.bounds-words-at
bounds-words-at c = field_inside c.requires

pub type_ref-next-requires : goal.type_ref-next-requires
type_ref-next-requires c = field_type c.requires

pub returns : goal.returns
returns c = field_is c.type_ref-next.ensures
