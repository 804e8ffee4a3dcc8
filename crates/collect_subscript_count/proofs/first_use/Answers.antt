-- The use that the two words of a name say. Assumes nothing.
use Rattle.collect_subscript_count.proofs.Table.{room_from, room_inside, use_none, use_some}
use Rattle.collect_subscript_count.proofs.first_use.Goals as goal

pub returns-then-c-eq0 : goal.returns-then-c-eq0
returns-then-c-eq0 c = use_none c.args.base c.args.t.now c.args.name c.requires c.if-c-eq0.true

pub returns : goal.returns
returns c = use_some c.args.base c.args.t.now c.args.name c.requires c.if-c-eq0.false

pub overflow_sub-c : goal.overflow_sub-c
overflow_sub-c c = room_from c.args.base c.args.t.now c.args.name c.requires

pub bounds-t-name : goal.bounds-t-name
bounds-t-name c = room_inside c.args.base c.args.t.now c.args.name c.requires
