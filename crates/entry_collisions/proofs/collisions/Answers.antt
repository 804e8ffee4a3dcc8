-- All arrays: the loop's invariant is what is said of the rows before. Assumes nothing.
use Rattle.entry_collisions.proofs.Laws.{between, upto_start, named_at, upto_next, upto_end, stopped_checks}
use Rattle.entry_collisions.proofs.collisions.Goals as goal

pub returns-then-s-ne0 : goal.returns-then-s-ne0
returns-then-s-ne0 c = stopped_checks c.if-s-ne0.true c.requires.1

pub loop-i-init : goal.loop-i-init
loop-i-init c = upto_start c.requires.0 c.if-s-ne0.false c.requires.1 (between c.entry_key.ensures c.entry_key-2.ensures c.lower_bound-from.ensures.ranked c.lower_bound-end.ensures.ranked)

pub collision-t-requires : goal.collision-t-requires
collision-t-requires c = (named_at (λ i. (c.type_inv.b i).fits) c.loop-i.invariant c.requires.0 c.if-s-ne0.false c.requires.1.0 c.loop-i-test.true, c.loop-i.invariant.room)

pub loop-i-preserved : goal.loop-i-preserved
loop-i-preserved c = upto_next (λ i. (c.type_inv.b i).fits) c.loop-i.invariant c.loop-i-test.true c.requires.0 c.if-s-ne0.false c.collision-t.auto.d c.collision-t.ensures

pub shape_of-d : goal.shape_of-d
shape_of-d c = c.loop-i.invariant.long

pub returns : goal.returns
returns c = upto_end (λ i. (c.type_inv.b i).fits) c.loop-i.invariant c.loop-i-test.false c.requires.0 c.if-s-ne0.false
