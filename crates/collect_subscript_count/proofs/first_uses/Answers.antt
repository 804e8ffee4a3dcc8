-- The statements of a body, one after another. Assumes nothing.
use Rattle.collect_subscript_count.specs.Notes.{mark_at}
use Rattle.collect_subscript_count.proofs.Lists.{list_here}
use Rattle.collect_subscript_count.proofs.Bodies.{body_start, body_next, body_step, body_told}
use Rattle.collect_subscript_count.proofs.first_uses.Goals as goal

pub loop-init : goal.loop-init
loop-init c = body_start c.args.words.now c.args.at (mark_at c.args.base c.args.t.now)

pub stmt-next-requires : goal.stmt-next-requires
stmt-next-requires c = body_next c.loop.invariant c.requires.0 c.loop-test.true

pub loop-preserved : goal.loop-preserved
loop-preserved c = body_step c.loop.invariant c.loop-test.true c.stmt-next.ensures

pub returns : goal.returns
returns c = body_told c.loop.auto.t c.requires.1 c.loop.invariant c.loop-test.false

pub bounds-words-at : goal.bounds-words-at
bounds-words-at c = list_here c.requires.0
