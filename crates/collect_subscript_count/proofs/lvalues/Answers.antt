-- Targets, one after another. Assumes nothing.
use Rattle.collect_subscript_count.specs.Notes.{mark_at}
use Rattle.collect_subscript_count.proofs.Lists.{list_here}
use Rattle.collect_subscript_count.proofs.Targets.{targets_start, targets_next, targets_step, targets_done}
use Rattle.collect_subscript_count.proofs.lvalues.Goals as goal

pub loop-init : goal.loop-init
loop-init c = targets_start c.args.words.now c.args.at c.args.k c.args.j (mark_at c.args.base c.args.t.now)

pub lvalue-next-requires : goal.lvalue-next-requires
lvalue-next-requires c = targets_next c.loop.invariant c.requires.0 c.loop-test.true

pub loop-preserved : goal.loop-preserved
loop-preserved c = targets_step c.loop.invariant c.loop-test.true c.lvalue-next.ensures

pub returns : goal.returns
returns c = targets_done c.loop.invariant c.requires.1 c.loop-test.false

pub bounds-words-at : goal.bounds-words-at
bounds-words-at c = list_here c.requires.0
