-- The statements of a body, up to the first use. Assumes nothing.
use mathlib.Core.Path.{refl, ◌∙◌}
use Rattle.collect_subscript_count.proofs.Lists.{list_here}
use Rattle.collect_subscript_count.proofs.Bodies.{two_room, two_free, two_taken, body_start, body_next, body_step, body_found, body_done}
use Rattle.collect_subscript_count.proofs.subscript_count.Goals as goal

pub loop-init : goal.loop-init
loop-init c = (refl, two_free c.args.name, body_start c.args.words.now c.args.at _)

pub stmt-next-requires : goal.stmt-next-requires
stmt-next-requires c = body_next c.loop.invariant.2 c.requires c.loop-test.true

pub first_use-requires : goal.first_use-requires
first_use-requires c = two_room c.args.name _ (c.stmt-next.auto.t ∙ c.loop.invariant.0)

pub returns-then-t-ne0 : goal.returns-then-t-ne0
returns-then-t-ne0 c = λ ns n v end s. c.first_use.ensures ∙ body_found (body_step c.loop.invariant.2 c.loop-test.true c.stmt-next.ensures) c.args.name c.loop.invariant.1 (two_taken c.args.name _ (c.stmt-next.auto.t ∙ c.loop.invariant.0) c.if-t-ne0.true) ns n v end s

pub loop-preserved : goal.loop-preserved
loop-preserved c = (c.stmt-next.auto.t ∙ c.loop.invariant.0, c.loop.invariant.1, body_step c.loop.invariant.2 c.loop-test.true c.stmt-next.ensures)

pub first_use-requires-2 : goal.first_use-requires-2
first_use-requires-2 c = two_room c.args.name _ c.loop.invariant.0

pub returns : goal.returns
returns c = λ ns n v end s. c.first_use-2.ensures ∙ body_done c.loop.invariant.2 c.loop-test.false c.args.name c.loop.invariant.1 ns n v end s

pub bounds-words-at : goal.bounds-words-at
bounds-words-at c = list_here c.requires
