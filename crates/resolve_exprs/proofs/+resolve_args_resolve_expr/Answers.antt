-- The cycle of `resolve_args` and `resolve_expr`: each cites the laws of `Calls`. The measure is twice the words left from the reading place,
-- and one more for a list of arguments, whose first member stands where the list does. Assumes nothing.
use Rattle.resolve_exprs.proofs.Calls.{list_start, here, ready_next, list_step, ready_plain, plain_step, args_done, ready_pair, pair_done, ready_call, call_room, call_done, beyond, front_room, ready_kids, back_room, node_done}
use Rattle.resolve_exprs.proofs.Nodes.{moves}
use mathlib.Core.Path.{refl, ◌∙◌}
use native.Mathlib.Omega.{arith}
use Rattle.resolve_definition.specs.Tables.{places, nowhere}
use Rattle.resolve_exprs.proofs.+resolve_args_resolve_expr.Goals as goal

pub resolve_args-pair-h-requires : goal.resolve_args-pair-h-requires
resolve_args-pair-h-requires t c = ((here c.requires.0 c.loop-i.invariant c.loop-i-test.true).some, omega (arith, (here c.requires.0 c.loop-i.invariant c.loop-i-test.true).room, c.loop-i.auto.out), c.requires.1)

pub resolve_args-resolve_expr-next-requires : goal.resolve_args-resolve_expr-next-requires
resolve_args-resolve_expr-next-requires t c = (omega (arith, c.decreases, (here c.requires.0 c.loop-i.invariant c.loop-i-test.true).from, (here c.requires.0 c.loop-i.invariant c.loop-i-test.true).inside), ready_next c.requires.0 c.loop-i.invariant c.loop-i-test.true c.pair-h.ensures (c.pair-h.auto.out ∙ c.loop-i.auto.out))

pub resolve_args-loop-i-preserved : goal.resolve_args-loop-i-preserved
resolve_args-loop-i-preserved t c = list_step c.loop-i.invariant c.loop-i-test.true c.pair-h.ensures c.resolve_expr-next.ensures

pub resolve_args-returns : goal.resolve_args-returns
resolve_args-returns t c = args_done c.loop-i.invariant c.loop-i-test.false

pub resolve_expr-resolve_expr-requires : goal.resolve_expr-resolve_expr-requires
resolve_expr-resolve_expr-requires t c = (omega (arith, c.decreases, moves c.requires.some.stands), ready_pair c.requires c.if-kind-eq23.true refl)

pub resolve_expr-returns-then-kind-eq23 : goal.resolve_expr-returns-then-kind-eq23
resolve_expr-returns-then-kind-eq23 t c = pair_done c.if-kind-eq23.true c.resolve_expr.ensures

pub resolve_expr-begin-first-requires : goal.resolve_expr-begin-first-requires
resolve_expr-begin-first-requires t c = call_room c.requires c.if-kind-eq21.true

pub resolve_expr-resolve_args-requires : goal.resolve_expr-resolve_args-requires
resolve_expr-resolve_args-requires t c = (omega (arith, c.decreases, call_room c.requires c.if-kind-eq21.true, c.begin-first.ensures.0), (ready_call c.requires c.if-kind-eq21.true c.begin-first.auto.out c.begin-first.ensures.0 c.begin-first.ensures.1, omega arith))

pub resolve_expr-returns-then-kind-eq21 : goal.resolve_expr-returns-then-kind-eq21
resolve_expr-returns-then-kind-eq21 t c = call_done c.if-kind-eq21.true (λ rs H. c.head.ensures rs H) c.begin-first.ensures c.resolve_args.ensures

pub resolve_expr-copied-next-requires : goal.resolve_expr-copied-next-requires
resolve_expr-copied-next-requires t c = front_room c.requires c.shape_at-s.ensures

pub resolve_expr-resolve_expr-next-requires : goal.resolve_expr-resolve_expr-next-requires
resolve_expr-resolve_expr-next-requires t c = (omega (arith, c.decreases, (here (ready_kids c.requires c.shape_at-s.ensures refl c.copied-next.ensures.0 c.copied-next.ensures.1) c.loop.invariant c.loop-test.true).from, (here (ready_kids c.requires c.shape_at-s.ensures refl c.copied-next.ensures.0 c.copied-next.ensures.1) c.loop.invariant c.loop-test.true).inside, beyond c.requires c.shape_at-s.ensures, c.copied-next.ensures.0), ready_plain (ready_kids c.requires c.shape_at-s.ensures refl c.copied-next.ensures.0 c.copied-next.ensures.1) c.loop.invariant c.loop-test.true (c.loop.auto.out ∙ c.copied-next.auto.out))

pub resolve_expr-loop-preserved : goal.resolve_expr-loop-preserved
resolve_expr-loop-preserved t c = plain_step c.loop.invariant c.loop-test.true c.resolve_expr-next.ensures

pub resolve_expr-copied-requires : goal.resolve_expr-copied-requires
resolve_expr-copied-requires t c = back_room c.requires c.shape_at-s.ensures (c.loop.auto.out ∙ c.copied-next.auto.out) c.copied-next.ensures.0 c.copied-next.ensures.1 c.loop.invariant c.loop-test.false

pub resolve_expr-returns : goal.resolve_expr-returns
resolve_expr-returns t c = node_done c.if-kind-eq21.false c.if-kind-eq23.false c.shape_at-s.ensures c.copied-next.ensures c.loop.invariant c.loop-test.false c.copied.ensures

pub resolve_args-loop-i-init : goal.resolve_args-loop-i-init
resolve_args-loop-i-init t c = list_start (λ T. places T c.args.f) c.args.n c.args.words.now c.args.rows.now.words.now c.args.out.now c.args.rows.now.count c.args.scope c.args.spot.at c.args.spot.to

pub resolve_args-overflow_add-argument : goal.resolve_args-overflow_add-argument
resolve_args-overflow_add-argument t c = omega (arith, moves (ready_next c.requires.0 c.loop-i.invariant c.loop-i-test.true c.pair-h.ensures refl).some.stands)

pub resolve_args-overflow_add-argument-in-loop-i : goal.resolve_args-overflow_add-argument-in-loop-i
resolve_args-overflow_add-argument-in-loop-i t c = omega (arith, moves (ready_next c.requires.0 c.loop-i.invariant c.loop-i-test.true c.pair-h.ensures refl).some.stands, (here c.requires.0 c.loop-i.invariant c.loop-i-test.true).behind)

pub resolve_expr-bounds-words-spot : goal.resolve_expr-bounds-words-spot
resolve_expr-bounds-words-spot t c = omega (arith, moves c.requires.some.stands)

pub resolve_expr-bounds-words-spot-then-kind-eq21 : goal.resolve_expr-bounds-words-spot-then-kind-eq21
resolve_expr-bounds-words-spot-then-kind-eq21 t c = omega (arith, call_room c.requires c.if-kind-eq21.true)

pub resolve_expr-bounds-words-spot-then-kind-eq21-2 : goal.resolve_expr-bounds-words-spot-then-kind-eq21-2
resolve_expr-bounds-words-spot-then-kind-eq21-2 t c = omega (arith, call_room c.requires c.if-kind-eq21.true)

pub resolve_expr-loop-init : goal.resolve_expr-loop-init
resolve_expr-loop-init t c = list_start (λ T. nowhere) _ _ _ _ _ _ _ _
