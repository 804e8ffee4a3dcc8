-- `run` meets its contract, with the calls that it makes of itself: what is left is what was asked, its weight falls, and what the memo has is right. Assumes nothing.
use mathlib.Core.Path.{refl, sym, ap, ◌∙◌}
use native.Mathlib.Omega.{arith}
use lib.ListN.{length-set}
use Rattle.std.specs.Prelude.{Ok}
use Rattle.tree_expr.proofs.Steps.{hands_on}
use Rattle.tree_stmt.proofs.Steps.{pos}
use Rattle.tree_stmt.proofs.Machine.{on_stack, past_is, into_is, failed_is, ends, goes_again, goes_up, goes_past, stops, next_frame, held_first, held_next, lighter, push, inner_less, opens_small}
use Rattle.tree_stmt.proofs.Memo.{memo_first, memo_call, memo_failed}
use Rattle.tree_stmt.proofs.+run.Goals as goal

pub loop-cur-init : goal.loop-cur-init
loop-cur-init t c = (held_first _ _ _ _ _ _ refl, memo_first)

pub loop-cur-smaller-then-cur-ne0 : goal.loop-cur-smaller-then-cur-ne0
loop-cur-smaller-then-cur-ne0 t c = lighter _ _ _ c.loop-cur.invariant.0 (next_frame _ _ _ c.again-cur.ensures (goes_again _ _ _ _ _ _ _ c.if-cur-eq0.true (pos c.if-cur-ne0.true)))

pub loop-cur-preserved-then-cur-ne0 : goal.loop-cur-preserved-then-cur-ne0
loop-cur-preserved-then-cur-ne0 t c = (held_next _ _ _ c.loop-cur.invariant.0 (next_frame _ _ _ c.again-cur.ensures (goes_again _ _ _ _ _ _ _ c.if-cur-eq0.true (pos c.if-cur-ne0.true))) c.loop-cur.invariant.0.room c.loop-cur.invariant.0.long, c.loop-cur.invariant.1)

pub returns-then-sp-eq0 : goal.returns-then-sp-eq0
returns-then-sp-eq0 t c = (sym (c.loop-cur.invariant.0.is ∙ ends _ _ _ _ _ _ _ c.if-cur-eq0.true c.if-cur-ne0.false c.if-sp-eq0.true), c.loop-cur.invariant.1.keeps)

pub loop-cur-smaller-then-cur-eq0 : goal.loop-cur-smaller-then-cur-eq0
loop-cur-smaller-then-cur-eq0 t c = lighter _ _ _ c.loop-cur.invariant.0 (goes_up _ _ _ (on_stack c.loop-cur.stack) _ _ _ c.if-cur-eq0.true c.if-cur-ne0.false (pos c.if-sp-eq0.false))

pub loop-cur-preserved-then-cur-eq0 : goal.loop-cur-preserved-then-cur-eq0
loop-cur-preserved-then-cur-eq0 t c = (held_next _ _ _ c.loop-cur.invariant.0 (goes_up _ _ _ (on_stack c.loop-cur.stack) _ _ _ c.if-cur-eq0.true c.if-cur-ne0.false (pos c.if-sp-eq0.false)) (omega (arith, c.loop-cur.invariant.0.room)) c.loop-cur.invariant.0.long, c.loop-cur.invariant.1)

-- the field fails by its own words
pub returns-in_err-t : goal.returns-in_err-t
returns-in_err-t t c = (hands_on c.from_residual.ensures.1 ∙ stops _ _ _ _ _ _ _ c.if-cur-eq0.false (failed_is c.in_err-t.was c.look.ensures) ∙ sym c.loop-cur.invariant.0.is, c.loop-cur.invariant.1.keeps)

pub loop-cur-smaller-in-Past : goal.loop-cur-smaller-in-Past
loop-cur-smaller-in-Past t c = lighter _ _ _ c.loop-cur.invariant.0 (next_frame _ _ _ c.rest-cur.ensures (goes_past _ _ _ _ _ _ _ c.if-cur-eq0.false (past_is (c.in_ok-t.was ∙ ap Ok c.in-Past.is) c.look.ensures)))

pub loop-cur-preserved-in-Past : goal.loop-cur-preserved-in-Past
loop-cur-preserved-in-Past t c = (held_next _ _ _ c.loop-cur.invariant.0 (next_frame _ _ _ c.rest-cur.ensures (goes_past _ _ _ _ _ _ _ c.if-cur-eq0.false (past_is (c.in_ok-t.was ∙ ap Ok c.in-Past.is) c.look.ensures))) c.loop-cur.invariant.0.room c.loop-cur.invariant.0.long, c.loop-cur.invariant.1)

pub loop-cur-smaller-then-sp-room : goal.loop-cur-smaller-then-sp-room
loop-cur-smaller-then-sp-room t c = lighter _ _ _ c.loop-cur.invariant.0 (push _ _ _ c.loop-cur.stack c.loop-cur.invariant.0.long (omega arith) c.if-cur-eq0.false (c.in_ok-t.was ∙ ap Ok c.in-Into.is) c.look.ensures c.rest-cur.ensures c.remains-sp.ensures)

pub loop-cur-preserved-then-sp-room : goal.loop-cur-preserved-then-sp-room
loop-cur-preserved-then-sp-room t c = (held_next _ _ _ c.loop-cur.invariant.0 (push _ _ _ c.loop-cur.stack c.loop-cur.invariant.0.long (omega arith) c.if-cur-eq0.false (c.in_ok-t.was ∙ ap Ok c.in-Into.is) c.look.ensures c.rest-cur.ensures c.remains-sp.ensures) (omega (arith, opens_small c.remains-sp.ensures)) (length-set c.loop-cur.stack _ _ ∙ c.loop-cur.invariant.0.long), c.loop-cur.invariant.1)

pub run-requires : goal.run-requires
run-requires t c = (omega (arith, inner_less _ _ _ c.loop-cur.invariant.0 c.if-cur-eq0.false (c.in_ok-t.was ∙ ap Ok c.in-Into.is) c.look.ensures, c.decreases), tt)

-- the field's frame could not be read
pub returns-in_err-d-in-Into : goal.returns-in_err-d-in-Into
returns-in_err-d-in-Into t c =
    let fails = into_is (c.in_ok-t.was ∙ ap Ok c.in-Into.is) c.look.ensures ∙ sym c.run.ensures.0 ∙ c.in_err-d-in-Into.was in
    (hands_on c.from_residual-in_err-d-in-Into.ensures.1 ∙ stops _ _ _ _ _ _ _ c.if-cur-eq0.false fails ∙ sym c.loop-cur.invariant.0.is, (memo_failed c.loop-cur.invariant.1 c.run.ensures.1 c.run.auto.memo).keeps)

pub loop-cur-smaller : goal.loop-cur-smaller
loop-cur-smaller t c =
    let read = into_is (c.in_ok-t.was ∙ ap Ok c.in-Into.is) c.look.ensures ∙ sym c.run.ensures.0 ∙ c.in_ok-d-in-Into.was in
    lighter _ _ _ c.loop-cur.invariant.0 (next_frame _ _ _ c.rest-cur.ensures (goes_past _ _ _ _ _ _ _ c.if-cur-eq0.false read))

pub loop-cur-preserved : goal.loop-cur-preserved
loop-cur-preserved t c =
    let read = into_is (c.in_ok-t.was ∙ ap Ok c.in-Into.is) c.look.ensures ∙ sym c.run.ensures.0 ∙ c.in_ok-d-in-Into.was in (
      held_next _ _ _ c.loop-cur.invariant.0 (next_frame _ _ _ c.rest-cur.ensures (goes_past _ _ _ _ _ _ _ c.if-cur-eq0.false read)) c.loop-cur.invariant.0.room c.loop-cur.invariant.0.long,
      memo_call _ _ _ _ _ _ read c.loop-cur.invariant.1 c.run.ensures.1 c.run.auto.memo c.note.ensures c.note.auto.memo,
    )
