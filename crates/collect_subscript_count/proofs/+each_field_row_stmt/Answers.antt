-- The cycle of `field`, `stmt`, `each` and `row`: each cites the laws of `Walk`. The measure is the words left from the reading place, and
-- behind them the size of the sort. Assumes nothing.
use mathlib.Core.Path.{refl, sym, ap, ◌∙◌}
use native.Mathlib.Omega.{arith}
use lib.ListN.{get_or}
use Rattle.base_words.specs.Word.{kind_of}
use Rattle.tree_stmt.specs.Tree.{one}
use Rattle.tree_stmt.specs.Codes.{row_of}
use Rattle.tree_stmt.proofs.Steps.{size_start, size_step, small_row, is_own}
use Rattle.tree_walk.proofs.Walk.{of_some, to_some, of_some_rows, to_some_rows, some_as, walks_as, open_fits, open_rows, rows_start, next_row, rows_done, row_start, next_field, row_stop, row_full, head_range, fields_there}
use Rattle.collect_subscript_count.specs.Notes.{mark_at}
use Rattle.collect_subscript_count.proofs.Walk.{counted_none, each_step, field_step, rows_walked, value_some, value_walked, stmt_walked, stmt_done}
use Prim.Native.Nat.{◌+◌, ◌-◌}
use Rattle.collect_subscript_count.proofs.+each_field_row_stmt.Goals as goal

pub each-loop-init : goal.each-loop-init
each-loop-init t c = rows_start (row_of c.args.r) c.args.n c.args.words.now c.args.at (counted_none c.args.k c.args.at (mark_at c.args.base c.args.t.now))

pub each-row-next-requires : goal.each-row-next-requires
each-row-next-requires t c = (omega (arith, c.decreases, (next_row (of_some_rows c.requires) c.loop.invariant c.loop-test.true).from), to_some (next_row (of_some_rows c.requires) c.loop.invariant c.loop-test.true).ready)

pub each-loop-preserved : goal.each-loop-preserved
each-loop-preserved t c = each_step c.loop.invariant c.loop-test.true c.row-next.ensures

pub each-returns : goal.each-returns
each-returns t c = rows_done c.loop.invariant c.loop-test.false

pub field-expr-requires : goal.field-expr-requires
field-expr-requires t c = value_some (some_as (ap one (is_own 9 c.if-sort-eq9.true refl)) c.requires.0)

pub field-returns-then-sort-eq9 : goal.field-returns-then-sort-eq9
field-returns-then-sort-eq9 t c = walks_as (ap one (is_own 9 c.if-sort-eq9.true refl)) (value_walked c.expr.ensures)

pub field-stmt-requires : goal.field-stmt-requires
field-stmt-requires t c = (omega (arith, c.decreases), some_as (ap one (is_own 10 c.if-sort-eq10.true refl)) c.requires.0)

pub field-returns-then-sort-eq10 : goal.field-returns-then-sort-eq10
field-returns-then-sort-eq10 t c = walks_as (ap one (is_own 10 c.if-sort-eq10.true refl)) (stmt_walked c.stmt.ensures)

pub field-plan_for-p-requires : goal.field-plan_for-p-requires
field-plan_for-p-requires t c = (c.requires.0, c.requires.1, c.if-sort-eq9.false, c.if-sort-eq10.false)

pub field-each-requires : goal.field-each-requires
field-each-requires t c = (omega (arith, c.decreases, c.plan_for-p.ensures.falls, open_fits (of_some c.requires.0) c.plan_for-p.ensures), to_some_rows (open_rows (of_some c.requires.0) c.plan_for-p.ensures))

pub field-returns : goal.field-returns
field-returns t c = rows_walked c.plan_for-p.ensures c.each.ensures

pub row-loop-i-init : goal.row-loop-i-init
row-loop-i-init t c = (size_start c.args.r, row_start c.args.r c.args.words.now c.args.at (counted_none c.args.k c.args.at (mark_at c.args.base c.args.t.now)))

pub row-sort-sort-requires : goal.row-sort-sort-requires
row-sort-sort-requires t c = c.loop-i-test.true

pub row-returns-then-sort-eq0 : goal.row-returns-then-sort-eq0
row-returns-then-sort-eq0 t c = row_stop c.loop-i.invariant.1 c.sort-sort.ensures c.if-sort-eq0.true

pub row-field-next-requires : goal.row-field-next-requires
row-field-next-requires t c = (omega (arith, c.decreases, c.loop-i.invariant.0, size_step c.args.r _ _ c.sort-sort.ensures c.if-sort-eq0.false, (next_field (of_some c.requires) c.loop-i.invariant.1 c.sort-sort.ensures c.if-sort-eq0.false).from), (to_some (next_field (of_some c.requires) c.loop-i.invariant.1 c.sort-sort.ensures c.if-sort-eq0.false).ready, record { row = c.args.r; place = c.loop-i.i; is = c.sort-sort.ensures }))

pub row-loop-i-preserved : goal.row-loop-i-preserved
row-loop-i-preserved t c = (omega (arith, c.loop-i.invariant.0, size_step c.args.r _ _ c.sort-sort.ensures c.if-sort-eq0.false), field_step c.loop-i.invariant.1 c.sort-sort.ensures c.if-sort-eq0.false c.field-next.ensures)

pub row-returns : goal.row-returns
row-returns t c = row_full c.loop-i.invariant.1 c.loop-i-test.false

pub stmt-by_hand-requires : goal.stmt-by_hand-requires
stmt-by_hand-requires t c = (c.requires, sym c.targeted.ensures ∙ c.if-targeted.true)

pub stmt-returns-then-targeted : goal.stmt-returns-then-targeted
stmt-returns-then-targeted t c = c.by_hand.ensures

pub stmt-row-requires : goal.stmt-row-requires
stmt-row-requires t c = (omega (arith, c.decreases, head_range c.requires.stands, small_row (kind_of (get_or c.args.words.now c.args.at 0) - 64 + 39)), to_some (fields_there (of_some c.requires)))

pub stmt-returns : goal.stmt-returns
stmt-returns t c = stmt_done (sym c.targeted.ensures ∙ c.if-targeted.false) c.row.ensures

pub field-overflow_add-at : goal.field-overflow_add-at
field-overflow_add-at t c = omega (arith, open_fits (of_some c.requires.0) c.plan_for-p.ensures)

pub stmt-bounds-words-at : goal.stmt-bounds-words-at
stmt-bounds-words-at t c = omega (arith, head_range c.requires.stands)

pub stmt-overflow_sub-kind : goal.stmt-overflow_sub-kind
stmt-overflow_sub-kind t c = (head_range c.requires.stands).0
