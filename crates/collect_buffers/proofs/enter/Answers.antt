-- A row entered: once stopped nothing is done; else the answer of `rows_kinds::enter` is the change of the rows. Assumes nothing.
use mathlib.Core.Path.{subst, sym}
use mathlib.Core.List.{[], ◌∷◌}
use Rattle.rows_table.specs.Rows.{Row, insert}
use Rattle.rows_kinds.specs.Kinds.{row as row_of}
use Rattle.collect_buffers.specs.declared.Counts.{Counts}
use Rattle.collect_buffers.specs.Held.{Rows, entering}
use Rattle.collect_buffers.proofs.Laws.{stopped_change, put_change, entering_is}
use Rattle.collect_buffers.proofs.enter.Goals as goal

pub returns-then-s-ne0 : goal.returns-then-s-ne0
returns-then-s-ne0 c =
    let k = c in
    let a = k.args in
    entering_is (row_of a.kind a.name (a.w1 ∷ a.w2 ∷ a.w3 ∷ a.w4 ∷ a.w5 ∷ [])) (stopped_change a.s a.b.now _ k.requires.0 c.if-s-ne0.true)

pub returns : goal.returns
returns c =
    let k = c in
    let a = k.args in
    let row : Row = row_of a.kind a.name (a.w1 ∷ a.w2 ∷ a.w3 ∷ a.w4 ∷ a.w5 ∷ []) in
    let e = c.enter-p in
    let put = entering_is row (put_change a.s a.b.now (insert row) c.if-s-ne0.false e.new.b e.auto.b k.requires.0 e.result e.ensures.room e.ensures.after) in
    subst (λ (r : Counts). Rows (entering row) a.s r a.b.now e.new.b) (sym c.rows_put.ensures) put
