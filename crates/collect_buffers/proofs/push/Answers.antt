-- A diagnostic put after the last: once stopped nothing is done; else the answer of `rows_table::push` is the step. Assumes nothing.
use mathlib.Core.Path.{refl, subst, sym}
use mathlib.Core.List.{[], ◌∷◌}
use Rattle.rows_table.specs.Rows.{Row}
use Rattle.collect_buffers.specs.declared.Counts.{Counts}
use Rattle.collect_buffers.specs.Held.{Notes, pushing}
use Rattle.collect_buffers.proofs.Laws.{stopped_note, put_note}
use Rattle.collect_buffers.proofs.push.Goals as goal

pub returns-then-s-ne0 : goal.returns-then-s-ne0
returns-then-s-ne0 c =
    let k = c in
    let a = k.args in
    stopped_note a.s a.d.now _ k.requires c.if-s-ne0.true

pub returns : goal.returns
returns c =
    let k = c in
    let a = k.args in
    let note : Row = a.code ∷ a.line ∷ a.name ∷ a.other ∷ a.number ∷ a.prev ∷ [] in
    let e = c.push-p in
    let put = put_note a.s a.d.now note k.requires c.if-s-ne0.false refl e.new.b e.auto.b e.result e.ensures.room e.ensures.after in
    subst (λ (r : Counts). Notes (pushing note) a.s r a.d.now e.new.b) (sym c.notes_put.ensures) put
