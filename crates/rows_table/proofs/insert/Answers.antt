-- `insert` by its three answers: replaced in place, no room, or moved up and put in; each is a law of `Buffers`. Assumes nothing.
use mathlib.Core.Path.{◌≡◌, sym, ap, ◌∙◌}
use mathlib.Core.List.{List, []}
use Prim.Native.Nat.{ℕ}
use native.Mathlib.Omega.{arith}
use lib.ListN.{get_or}
use Rattle.rows_table.specs.Rows.{Row, key, key_of, rank}
use Rattle.rows_table.specs.Images.{holds_fits}
use Rattle.rows_table.specs.Buffers.{key_there, replaced, full, added}
use Rattle.rows_table.proofs.insert.Goals.{else-p-count-via-then-p-count+else-key_at-k, else-p-count-via-else-p-count}
use Rattle.rows_table.proofs.insert.Goals as goal

-- p is the place of the row's key, whose number is k
place : (row : Row) (rows : List Row) (p k : ℕ) → p ≡ rank k rows → k ≡ key_of (get_or row 0 0) (get_or row 1 0) → p ≡ rank (key row) rows
unfolding key
place row rows p k e f = e ∙ ap (λ (j : ℕ). rank j rows) f

key_is : (row : Row) (k : ℕ) → k ≡ key_of (get_or row 0 0) (get_or row 1 0) → k ≡ key row
unfolding key
key_is row k f = f

pub returns-then-key_at-k-clause-after : goal.returns-then-key_at-k-clause-after
returns-then-key_at-k-clause-after c = λ rows H.
    let row = c.args.row.now in
    let n = c.args.count in
    let b = c.args.b.now in
    let p = c.lower_bound-p.result in
    let at = place row rows p c.key_of-k.result (c.lower_bound-p.ensures.ranked rows H) c.key_of-k.ensures in
    let there = key_there rows n b H (key row) p at c.if-p-count.true c.key_at.result c.key_at.ensures in
    let q : key (get_or rows (rank (key row) rows) []) ≡ key row = sym there ∙ c.if-key_at-k.true ∙ key_is row c.key_of-k.result c.key_of-k.ensures in
    rw (c.put_words.ensures, c.told-row) (replaced rows n b H row p at c.if-p-count.true q)

pub returns-then-b-end-lt-WIDTH-clause-after : goal.returns-then-b-end-lt-WIDTH-clause-after
returns-then-b-end-lt-WIDTH-clause-after c = λ rows H.
    let row = c.args.row.now in
    let n = c.args.count in
    let b = c.args.b.now in
    let p = c.lower_bound-p.result in
    let at = place row rows p c.key_of-k.result (c.lower_bound-p.ensures.ranked rows H) c.key_of-k.ensures in
    full rows n b H row p at
    (λ h e. elim c.else-p-count.branch [
      | else-p-count-via-then-p-count+else-key_at-k w ↦
          absurd (w.if-key_at-k.false (key_there rows n b H (key row) p at w.if-p-count.true w.key_at.result w.key_at.ensures ∙ e ∙ sym (key_is row c.key_of-k.result c.key_of-k.ensures)))
      | else-p-count-via-else-p-count w ↦ omega (arith, w.if-p-count.false, at, H.filled.count)
    ])
    c.if-b-end-lt-WIDTH.true

pub returns-clause-after : goal.returns-clause-after
returns-clause-after c = λ rows H.
    let row = c.args.row.now in
    let n = c.args.count in
    let b = c.args.b.now in
    let p = c.lower_bound-p.result in
    let at = place row rows p c.key_of-k.result (c.lower_bound-p.ensures.ranked rows H) c.key_of-k.ensures in
    added rows n b H row p at
    (λ h e. elim c.else-p-count.branch [
      | else-p-count-via-then-p-count+else-key_at-k w ↦
          absurd (w.if-key_at-k.false (key_there rows n b H (key row) p at w.if-p-count.true w.key_at.result w.key_at.ensures ∙ e ∙ sym (key_is row c.key_of-k.result c.key_of-k.ensures)))
      | else-p-count-via-else-p-count w ↦ omega (arith, w.if-p-count.false, at, H.filled.count)
    ])
    (omega (arith, c.if-b-end-lt-WIDTH.false, holds_fits H.filled))
    c.shift_up.new.b c.put_words-2.new.b
    c.shift_up.ensures (rw c.told-row at c.put_words-2.ensures)
