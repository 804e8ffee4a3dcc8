-- `push` writes behind the last diagnostic where there is room. Assumes nothing.
use native.Mathlib.Omega.{arith}
use Rattle.rows_table.specs.Buffers.{push_full, pushed}
use Rattle.rows_table.specs.Images.{holds_fits}
use Rattle.rows_table.proofs.push.Goals as goal

pub returns-then-b-end-lt-NOTE_WIDTH-clause-after : goal.returns-then-b-end-lt-NOTE_WIDTH-clause-after
returns-then-b-end-lt-NOTE_WIDTH-clause-after c = λ rows F.
    push_full rows c.args.count c.args.b.now F c.args.note.now c.if-b-end-lt-NOTE_WIDTH.true

pub returns-clause-after : goal.returns-clause-after
returns-clause-after c = λ rows F.
    let a = c.args in
    rw (c.put_words.ensures, c.told-note) (pushed rows a.count a.b.now F a.note.now (omega (arith, c.if-b-end-lt-NOTE_WIDTH.false, holds_fits F)))
