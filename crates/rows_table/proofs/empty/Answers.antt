-- A buffer of zeros holds no rows and no diagnostics. Assumes nothing.
use Rattle.std.specs.Prelude.{◌≡◌, ℕ, length}
use Rattle.rows_table.specs.Rows.{note_width, width, zeros}
use Rattle.rows_table.specs.Buffers.{holds_none, filled_none}
use Rattle.rows_table.specs.Images.{image_none}
use Rattle.rows_table.proofs.empty.Goals as goal

pub returns : goal.returns
returns c =
    let n : ℕ = length c.args.b.now in
    let z : c.fill.new.self ≡ zeros n = c.fill.ensures.after (λ y e. e) in
    (z, rw (z, ← image_none width n) (holds_none n), rw (z, ← image_none note_width n) (filled_none note_width n))
