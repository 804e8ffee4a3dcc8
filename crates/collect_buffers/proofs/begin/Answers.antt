-- Zeros hold no rows and no diagnostics. Assumes nothing.
use mathlib.Core.Path.{refl}
use Rattle.rows_runs.specs.Laws.{holds_keeps}
use Rattle.collect_buffers.proofs.begin.Goals as goal

pub returns : goal.returns
returns c = record {
  rows_long = c.empty.auto.b;
  notes_long = c.empty-2.auto.b;
  inside = (refl, holds_keeps c.empty.ensures.1, c.empty-2.ensures.2);
}
