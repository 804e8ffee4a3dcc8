-- There is an array where the first keys of kinds 133 and 134 have different places. Assumes nothing.
use mathlib.Core.Path.{◌∙◌}
use native.Mathlib.Omega.{arith}
use Rattle.rows_runs.specs.Laws.{keeps_table}
use Rattle.collect_labels_const.specs.Arrays.{any_array_lem, keeps_small}
use Rattle.collect_labels_const.proofs.any_array.Goals as goal

pub any_between-requires : goal.any_between-requires
any_between-requires c = omega (arith, c.entry_key-from.ensures, c.entry_key-to.ensures)

pub returns : goal.returns
returns c = λ rows K. c.any_between.ensures rows K ∙ rw (c.entry_key-from.ensures, c.entry_key-to.ensures) (any_array_lem 0 rows (keeps_table K) (keeps_small c.requires K))
