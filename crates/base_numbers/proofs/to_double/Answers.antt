-- `base_numbers::to_double` meets its contract: the library's conversion. Assumes nothing.
use Rattle.std.proofs.Common.{ap, ◌∙◌}
use lib.Ieee.{of_int, binary64}
use Rattle.base_numbers.specs.SignedLaws.{read}
use Rattle.base_numbers.proofs.to_double.Goals as goal

pub returns : goal.returns
returns c = c.nearest_i64_to_f64.ensures ∙ ap (of_int binary64) (read c.ranges.z)
