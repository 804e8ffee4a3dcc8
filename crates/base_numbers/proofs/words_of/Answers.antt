-- `base_numbers::words_of` meets its contract: a finite float is no NaN. Assumes nothing.
use Rattle.base_numbers.specs.NumbersLaws.{no_nan}
use Rattle.base_numbers.proofs.words_of.Goals as goal

pub float_to_bits-x : goal.float_to_bits-x
float_to_bits-x c = no_nan c.args.x c.requires
