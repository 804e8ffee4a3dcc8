-- INPUT from its parts. Assumes nothing.
use native.Mathlib.Omega.{arith}
use Rattle.collect_subscript_count.proofs.Statements.{input_there, input_file, input_done}
use Rattle.collect_subscript_count.proofs.input.Goals as goal

pub lvalues-file-requires : goal.lvalues-file-requires
lvalues-file-requires c = (input_there c.requires, omega arith)

pub option-requires : goal.option-requires
option-requires c = input_file c.requires c.lvalues-file.ensures

pub returns : goal.returns
returns c = input_done c.requires c.lvalues-file.ensures c.option.ensures
