-- LINE INPUT from its parts. Assumes nothing.
use Rattle.collect_subscript_count.proofs.Statements.{line_there, line_file, line_done}
use Rattle.collect_subscript_count.proofs.line_input.Goals as goal

pub lvalue-file-requires : goal.lvalue-file-requires
lvalue-file-requires c = line_there c.requires

pub option-requires : goal.option-requires
option-requires c = line_file c.requires c.lvalue-file.ensures

pub returns : goal.returns
returns c = line_done c.requires c.lvalue-file.ensures c.option.ensures
