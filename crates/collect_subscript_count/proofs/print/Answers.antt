-- PRINT from its parts. Assumes nothing.
use native.Mathlib.Omega.{arith}
use Rattle.collect_subscript_count.proofs.Statements.{print_file, print_items, print_pattern, print_fits, print_ends, print_done}
use Rattle.collect_subscript_count.proofs.print.Goals as goal

pub option-list-requires : goal.option-list-requires
option-list-requires c = print_file c.requires

pub items-newline-requires : goal.items-newline-requires
items-newline-requires c = print_items c.requires c.option-list.ensures

pub option-write-requires : goal.option-write-requires
option-write-requires c = print_pattern c.requires c.option-list.ensures c.items-newline.ensures

pub returns : goal.returns
returns c = print_done c.requires c.option-list.ensures c.items-newline.ensures c.option-write.ensures

pub overflow_add-newline : goal.overflow_add-newline
overflow_add-newline c = omega (arith, print_fits c.requires c.option-list.ensures c.items-newline.ensures, c.well_formed)

pub overflow_add-result : goal.overflow_add-result
overflow_add-result c = omega (arith, print_ends c.requires c.option-list.ensures c.items-newline.ensures c.option-write.ensures, c.well_formed)
