-- `flat`: the rows of a fixed number of words, by their numbers. Assumes nothing.
use native.Mathlib.Omega.{arith}
use Rattle.tree_walk.proofs.Plain.{flat_names, flat_targets, flat_pairs}
use Rattle.tree_walk.proofs.flat.Goals as goal

pub returns-in-2 : goal.returns-in-2
returns-in-2 c = flat_names c.in-2.is

pub returns-in-7 : goal.returns-in-7
returns-in-7 c = flat_targets (omega arith)

pub returns-in-7-2 : goal.returns-in-7-2
returns-in-7-2 c = flat_pairs (omega arith) (omega arith)
