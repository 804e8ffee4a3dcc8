-- `plan_for`, arm by arm: what a sort's number means, and the plan of such a sort. Assumes nothing.
use Prim.Native.Nat.{◌-◌}
use native.Mathlib.Omega.{arith}
use mathlib.Core.Path.{refl}
use Rattle.tree_stmt.proofs.Steps.{is_own, sort_opt, sort_many, sort_group}
use Rattle.tree_walk.proofs.Fields.{is_type, as_sort, of_sort, down, plan_plain, plan_group}
use Rattle.tree_walk.proofs.plan_for.Goals as goal

pub chosen-requires : goal.chosen-requires
chosen-requires c = (of_sort c.args.sort (is_own 11 c.in-11.is refl) c.requires.0, omega arith)

pub chosen-requires-in-12 : goal.chosen-requires-in-12
chosen-requires-in-12 c = (of_sort c.args.sort (is_type c.in-12.is) c.requires.0, omega arith)

pub chosen-requires-in-13 : goal.chosen-requires-in-13
chosen-requires-in-13 c = (of_sort c.args.sort (is_own 13 c.in-13.is refl) c.requires.0, omega arith)

pub chosen-requires-in-14 : goal.chosen-requires-in-14
chosen-requires-in-14 c = (of_sort c.args.sort (is_own 14 c.in-14.is refl) c.requires.0, omega arith)

pub chosen-requires-in-15 : goal.chosen-requires-in-15
chosen-requires-in-15 c = (of_sort c.args.sort (is_own 15 c.in-15.is refl) c.requires.0, omega arith)

pub listed-requires : goal.listed-requires
listed-requires c = of_sort c.args.sort (sort_many c.args.sort (omega arith) (omega arith)) c.requires.0

pub returns-in-11 : goal.returns-in-11
returns-in-11 c = as_sort c.args.sort (is_own 11 c.in-11.is refl) c.chosen.ensures

pub returns-in-12 : goal.returns-in-12
returns-in-12 c = as_sort c.args.sort (is_type c.in-12.is) c.chosen-in-12.ensures

pub returns-in-13 : goal.returns-in-13
returns-in-13 c = as_sort c.args.sort (is_own 13 c.in-13.is refl) c.chosen-in-13.ensures

pub returns-in-14 : goal.returns-in-14
returns-in-14 c = as_sort c.args.sort (is_own 14 c.in-14.is refl) c.chosen-in-14.ensures

pub returns-in-15 : goal.returns-in-15
returns-in-15 c = as_sort c.args.sort (is_own 15 c.in-15.is refl) c.chosen-in-15.ensures

pub returns-in_default : goal.returns-in_default
returns-in_default c = plan_plain c.args.words.now c.args.at c.args.sort (down 9 (down 10 (omega arith) c.requires.3) c.requires.2)

pub returns-in-16-to-63 : goal.returns-in-16-to-63
returns-in-16-to-63 c = as_sort c.args.sort (sort_opt c.args.sort (omega arith) (omega arith)) c.optional.ensures

pub returns-in-64-to-111 : goal.returns-in-64-to-111
returns-in-64-to-111 c = as_sort c.args.sort (sort_many c.args.sort (omega arith) (omega arith)) c.listed.ensures

pub returns-in-112-to-255 : goal.returns-in-112-to-255
returns-in-112-to-255 c = as_sort c.args.sort (sort_group c.args.sort (omega arith)) (plan_group c.args.words.now c.args.at (c.args.sort - 112))
