-- `look`: by the number of the sort. Assumes nothing.
use mathlib.Core.Path.{refl, sym}
use mathlib.Core.Logic.{inr}
use native.Mathlib.Omega.{arith}
use Rattle.tree_stmt.specs.Sorts.{name, text, mark}
use Rattle.tree_stmt.specs.Frames.{goes}
use Rattle.tree_stmt.proofs.Steps.{name_word, is_own, is_target, is_item, sort_opt, sort_many, sort_group, leaf_arm, never_arm, group_arm}
use Rattle.tree_stmt.proofs.Frames.{told_goes, row_same, look_arm}
use Rattle.tree_stmt.proofs.look.Goals as goal

pub returns-in-0 : goal.returns-in-0
returns-in-0 c = look_arm _ _ _ _ (is_own 0 c.in-0.is refl) (goes (told_goes _ _ _ _ (never_arm _ _ _ _ _ _ c.nowhere.ensures) c.told.ensures))

pub returns-in-1 : goal.returns-in-1
returns-in-1 c = goes (told_goes _ _ _ _ (leaf_arm _ _ _ _ _ _ name _ (is_own 1 c.in-1.is refl) (name_word _ _ _ c.name.ensures)) c.told-in-1.ensures)

pub returns-in-2 : goal.returns-in-2
returns-in-2 c = goes (told_goes _ _ _ _ (leaf_arm _ _ _ _ _ _ text _ (is_own 2 c.in-2.is refl) c.mark.ensures) c.told-in-2.ensures)

pub returns-in-3 : goal.returns-in-3
returns-in-3 c = goes (told_goes _ _ _ _ (leaf_arm _ _ _ _ _ _ (mark 3 0 2) _ (is_own 3 c.in-3.is refl) c.mark-in-3.ensures) c.told-in-3.ensures)

pub returns-in-4 : goal.returns-in-4
returns-in-4 c = goes (told_goes _ _ _ _ (leaf_arm _ _ _ _ _ _ (mark 4 0 16777216) _ (is_own 4 c.in-4.is refl) c.mark-in-4.ensures) c.told-in-4.ensures)

pub returns-in-5 : goal.returns-in-5
returns-in-5 c = goes (told_goes _ _ _ _ (leaf_arm _ _ _ _ _ _ (mark 7 65 91) _ (is_own 5 c.in-5.is refl) c.mark-in-5.ensures) c.told-in-5.ensures)

pub returns-in-6 : goal.returns-in-6
returns-in-6 c = goes (told_goes _ _ _ _ (leaf_arm _ _ _ _ _ _ (mark 9 0 4) _ (is_own 6 c.in-6.is refl) c.mark-in-6.ensures) c.told-in-6.ensures)

pub returns-in-7 : goal.returns-in-7
returns-in-7 c = goes (told_goes _ _ _ _ (leaf_arm _ _ _ _ _ _ (mark 9 0 5) _ (is_own 7 c.in-7.is refl) c.mark-in-7.ensures) c.told-in-7.ensures)

pub returns-in-8 : goal.returns-in-8
returns-in-8 c = goes (told_goes _ _ _ _ (leaf_arm _ _ _ _ _ _ (mark 9 0 18) _ (is_own 8 c.in-8.is refl) c.mark-in-8.ensures) c.told-in-8.ensures)

pub returns-in-9 : goal.returns-in-9
returns-in-9 c = look_arm _ _ _ _ (is_own 9 c.in-9.is refl) (goes c.expression.ensures)

pub returns-in-10 : goal.returns-in-10
returns-in-10 c = look_arm _ _ _ _ (is_own 10 c.in-10.is refl) (goes (c.statement.ensures _ _))

pub returns-in-11 : goal.returns-in-11
returns-in-11 c = look_arm _ _ _ _ (is_target c.in-11.is) (goes (told_goes _ _ _ _ c.goto_target.ensures c.told-in-11.ensures))

pub returns-in-12 : goal.returns-in-12
returns-in-12 c = look_arm _ _ _ _ (is_own 12 c.in-12.is refl) (goes (told_goes _ _ _ _ c.type_ref.ensures c.told-in-12.ensures))

pub returns-in-13 : goal.returns-in-13
returns-in-13 c = look_arm _ _ _ _ (is_item c.in-13.is) (goes (c.item.ensures _ _))

pub returns-in-14 : goal.returns-in-14
returns-in-14 c = look_arm _ _ _ _ (is_own 14 c.in-14.is refl) (goes (c.choice.ensures _ _))

pub returns-in-15 : goal.returns-in-15
returns-in-15 c = look_arm _ _ _ _ (is_own 15 c.in-15.is refl) (goes (c.choice-in-15.ensures _ _))

pub returns-in-16-to-63 : goal.returns-in-16-to-63
returns-in-16-to-63 c = look_arm _ _ _ _ (sort_opt _ (omega arith) (omega arith)) (c.optional.ensures _ _)

pub returns-in-64-to-111 : goal.returns-in-64-to-111
returns-in-64-to-111 c = look_arm _ _ _ _ (sort_many _ (omega arith) (omega arith)) (goes (c.list.ensures _ _))

pub returns-in_default : goal.returns-in_default
returns-in_default c = look_arm _ _ _ _ (sort_group _ (omega arith)) (row_same _ _ _ c.one_row.ensures (inr refl) (sym (group_arm _ _ _ _ _ _ _ refl)))
