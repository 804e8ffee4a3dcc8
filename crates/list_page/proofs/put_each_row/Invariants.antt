-- put_each_row: the lines of the rows so far are written.
use Rattle.std.proofs.Common.{take}
use mathlib.Core.List.{flat_map}
use Rattle.base_text.specs.Wrote.{Wrote}
use Rattle.list_page.specs.Page.{line}
use Rattle.list_page.proofs.put_each_row.Given as goal

abbrev pub invariant-loop-row : goal.invariant-loop-row
invariant-loop-row l = Wrote (flat_map (line 84) (take l.row-index l.rows)) l.initial.out l.out l.at l.next
