-- lay_rows: the lines of the rows so far are written, 56 bytes each.
use Rattle.std.proofs.Common.{take, ◌+◌, ◌*◌}
use mathlib.Core.List.{flat_map}
use Rattle.base_text.specs.Wrote.{Wrote}
use Rattle.list_page.specs.Page.{line}
use Rattle.list_page.proofs.lay_rows.Given as goal

abbrev pub invariant-loop-i : goal.invariant-loop-i
invariant-loop-i l = Wrote (flat_map (line 84) (take l.i l.rows)) l.initial.out l.out l.at (l.at + 56 * l.i)
