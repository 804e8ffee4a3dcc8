-- put_each: the words so far are written.
use Rattle.std.proofs.Common.{take}
use mathlib.Core.List.{flat_map}
use Rattle.base_text.specs.Wrote.{Wrote}
use Rattle.list_page.specs.Page.{word}
use Rattle.list_page.proofs.put_each.Given as goal

abbrev pub invariant-loop-w : goal.invariant-loop-w
invariant-loop-w l = Wrote (flat_map word (take l.w-index l.words)) l.initial.out l.out l.at l.next
