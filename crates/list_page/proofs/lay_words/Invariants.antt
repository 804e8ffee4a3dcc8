-- lay_words: the words so far are written, nine bytes each.
use Rattle.std.proofs.Common.{take, ◌+◌, ◌*◌}
use mathlib.Core.List.{flat_map}
use Rattle.base_text.specs.Wrote.{Wrote}
use Rattle.list_page.specs.Page.{word}
use Rattle.list_page.proofs.lay_words.Given as goal

abbrev pub invariant-loop-i : goal.invariant-loop-i
invariant-loop-i l = Wrote (flat_map word (take l.i l.words)) l.initial.out l.out l.at (l.at + 9 * l.i)
