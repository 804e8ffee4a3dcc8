-- put_notes: the lines of the diagnostics so far are written.
use Rattle.std.proofs.Common.{take}
use mathlib.Core.List.{flat_map}
use Rattle.base_text.specs.Wrote.{Wrote}
use Rattle.list_message.specs.Message.{lines}
use Rattle.list_page.specs.Page.{diag_of}
use Rattle.list_page.proofs.put_notes.Given as goal

abbrev pub invariant-loop-note : goal.invariant-loop-note
invariant-loop-note l = Wrote (flat_map (λ d. lines l.strings.bytes.now l.strings.ends.now (diag_of d)) (take l.note-index l.notes)) l.initial.out l.out l.at l.next
