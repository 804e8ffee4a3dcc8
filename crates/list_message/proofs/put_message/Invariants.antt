-- put_message: what the pieces so far stand for is written.
use Rattle.std.proofs.Common.{take}
use mathlib.Core.List.{flat_map}
use Rattle.base_text.specs.Wrote.{Wrote}
use Rattle.list_message.specs.Pieces.{shown}
use Rattle.list_message.proofs.put_message.Given as goal

abbrev pub invariant-loop-piece : goal.invariant-loop-piece
invariant-loop-piece l = Wrote (flat_map (shown l.strings.bytes.now l.strings.ends.now l.d) (take l.piece-index l.piece-items)) l.initial.out l.out l.at l.next
