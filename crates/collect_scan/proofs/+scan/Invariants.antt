-- What falls from call to call, and what the scan's loop keeps.
use mathlib.Core.Path.{◌≡◌}
use lib.ListN.{length, get_or}
use Rattle.base_words.specs.Word.{kind_of}
use Rattle.collect_scan.specs.Walk.{Doing, SoFar}
use Prim.Native.Nat.{◌-◌, ◌<◌}
use Rattle.collect_scan.proofs.+scan.Given as goal

abbrev pub decreases-scan : goal.decreases-scan
decreases-scan l = l.to - l.from

abbrev pub invariant-loop-at : goal.invariant-loop-at
invariant-loop-at l =
    (length l.b ≡ length l.initial.b) × (length l.d ≡ length l.initial.d) × SoFar l.words l.program.source.names.now l.program.strings.bytes.now l.program.strings.ends.now l.program.erased.now l.scope l.from l.at l.to l.initial.t l.t l.initial.b l.initial.d l.b l.d × (l.at < l.to → Doing (kind_of (get_or l.words l.at 0)))

abbrev pub decreases-loop-at : goal.decreases-loop-at
decreases-loop-at l =
    l.to - l.at
