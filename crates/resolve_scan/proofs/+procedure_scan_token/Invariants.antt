-- What falls from call to call, and what the scan's loop keeps.
use Prim.Native.Nat.{◌+◌, ◌-◌, ◌*◌}
use lib.ListN.{length}
use Rattle.resolve_scan.proofs.Scanning.{Scanned}
use Rattle.resolve_scan.proofs.+procedure_scan_token.Given as goal

abbrev pub decreases-procedure : goal.decreases-procedure
decreases-procedure l = 3 * (length l.inputs.now.source.words.now - l.spot.at)

abbrev pub decreases-scan : goal.decreases-scan
decreases-scan l = 3 * (length l.inputs.now.source.words.now - l.spot.at) + 2

abbrev pub decreases-token : goal.decreases-token
decreases-token l = 3 * (length l.inputs.now.source.words.now - l.spot.at) + 1

abbrev pub invariant-scan-loop-next : goal.invariant-scan-loop-next
invariant-scan-loop-next l =
    Scanned l.inputs.source.names.now l.inputs.source.words.now l.inputs.rows.words.now l.initial.out l.inputs.rows.count l.scope l.fn.spot.at l.end l.fn.spot.to l.next.at l.next.to l.out

abbrev pub decreases-scan-loop-next : goal.decreases-scan-loop-next
decreases-scan-loop-next l =
    l.end - l.next.at
