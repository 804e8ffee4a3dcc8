-- The cycle of `procedure`, `scan` and `token`: each cites the laws of `Steps` and `Scanning`. The measure is three times the words left from the
-- reading place, one more for a token and two more for a scan. Assumes nothing.
use native.Mathlib.Omega.{arith}
use Rattle.resolve_scan.proofs.Steps.{token_inside, raw_room, raws_room, raw_done, raws_done, paren_done, is_plain, low_plain, one_done}
use Rattle.resolve_scan.proofs.Scanning.{some_stmt, ready_inner, procedure_done, scan_from, scan_next, scan_less, scan_step, scan_done}
use Rattle.resolve_scan.proofs.+procedure_scan_token.Goals.{token-in_default-via-then-k-lt23, token-in_default-via-else-k-lt23+else-k-lt26+else-k-lt28+then-k-lt84, token-in_default-via-else-k-lt23+else-k-lt26+else-k-lt28+else-k-lt84+else-k-lt86}
use Rattle.resolve_scan.proofs.+procedure_scan_token.Goals as goal

pub procedure-inside-inner-requires : goal.procedure-inside-inner-requires
procedure-inside-inner-requires t c = (some_stmt c.requires.0 c.requires.1 c.requires.2, c.requires.0.room.scoped)

pub procedure-scan-to-requires : goal.procedure-scan-to-requires
procedure-scan-to-requires t c = (omega (arith, c.decreases, token_inside c.requires.0, c.one-first.ensures.0), (ready_inner c.requires.0 c.requires.1 c.requires.2 c.past-end.ensures c.inside-inner.ensures c.one-first.auto.out c.one-first.ensures.0 c.one-first.ensures.1))

pub procedure-returns : goal.procedure-returns
procedure-returns t c = procedure_done c.requires.1 c.requires.2 c.past-end.ensures c.inside-inner.ensures c.one-first.ensures c.scan-to.ensures

pub scan-token-next-requires : goal.scan-token-next-requires
scan-token-next-requires t c = (omega (arith, c.decreases, scan_from c.requires c.loop-next.invariant), (scan_next c.requires c.loop-next.invariant c.loop-next-test.true c.loop-next.auto.out))

pub scan-loop-next-smaller : goal.scan-loop-next-smaller
scan-loop-next-smaller t c = omega (arith, scan_less c.requires c.loop-next.invariant c.loop-next-test.true c.token-next.ensures)

pub scan-loop-next-preserved : goal.scan-loop-next-preserved
scan-loop-next-preserved t c = scan_step c.loop-next.invariant c.loop-next-test.true c.token-next.ensures

pub scan-returns : goal.scan-returns
scan-returns t c = scan_done c.loop-next.invariant c.loop-next-test.false

pub token-returns-then-k-lt21 : goal.token-returns-then-k-lt21
token-returns-then-k-lt21 t c = one_done (low_plain _ c.if-k-lt21.true) c.one.ensures

pub token-two-requires : goal.token-two-requires
token-two-requires t c = raw_room c.requires (omega arith) (omega arith)

pub token-begin-requires : goal.token-begin-requires
token-begin-requires t c = raws_room c.requires (omega arith) (omega arith)

pub token-returns-in-23 : goal.token-returns-in-23
token-returns-in-23 t c = paren_done c.in-23.is

pub token-returns-in-24 : goal.token-returns-in-24
token-returns-in-24 t c = raw_done (omega arith) (omega arith) c.two.ensures

pub token-returns-in-26 : goal.token-returns-in-26
token-returns-in-26 t c = raws_done (omega arith) (omega arith) c.begin.ensures

pub token-returns-in_default : goal.token-returns-in_default
token-returns-in_default t c = elim c.in_default.branch [ token-in_default-via-then-k-lt23 w ↦ one_done (search (arith, is_plain)) c.one-in_default.ensures | token-in_default-via-else-k-lt23+else-k-lt26+else-k-lt28+then-k-lt84 w ↦ one_done (search (arith, is_plain)) c.one-in_default.ensures | token-in_default-via-else-k-lt23+else-k-lt26+else-k-lt28+else-k-lt84+else-k-lt86 w ↦ one_done (search (arith, is_plain)) c.one-in_default.ensures ]
