-- `scan`: its loop cites the laws of `Walk`. The measure is what is left of the words, of the loop and of the scan of a body. Assumes nothing.
use mathlib.Core.Path.{refl, ◌∙◌}
use native.Mathlib.Omega.{arith}
use Rattle.collect_scan.proofs.Walk.{scan_start, scan_end, scan_past, scan_some, no_procedure, stmt_asks, stmt_past, procedure_some, ends_at, procedure_ready, procedure_span, body_ready, procedure_past}
use Rattle.collect_scan.proofs.+scan.Goals as goal

pub loop-at-init : goal.loop-at-init
loop-at-init t c = (refl, refl, scan_past (scan_start c.requires.0) c.ahead-at.ensures.passes, c.ahead-at.ensures.doing)

pub inside-own-requires : goal.inside-own-requires
inside-own-requires t c = (procedure_some c.loop-at.invariant.2 c.loop-at-test.true c.requires.0 (omega arith) (omega arith), c.requires.0.around.scoped.fits)

pub procedure-t-requires : goal.procedure-t-requires
procedure-t-requires t c = procedure_ready c.loop-at.invariant.2 c.loop-at-test.true c.requires.0 (omega arith) (omega arith) (ends_at c.requires.0 c.requires.1 c.marks.ensures c.past-e.ensures)

pub scan-t-requires : goal.scan-t-requires
scan-t-requires t c =
    let E = ends_at c.requires.0 c.requires.1 c.marks.ensures c.past-e.ensures in (
      omega (arith, c.decreases, c.loop-at.invariant.2.ahead, procedure_span c.loop-at.invariant.2 c.loop-at-test.true c.requires.0 (omega arith) (omega arith) E),
      (body_ready c.loop-at.invariant.2 c.loop-at-test.true c.requires.0 (omega arith) (omega arith) E c.inside-own.ensures (c.procedure-t.ensures _) (λ i. (c.type_inv.words i).fits), c.requires.1),
    )

pub ahead-at-requires-in-84 : goal.ahead-at-requires-in-84
ahead-at-requires-in-84 t c =
    let E = ends_at c.requires.0 c.requires.1 c.marks.ensures c.past-e.ensures in
    scan_some (procedure_past c.loop-at.invariant.2 c.loop-at-test.true c.requires.0 (omega arith) (omega arith) E c.inside-own.ensures (c.procedure-t.ensures _) c.scan-t.ensures) c.requires.0

pub loop-at-smaller-then-this-lt86 : goal.loop-at-smaller-then-this-lt86
loop-at-smaller-then-this-lt86 t c =
    let E = ends_at c.requires.0 c.requires.1 c.marks.ensures c.past-e.ensures in
    omega (arith, c.loop-at-test.true, procedure_span c.loop-at.invariant.2 c.loop-at-test.true c.requires.0 (omega arith) (omega arith) E, c.ahead-at-in-84.ensures.passes.ahead)

pub loop-at-preserved-then-this-lt86 : goal.loop-at-preserved-then-this-lt86
loop-at-preserved-then-this-lt86 t c =
    let E = ends_at c.requires.0 c.requires.1 c.marks.ensures c.past-e.ensures in (
      c.scan-t.auto.b ∙ c.procedure-t.auto.b ∙ c.loop-at.invariant.0,
      c.scan-t.auto.d ∙ c.procedure-t.auto.d ∙ c.loop-at.invariant.1,
      scan_past (procedure_past c.loop-at.invariant.2 c.loop-at-test.true c.requires.0 (omega arith) (omega arith) E c.inside-own.ensures (c.procedure-t.ensures _) c.scan-t.ensures) c.ahead-at-in-84.ensures.passes,
      c.ahead-at-in-84.ensures.doing,
    )

pub statement-t-requires : goal.statement-t-requires
statement-t-requires t c = stmt_asks c.loop-at.invariant.2 c.loop-at-test.true c.requires.0 (no_procedure (c.loop-at.invariant.3 c.loop-at-test.true) (λ e. omega arith) (λ e. omega arith))

pub ahead-at-requires-in_default : goal.ahead-at-requires-in_default
ahead-at-requires-in_default t c =
    let o = no_procedure (c.loop-at.invariant.3 c.loop-at-test.true) (λ e. omega arith) (λ e. omega arith) in
    scan_some (stmt_past c.loop-at.invariant.2 c.loop-at-test.true c.requires.0 o (λ i. (c.type_inv.words i).fits) c.statement-t.ensures) c.requires.0

pub loop-at-preserved : goal.loop-at-preserved
loop-at-preserved t c =
    let o = no_procedure (c.loop-at.invariant.3 c.loop-at-test.true) (λ e. omega arith) (λ e. omega arith) in (
      c.statement-t.auto.b ∙ c.loop-at.invariant.0,
      c.statement-t.auto.d ∙ c.loop-at.invariant.1,
      scan_past (stmt_past c.loop-at.invariant.2 c.loop-at-test.true c.requires.0 o (λ i. (c.type_inv.words i).fits) c.statement-t.ensures) c.ahead-at-in_default.ensures.passes,
      c.ahead-at-in_default.ensures.doing,
    )

pub returns : goal.returns
returns t c = scan_end c.loop-at.invariant.2 c.loop-at-test.false
