-- All arrays: the loop's invariant is what is said of the rows before. Assumes nothing.
use Rattle.entry_collisions.proofs.Laws.{Upto}
use Rattle.entry_collisions.proofs.collisions.Given as goal

abbrev pub invariant-loop-i : goal.invariant-loop-i
invariant-loop-i l = Upto l.strings.bytes.now l.strings.ends.now l.b l.rows.count l.from l.end l.initial.t l.initial.d l.t l.d l.i
