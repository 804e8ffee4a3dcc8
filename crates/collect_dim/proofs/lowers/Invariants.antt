-- `lowers`: so many bounds, and whether one of them is written. Assumes nothing.
use Rattle.collect_dim.proofs.Reading.{Lowering}
use lib.ListN.{get_or}
use Rattle.base_words.specs.Word.{pay_of}
use Prim.Native.Nat.{◌+◌}
use Rattle.collect_dim.proofs.lowers.Given as goal

abbrev pub invariant-loop : goal.invariant-loop
invariant-loop l = Lowering l.words (l.at + 1) (pay_of (get_or l.words l.at 0)) l.counter l.any l.m
