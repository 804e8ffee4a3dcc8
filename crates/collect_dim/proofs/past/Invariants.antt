-- `past`: so many declarators, each passed. Assumes nothing.
use Prim.Native.Nat.{◌+◌}
use lib.ListN.{get_or}
use Rattle.base_words.specs.Word.{pay_of}
use Rattle.tree_stmt.specs.Sorts.{Declarator}
use Rattle.collect_dim.proofs.Reading.{Passing}
use Rattle.collect_dim.proofs.past.Given as goal

abbrev pub invariant-loop : goal.invariant-loop
invariant-loop l = Passing Declarator l.words (l.at + 1) (pay_of (get_or l.words l.at 0)) l.m l.counter
