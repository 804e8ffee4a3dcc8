-- What falls from call to call: the words left.
use Prim.Native.Nat.{◌-◌}
use lib.ListN.{length}
use Rattle.fold_const_eval.proofs.+const_eval.Given as goal

-- the number of words left
abbrev pub decreases-const_eval : goal.decreases-const_eval
decreases-const_eval l = length l.words.now - l.at
