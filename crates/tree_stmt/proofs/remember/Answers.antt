-- `remember`: the two words of a slot are written, of a memo that has one. Assumes nothing.
use Prim.Native.Nat.{◌/◌, ◌<◌}
use native.Mathlib.Omega.{arith}
use native.Mathlib.Nat.{mod-lt}
use lib.ListN.{length}
use Rattle.tree_stmt.proofs.Memo.{remembered_slot}
use Rattle.tree_stmt.proofs.remember.Goals as goal

pub returns : goal.returns
returns c =
    let some : 0 < length c.args.memo.now / 2 = omega arith in
    remembered_slot _ _ _ _ (omega (arith, mod-lt c.args.at some))
