-- `put_words` pastes the row: j words of it are in. Assumes nothing.
use mathlib.Core.Path.{◌≡◌, ◌∙◌}
use mathlib.Core.List.{append_assoc}
use Prim.Native.Nat.{◌+◌}
use native.Mathlib.Omega.{arith}
use native.Mathlib.Numerals.{add-one}
use lib.ListN.{length, take, drop}
use lib.Seq.{paste-zero, paste-suc, take-length}
use Rattle.rows_table.proofs.put_words.Goals as goal

pub loop-j-init : goal.loop-j-init
loop-j-init c = paste-zero c.args.b.now c.args.at c.args.row.now

pub loop-j-preserved : goal.loop-j-preserved
loop-j-preserved c =
    let a = c.args in
    rw (add-one, c.loop-j.invariant) (paste-suc a.b.now a.at a.row.now c.loop-j.j 0 (omega arith) (omega arith))

pub returns : goal.returns
returns c =
    let a = c.args in
    let e : c.loop-j.j ≡ length a.row.now = omega arith in
    let whole : take (length a.row.now) a.row.now ≡ a.row.now = take-length a.row.now in
    (rw (e, whole) at c.loop-j.invariant) ∙ append_assoc (take a.at a.b.now) a.row.now (drop (a.at + length a.row.now) a.b.now)
