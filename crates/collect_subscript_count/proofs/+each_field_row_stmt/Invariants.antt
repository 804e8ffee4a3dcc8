-- What falls from call to call, and what the loops keep.
use lib.ListN.{length, drop}
use Rattle.tree_stmt.specs.Codes.{codes, decode, sort_at, row_of}
use Rattle.tree_stmt.proofs.Steps.{size_s, size_r}
use Rattle.tree_walk.proofs.Walk.{WalkedRows, WalkedRow}
use Rattle.collect_subscript_count.specs.Notes.{mark_at}
use Rattle.collect_subscript_count.specs.Code.{Counted}
use Prim.Native.Nat.{◌+◌, ◌-◌, ◌*◌, ◌≤◌}
use Rattle.collect_subscript_count.proofs.+each_field_row_stmt.Given as goal

abbrev pub decreases-each : goal.decreases-each
decreases-each l = (length l.words.now - l.at) * 1000 + size_r (row_of l.r) + 1

abbrev pub decreases-field : goal.decreases-field
decreases-field l = (length l.words.now - l.at) * 1000 + size_s (sort_at l.sort) + 1

abbrev pub decreases-row : goal.decreases-row
decreases-row l = (length l.words.now - l.at) * 1000 + size_r (row_of l.r)

abbrev pub decreases-stmt : goal.decreases-stmt
decreases-stmt l = (length l.words.now - l.at) * 1000

abbrev pub invariant-each-loop : goal.invariant-each-loop
invariant-each-loop l =
    WalkedRows (row_of l.r) l.n l.words l.at l.next l.counter (Counted l.k l.at l.next (mark_at l.base l.initial.t) (mark_at l.base l.t))

abbrev pub invariant-row-loop-i : goal.invariant-row-loop-i
invariant-row-loop-i l =
    (size_r (decode (drop l.i (codes l.r))) ≤ size_r (row_of l.r)) × WalkedRow l.r l.words l.at l.next l.i (Counted l.k l.at l.next (mark_at l.base l.initial.t) (mark_at l.base l.t))
