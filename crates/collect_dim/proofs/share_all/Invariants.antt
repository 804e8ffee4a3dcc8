-- `share_all`: so many declarators, each entered. Assumes nothing.
use Rattle.collect_dim.proofs.Doing.{Sharing}
use Rattle.rows_table.specs.Rows.{width}
use Rattle.base_words.specs.Word.{pay_of}
use lib.ListN.{length, get_or}
use mathlib.Core.Path.{◌≡◌}
use Prim.Native.Nat.{◌+◌, ◌*◌, ◌≤◌}
use Rattle.collect_dim.proofs.share_all.Given as goal

abbrev pub invariant-loop : goal.invariant-loop
invariant-loop l = Sharing l.words (l.at + 1) (pay_of (get_or l.words l.at 0)) l.m l.counter l.initial.c l.c l.initial.b l.b × (l.c.rows * width ≤ length l.b) × (length l.b ≡ length l.initial.b)
