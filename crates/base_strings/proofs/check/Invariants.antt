-- `check`: all strings before i are right, and the first that is not is a place where the table breaks. Assumes nothing.
use Rattle.std.proofs.Common.{◌≡◌, ◌-◌, true}
use Rattle.base_strings.specs.Table.{start_of, right_at, all_below}
use Rattle.base_strings.proofs.check.Given as goal

abbrev pub invariant-loop-i : goal.invariant-loop-i
invariant-loop-i l = record {
  here : l.from ≡ start_of l.strings.ends.now l.i;
  back : l.before ≡ start_of l.strings.ends.now (l.i - 1);
  right : all_below l.i (right_at l.strings.bytes.now l.strings.ends.now) ≡ true;
}
