-- `mark_names`: the first i marks are those of the first i strings. Assumes nothing.
use Rattle.std.proofs.Common.{◌≡◌, length, take}
use Rattle.base_strings.specs.Table.{start_of, marks_below}
use Rattle.base_strings.proofs.mark_names.Given as goal

abbrev pub invariant-loop-i : goal.invariant-loop-i
invariant-loop-i l = record {
  here : l.from ≡ start_of l.strings.ends.now l.i;
  long : length l.names ≡ length l.strings.ends.now;
  marked : take l.i l.names ≡ marks_below l.strings.bytes.now l.strings.ends.now l.i;
}
