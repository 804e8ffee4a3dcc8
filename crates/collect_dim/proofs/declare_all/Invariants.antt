-- `declare_all`: so many declarators, each declared. Assumes nothing.
use Rattle.collect_dim.proofs.Doing.{Declaring}
use Rattle.collect_buffers.specs.Held.{Fit}
use Rattle.base_words.specs.Word.{pay_of}
use lib.ListN.{length, get_or}
use mathlib.Core.Path.{◌≡◌}
use Prim.Native.Nat.{◌+◌}
use Rattle.collect_dim.proofs.declare_all.Given as goal

abbrev pub invariant-loop : goal.invariant-loop
invariant-loop l = Declaring l.strings.bytes.now l.strings.ends.now l.erased l.st.scope l.st.line l.st.redim l.st.preserve l.words (l.at + 1) (pay_of (get_or l.words l.at 0)) l.m l.counter l.initial.c l.c l.initial.b l.initial.d l.b l.d × Fit l.c (length l.b) (length l.d) × (length l.b ≡ length l.initial.b) × (length l.d ≡ length l.initial.d)
