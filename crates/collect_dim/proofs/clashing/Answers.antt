-- `clashing`: one law for each answer. Assumes nothing.
use mathlib.Core.Path.{refl}
use Rattle.collect_dim.proofs.Asking.{clash_kept, clash_same, clash_other}
use Rattle.collect_dim.specs.Declarators.{clash_of}
use Rattle.collect_dim.proofs.clashing.Goals as goal

pub returns-in_err-old : goal.returns-in_err-old
unfolding clash_of
returns-in_err-old c = rw c.in_err-old.was c.from_residual.ensures

pub returns-then-kept : goal.returns-then-kept
returns-then-kept c = rw c.in_ok-old.was (clash_kept c.args.erased.now c.args.st.redim c.args.st.preserve c.args.name c.args.rank _ c.kept.ensures c.if-kept.true)

pub returns-then-old-rank : goal.returns-then-old-rank
returns-then-old-rank c = rw c.in_ok-old.was (clash_same c.args.erased.now c.args.st.redim c.args.st.preserve c.args.name c.args.rank _ c.kept.ensures c.if-kept.false c.if-old-rank.true)

pub returns-then-st : goal.returns-then-st
returns-then-st c = rw c.in_ok-old.was (clash_other c.args.erased.now c.args.st.redim c.args.st.preserve c.args.name c.args.rank _ c.kept.ensures c.if-kept.false c.if-old-rank.false (rw c.if-st.true refl))

pub returns-else-st : goal.returns-else-st
returns-else-st c = rw c.in_ok-old.was (clash_other c.args.erased.now c.args.st.redim c.args.st.preserve c.args.name c.args.rank _ c.kept.ensures c.if-kept.false c.if-old-rank.false (rw c.if-st.false refl))
