-- `merge` puts the last of the rows to come in its place, until none is to come; the turns are laws of `Steps`. Assumes nothing.
use Rattle.std.specs.Prelude.{◌≡◌, ℕ, ◌+◌, ◌-◌}
use Rattle.std.proofs.Common.{arith, subst}
use Rattle.rows_merge.specs.Merge.{Merging}
use Rattle.rows_merge.proofs.Steps.{turn_first, turn_last}
use Rattle.rows_merge.proofs.merge.Goals as goal

pub loop-j-init : goal.loop-j-init
loop-j-init c =
    let a = c.args in
    record { few = omega arith; merging = λ rows more H S p. turn_first rows more a.count a.m a.b.now a.src.now H S p }

pub loop-j-preserved : goal.loop-j-preserved
loop-j-preserved c =
    let a = c.args in
    let e : c.loop-j.j ≡ c.loop-j.j - 1 + 1 = omega arith in
    record {
      few = omega (arith, c.place-i.ensures.within);
      merging = λ rows more H S p. c.place-i.ensures.placed rows more a.count a.m S (
          subst (λ (n : ℕ). Merging rows more a.count a.m c.loop-j.i n c.loop-j.b) e (c.loop-j.invariant.merging rows more H S p));
    }

pub returns-clause-merged : goal.returns-clause-merged
returns-clause-merged c =
    let a = c.args in
    let e : c.loop-j.j ≡ 0 = omega arith in
    λ rows more H S p.
    turn_last rows more a.count a.m c.loop-j.i c.loop-j.b a.src.now S
    (subst (λ (n : ℕ). Merging rows more a.count a.m c.loop-j.i n c.loop-j.b) e (c.loop-j.invariant.merging rows more H S p))
