-- `join` has nothing to do where a run has no rows or the late one comes after the first; else the late rows are copied, cleared and merged in. Assumes nothing.
use Rattle.std.specs.Prelude.{◌≡◌, refl, ℕ, ◌+◌, ◌-◌}
use Rattle.std.proofs.Common.{subst, arith}
use Rattle.rows_table.specs.Rows.{insert_all, Holds}
use Rattle.rows_runs.specs.Parts.{runs_short, runs_none, runs_order, late_copied, late_cleared}
use Rattle.rows_runs.proofs.join.Goals.{then-m-eq0-via-then-m-eq0, then-m-eq0-via-else-m-eq0+then-m-count, then-m-eq0-via-else-m-eq0+else-m-count+then-key_at}
use Rattle.rows_runs.proofs.join.Goals as goal

pub returns-then-m-eq0 : goal.returns-then-m-eq0
returns-then-m-eq0 c = λ first late R. elim c.then-m-eq0.branch [
  | then-m-eq0-via-then-m-eq0 w ↦ runs_short first late R refl w.if-m-eq0.true
  | then-m-eq0-via-else-m-eq0+then-m-count w ↦ runs_none first late R w.if-m-count.true
  | then-m-eq0-via-else-m-eq0+else-m-count+then-key_at w ↦
      runs_order R w.key_at.result w.key_at-else-m-count.result (omega (arith, w.if-m-eq0.false)) (omega (arith, w.if-m-count.false, c.requires.1)) w.key_at.ensures
      w.key_at-else-m-count.ensures w.if-key_at.true
]

pub returns : goal.returns
returns c =
    let e : c.args.m + (c.args.count - c.args.m) ≡ c.args.count = omega (arith, c.requires.1) in
    λ first late R.
    subst (λ (n : ℕ). Holds (insert_all late first) n c.merge.new.b) e
    (c.merge.ensures.merged first late (late_cleared R c.clear.new.b c.clear.ensures) (late_copied R 192 _ c.put_words.new.b refl c.put_words.ensures) R.apart)
