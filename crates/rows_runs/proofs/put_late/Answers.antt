-- `put_late` by its three answers: no room, in the late run, and in the late run that is then joined to the first; each is a law of `Entering`. Assumes nothing.
use Rattle.std.specs.Prelude.{◌≡◌, ◌+◌, ◌*◌, length}
use Rattle.std.proofs.Common.{◌∙◌, rules}
use Rattle.rows_table.specs.Rows.{width}
use Rattle.rows_runs.specs.Parts.{put_rest}
use Rattle.rows_runs.specs.Entering.{late_runs, late_kept, late_joined, late_full}
use Rattle.rows_runs.proofs.put_late.Goals.{then-late-eq32, else-late-eq32}
use Rattle.rows_runs.proofs.put_late.Goals as goal

pub returns-in_err-late-clause-after : goal.returns-in_err-late-clause-after
returns-in_err-late-clause-after c = λ rows P b f.
    rw c.from_residual.ensures (late_full c.args.m P b c.args.row.now c.told-row f c.insert.result c.insert.new.b c.insert.ensures.after c.in_err-late.was _)

pub returns-clause-after : goal.returns-clause-after
returns-clause-after c = λ rows P b f.
    let long : length (put_rest c.args.b.now (c.args.m * width) c.insert.new.b) ≡ length c.args.b.now = search rules in
    elim c.if-late-eq32.branch [
      | then-late-eq32 w ↦
          late_joined c.args.m P b c.args.row.now c.told-row f (c.args.m + c.in_ok-late.late) c.if-late-eq32.b (c.if-late-eq32.auto.b ∙ long)
          (rw w.b-is (w.join.ensures _ _ (late_runs c.args.m P b c.args.row.now c.told-row f c.insert.result c.insert.new.b c.insert.ensures.after c.in_ok-late.late c.in_ok-late.was)))
      | else-late-eq32 w ↦
          rw w.b-is (late_kept c.args.m P b c.args.row.now c.told-row f c.insert.result c.insert.new.b c.insert.ensures.after c.in_ok-late.late c.in_ok-late.was long w.if-late-eq32.false)
    ]
