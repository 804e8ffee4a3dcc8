-- What the walk asks, at the start of a run: a program that passed the checks, and buffers that hold nothing. Assumes nothing.
use Rattle.std.specs.Prelude.{ℕ, refl, List, [], length}
use Rattle.std.proofs.Common.{arith}
use Rattle.rows_table.specs.Images.{holds_fits}
use Rattle.rows_runs.specs.Laws.{keeps_fits}
use Rattle.collect_buffers.specs.State.{running}
use Rattle.collect_buffers.specs.Held.{Held}
use Rattle.collect_buffers.specs.declared.Counts.{Counts}
use Rattle.collect_definition.specs.Passed.{Passed}
use Rattle.collect_definition.specs.PassedLaws.{marks_many, passed_whole}
use Rattle.law_collected_rows.specs.Good.{no_rows_lem}
use Rattle.law_collected_rows.specs.Views.{module_scope}
use Rattle.collect_scan.specs.Walk.{ReadyWhole}

-- the walk may begin at the first word, in the module's scope
pub start_ready : {bytes ends erased ws marks : List ℕ} {s : Counts} {b d : List ℕ} {N D : ℕ} → Passed bytes ends erased ws marks → Held N D (running [] []) s b d
    → ReadyWhole ws marks bytes ends 0 0 s b d
start_ready {ends = ends} {ws = ws} {marks = marks} {N = N} {D} P H =
    let w = passed_whole P P.program P.accepted in
    record {
      ready = record {
        tree = record { tree = P.program; end = length ws; stands = w.stands; shallow = w.shallow };
        around = record { named = P.named; counted = marks_many P; few = omega (arith, P.few, marks_many P); scoped = module_scope marks (length ends) };
        kept = record {
          fit = (keeps_fits H.inside.1, holds_fits H.inside.2);
          rows_room = N;
          notes_room = D;
          state = running [] [];
          held = H;
          good = no_rows_lem marks (length ends);
        };
      };
      whole = refl;
    }
