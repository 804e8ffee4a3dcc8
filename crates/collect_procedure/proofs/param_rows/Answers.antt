-- `param_rows`: at each turn the rows of the parameters that were read are entered, each under its ordinal. Assumes nothing.
use Prim.Native.Nat.{ℕ, ◌+◌, ◌*◌, ◌≤◌}
use mathlib.Core.Path.{refl, sym, ap₂, subst, ◌∙◌}
use lib.ListN.{length}
use Rattle.rows_table.specs.Rows.{note_width}
use Rattle.collect_as_clause.specs.Turns.{turn_start}
use Rattle.collect_procedure.proofs.Walk.{walk_place, walk_next, walk_end}
use Rattle.collect_procedure.proofs.Does.{params_none, params_next}
use Rattle.collect_procedure.proofs.Reading.{proc_params}
use Rattle.collect_procedure.proofs.param_rows.Goals as goal

pub loop-i-init : goal.loop-i-init
loop-i-init c = (refl, refl, c.requires.1, turn_start _ (λ d k. params_none c.args.p.name (c.requires.1, k)) _ _ _)

pub param-q-requires : goal.param-q-requires
param-q-requires c = walk_place c.loop-i.invariant.3 c.loop-i-test.true (proc_params c.requires.0)

pub loop-i-preserved : goal.loop-i-preserved
loop-i-preserved c =
    let m = ap₂ (λ (x y : ℕ). x + 2 * y) c.bit.ensures.value c.bit-in-loop-i.ensures.value in
    (c.enter-c.auto.b ∙ c.loop-i.invariant.0, c.enter-c.ensures.kept ∙ c.loop-i.invariant.1, c.enter-c.ensures.fit, walk_next c.loop-i.invariant.3 _ c.loop-i-test.true c.param-q.ensures (λ done p l o G d k. params_next c.args.p.name m c.row_words-head.ensures.head c.row_words-head.ensures.arg c.enter-c.ensures (subst (λ (x : ℕ). x * note_width ≤ length d) (sym c.loop-i.invariant.1) k) done p l o (G d k)))

pub returns : goal.returns
returns c = record { kept = c.loop-i.invariant.1; fit = c.loop-i.invariant.2; does = λ ps T d k. walk_end c.loop-i.invariant.3 c.loop-i-test.false ps T d k }
