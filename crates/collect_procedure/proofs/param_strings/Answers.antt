-- `param_strings`: at each turn the parameters that were read are looked at in order, beside any rows. Assumes nothing.
use mathlib.Core.Path.{refl, ◌∙◌}
use Rattle.collect_buffers.proofs.Compose.{each_none}
use Rattle.collect_definition.specs.Collect.{param_string}
use Rattle.collect_procedure.specs.Post.{plain}
use Rattle.collect_as_clause.specs.Turns.{turn_start}
use Rattle.collect_procedure.proofs.Walk.{walk_place, walk_next, walk_end}
use Rattle.collect_procedure.proofs.Does.{says_next}
use Rattle.collect_procedure.proofs.Reading.{proc_params}
use Rattle.collect_procedure.proofs.param_strings.Goals as goal

pub loop-init : goal.loop-init
loop-init c = (refl, refl, c.requires.1, turn_start _ (λ b k. each_none (λ x N D. param_string (plain N D) c.args.p.line c.args.p.name x) (k, c.requires.1)) _ _ _)

pub param-q-requires : goal.param-q-requires
param-q-requires c = walk_place c.loop.invariant.3 c.loop-test.true (proc_params c.requires.0)

pub loop-preserved : goal.loop-preserved
loop-preserved c =
    (c.param_string-c.auto.d ∙ c.loop.invariant.0, c.param_string-c.ensures.kept ∙ c.loop.invariant.1, c.param_string-c.ensures.fit, walk_next c.loop.invariant.3 _ c.loop-test.true c.param-q.ensures (λ done p l o G. says_next (λ x N D. param_string (plain N D) c.args.p.line c.args.p.name x) c.loop.invariant.1 c.param_string-c.ensures done p o G))

pub returns : goal.returns
returns c = record { kept = c.loop.invariant.1; fit = c.loop.invariant.2; does = λ ps T b k. walk_end c.loop.invariant.3 c.loop-test.false ps T b k }
