-- `typed_params`: at each turn the typed ones among the parameters that were read are entered. Assumes nothing.
use Prim.Native.Nat.{◌+◌}
use mathlib.Core.Path.{refl, ◌∙◌}
use Rattle.collect_buffers.proofs.Compose.{each_none}
use Rattle.collect_definition.specs.Collect.{typed_param}
use Rattle.collect_procedure.specs.Post.{plain}
use Rattle.collect_as_clause.specs.Turns.{turn_start}
use Rattle.collect_procedure.proofs.Walk.{walk_place, walk_next, walk_end}
use Rattle.collect_procedure.proofs.Does.{acts_next}
use Rattle.collect_procedure.proofs.Reading.{proc_params}
use Rattle.collect_procedure.proofs.typed_params.Goals as goal

pub loop-init : goal.loop-init
loop-init c = (refl, refl, c.requires.1, turn_start _ (each_none (λ x N D. typed_param (plain N D) (c.args.p.name + 1) c.args.p.line x) c.requires.1) _ _ _)

pub param-q-requires : goal.param-q-requires
param-q-requires c = walk_place c.loop.invariant.3 c.loop-test.true (proc_params c.requires.0)

pub loop-preserved : goal.loop-preserved
loop-preserved c =
    (c.typed_param-c.auto.b ∙ c.loop.invariant.0, c.typed_param-c.auto.d ∙ c.loop.invariant.1, c.typed_param-c.ensures.fit, walk_next c.loop.invariant.3 _ c.loop-test.true c.param-q.ensures (λ done p l o H. acts_next (λ x N D. typed_param (plain N D) (c.args.p.name + 1) c.args.p.line x) c.typed_param-c.ensures done p o H))

pub returns : goal.returns
returns c = record { fit = c.loop.invariant.2; does = walk_end c.loop.invariant.3 c.loop-test.false }
