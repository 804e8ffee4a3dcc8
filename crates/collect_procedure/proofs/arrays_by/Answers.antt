-- `arrays_by`: at each turn the arrays among the parameters that were read are entered. Assumes nothing.
use Prim.Native.Nat.{◌+◌}
use mathlib.Core.Path.{refl, ◌∙◌}
use Rattle.collect_buffers.proofs.Compose.{each_none}
use Rattle.collect_definition.specs.Collect.{array_param}
use Rattle.collect_procedure.specs.Post.{plain}
use Rattle.collect_as_clause.specs.Turns.{turn_start}
use Rattle.collect_procedure.proofs.Walk.{walk_place, walk_next, walk_end}
use Rattle.collect_procedure.proofs.Does.{enters_next}
use Rattle.collect_procedure.proofs.Reading.{proc_params, proc_body}
use Rattle.collect_procedure.proofs.arrays_by.Goals as goal

pub loop-init : goal.loop-init
loop-init c = (refl, refl, c.requires.2, λ t B. turn_start _ (λ d k. each_none (λ x N D. array_param (plain N D) (c.args.p.name + 1) c.args.p.line t x) (c.requires.2, k)) _ _ _)

pub param-q-requires : goal.param-q-requires
param-q-requires c = walk_place (c.loop.invariant.3 _ (proc_body c.requires.0).there) c.loop-test.true (proc_params c.requires.0)

pub loop-preserved : goal.loop-preserved
loop-preserved c =
    let G = c.array_param-c.ensures _ (proc_body c.requires.0).there in
    (c.array_param-c.auto.b ∙ c.loop.invariant.0, G.kept ∙ c.loop.invariant.1, G.fit, λ t B. walk_next (c.loop.invariant.3 t B) _ c.loop-test.true c.param-q.ensures (λ done p l o H. enters_next (λ x N D. array_param (plain N D) (c.args.p.name + 1) c.args.p.line t x) c.loop.invariant.1 (c.array_param-c.ensures t B) done p o H))

pub returns : goal.returns
returns c = λ t B. record { kept = c.loop.invariant.1; fit = c.loop.invariant.2; does = λ ps T d k. walk_end (c.loop.invariant.3 t B) c.loop-test.false ps T d k }
