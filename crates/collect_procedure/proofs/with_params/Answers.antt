-- `with_params`: the old parameters go but for those that are replaced, the procedure and the new ones come: one replacement. Assumes nothing.
use native.Mathlib.Omega.{arith}
use Rattle.collect_procedure.proofs.Does.{with_params_lem}
use Rattle.collect_procedure.proofs.with_params.Goals as goal

pub returns : goal.returns
returns c =
    with_params_lem c.args.p.line _ _ _ (omega (arith, c.well_formed)) c.bit-f.ensures.value c.row_words-head.ensures.head c.row_words-head.ensures.arg c.remove_under-s1.ensures c.enter-s2.ensures c.param_rows.ensures
