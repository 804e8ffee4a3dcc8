-- `passes`: two sizes, then the string table. Assumes nothing.
use Rattle.std.proofs.Common.{refl, sym, arith}
use Rattle.std.proofs.lemmas.Bool.Decides.{nat_tests}
use Rattle.std.proofs.lemmas.Result.{err_from_is_err_and}
use Rattle.base_words.specs.Refusals.{refused}
use Rattle.base_strings.specs.OpenLaws.{said_sound, answers_breaks}
use Rattle.entry_lookup.specs.Leaves.{sized}
use Rattle.entry_lookup.proofs.passes.Goals as goal

pub returns-in_err-check-clause-told : goal.returns-in_err-check-clause-told
unfolding refused
returns-in_err-check-clause-told c =
    let p = err_from_is_err_and c.from_residual.result c.from_residual.ensures.1 in
    rw (p.1, p.2) (answers_breaks (sym c.if-not-sized.ensures) c.check.ensures c.in_err-check.was refl)

pub returns-clause-passed : goal.returns-clause-passed
unfolding sized
returns-clause-passed c = (said_sound c.check.ensures c.in_ok-check.was, grind (arith, nat_tests))
