-- `begin` by cases: too large, a table that breaks its rule, or one that keeps it. Assumes nothing.
use Rattle.std.proofs.Common.{refl}
use Rattle.std.proofs.lemmas.Result.{err_from_is_err_and}
use Rattle.base_words.specs.Refusals.{refused}
use Rattle.base_strings.specs.OpenLaws.{said_sound, answers_size, answers_breaks}
use Rattle.entry_read.specs.Begun.{Begun}
use Rattle.entry_read.proofs.begin.Goals as goal

pub returns-then-not-sized : goal.returns-then-not-sized
unfolding Begun refused
returns-then-not-sized c = answers_size c.if-not-sized.true refl

pub returns-in_err-check : goal.returns-in_err-check
unfolding Begun refused
returns-in_err-check c = let p = err_from_is_err_and c.from_residual.result c.from_residual.ensures.1 in rw (p.1, p.2) (answers_breaks c.if-not-sized.false c.check.ensures c.in_err-check.was refl)

pub invariant_of-result : goal.invariant_of-result
invariant_of-result c = record { right = said_sound c.check.ensures c.in_ok-check.was }

pub returns : goal.returns
unfolding Begun
returns c = record { within = c.if-not-sized.false; right = said_sound c.check.ensures c.in_ok-check.was; bytes_are = refl; ends_are = refl; names = λ n. n }
