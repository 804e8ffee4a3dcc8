-- 5, then 1, and then the checks of the tree. Assumes nothing.
use mathlib.Core.Path.{sym, ◌∙◌, refl}
use Rattle.std.proofs.lemmas.Result.{err_from_is_err_and}
use Rattle.base_strings.specs.OpenLaws.{said_sound, answers_size, answers_breaks, answers_inner}
use Rattle.entry_read.proofs.Laws.{few_strings'}
use Rattle.entry_analyse.proofs.Laws.{entry_tells, size_tells, breaks_tells}
use Rattle.entry_analyse.proofs.analyse_in.Goals as goal

pub returns-then-not-sized_program : goal.returns-then-not-sized_program
returns-then-not-sized_program c = entry_tells (answers_size (sym c.sized_program.ensures ∙ c.if-not-sized_program.true) refl) (size_tells c.args.notes.now c.args.rows.now c.args.out.now)

pub returns-in_err-check : goal.returns-in_err-check
returns-in_err-check c = let p = err_from_is_err_and c.from_residual.result c.from_residual.ensures.1 in rw (p.1, p.2) (entry_tells (answers_breaks (sym c.sized_program.ensures ∙ c.if-not-sized_program.false) c.check.ensures c.in_err-check.was refl) (breaks_tells _ c.args.notes.now c.args.rows.now c.args.out.now))

pub invariant_of-strings : goal.invariant_of-strings
invariant_of-strings c = record { right = said_sound c.check.ensures c.in_ok-check.was }

pub marked-requires : goal.marked-requires
marked-requires c = (few_strings' c.args.strings.now.bytes.now c.args.strings.now.ends.now c.args.words.now c.args.erased.now (sym c.sized_program.ensures ∙ c.if-not-sized_program.false), c.requires)

pub returns : goal.returns
returns c = entry_tells (answers_inner (sym c.sized_program.ensures ∙ c.if-not-sized_program.false) (said_sound c.check.ensures c.in_ok-check.was) refl) c.marked.ensures
