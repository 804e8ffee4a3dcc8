-- 5, then 1, and then the checks of the tree. Assumes nothing.
use Rattle.std.proofs.Common.{rules, refl, sym, ◌∙◌, length, ◌≤◌}
use Rattle.std.proofs.lemmas.Result.{err_from_is_err_and}
use Rattle.entry_read.specs.Begun.{begun_opened, begun_stops, begun_gives}
use Rattle.entry_read.proofs.Laws.{few_strings'}
use Rattle.entry_collect.specs.Entry.{told}
use Rattle.entry_collect.proofs.Entry.{leaves_begun, leaves_told}
use Rattle.entry_collect.proofs.collect.Goals as goal

pub returns-in_err-sound : goal.returns-in_err-sound
unfolding told
returns-in_err-sound c =
    let p = err_from_is_err_and c.from_residual.result c.from_residual.ensures.1 in
    rw (p.1, p.2) (record { answers = begun_stops (rw c.sized_program.ensures at c.begin.ensures) c.in_err-sound.was refl; leaves = leaves_begun _ c.args.bytes.now c.args.ends.now c.args.rows.now c.args.notes.now c.begin.ensures c.in_err-sound.was })

pub slice_bounds-names-end : goal.slice_bounds-names-end
slice_bounds-names-end c = let o = begun_opened c.begin.ensures c.in_ok-sound.was in let h : length c.args.ends.now ≤ 1024 = few_strings' c.args.bytes.now c.args.ends.now c.args.words.now c.args.erased.now (sym c.sized_program.ensures ∙ o.within) in search rules

pub slice_bounds-marks-end : goal.slice_bounds-marks-end
slice_bounds-marks-end c = let o = begun_opened c.begin.ensures c.in_ok-sound.was in let h : length c.args.ends.now ≤ 1024 = few_strings' c.args.bytes.now c.args.ends.now c.args.words.now c.args.erased.now (sym c.sized_program.ensures ∙ o.within) in search rules

pub mark_names-requires : goal.mark_names-requires
mark_names-requires c = let o = begun_opened c.begin.ensures c.in_ok-sound.was in let h : length c.args.ends.now ≤ 1024 = few_strings' c.args.bytes.now c.args.ends.now c.args.words.now c.args.erased.now (sym c.sized_program.ensures ∙ o.within) in rw o.ends_are (search rules)

pub invariant_of-program : goal.invariant_of-program
invariant_of-program c = let o = begun_opened c.begin.ensures c.in_ok-sound.was in record { named = record { strings = rw (o.bytes_are, o.ends_are) o.right; names = c.mark_names.ensures } }

pub returns : goal.returns
returns c = let o = begun_opened c.begin.ensures c.in_ok-sound.was in record { answers = begun_gives (rw c.sized_program.ensures at c.begin.ensures) c.in_ok-sound.was (rw (o.bytes_are, o.ends_are) at c.checked.ensures.is); leaves = leaves_told c.checked.ensures }
