-- `read_statement`: how an entry begins, then what `statement_at` gives under the names' marks. Assumes nothing.
use Rattle.std.proofs.Common.{rules, refl, sym, ap, ◌∙◌, length, ◌≤◌}
use Rattle.std.proofs.lemmas.Result.{err_from_is_err_and}
use Rattle.entry_read.specs.Reading.{told, statement_of}
use Rattle.entry_read.specs.Begun.{begun_opened, begun_stops, begun_gives}
use Rattle.entry_read.proofs.Laws.{few_strings}
use Rattle.entry_read.proofs.read_statement.Goals as goal

pub returns-in_err-sound : goal.returns-in_err-sound
unfolding told
returns-in_err-sound c = let p = err_from_is_err_and c.from_residual.result c.from_residual.ensures.1 in begun_stops (rw c.sized_tree.ensures at c.begin.ensures) c.in_err-sound.was (rw (p.1, p.2) refl)

pub slice_bounds-names-end : goal.slice_bounds-names-end
slice_bounds-names-end c = let o = begun_opened c.begin.ensures c.in_ok-sound.was in let h : length c.args.ends.now ≤ 1024 = few_strings c.args.bytes.now c.args.ends.now c.args.words.now (sym c.sized_tree.ensures ∙ o.within) in search rules

pub slice_bounds-marks-end : goal.slice_bounds-marks-end
slice_bounds-marks-end c = let o = begun_opened c.begin.ensures c.in_ok-sound.was in let h : length c.args.ends.now ≤ 1024 = few_strings c.args.bytes.now c.args.ends.now c.args.words.now (sym c.sized_tree.ensures ∙ o.within) in search rules

pub mark_names-requires : goal.mark_names-requires
mark_names-requires c = let o = begun_opened c.begin.ensures c.in_ok-sound.was in let h : length c.args.ends.now ≤ 1024 = few_strings c.args.bytes.now c.args.ends.now c.args.words.now (sym c.sized_tree.ensures ∙ o.within) in rw o.ends_are (search rules)

pub returns : goal.returns
returns c = let o = begun_opened c.begin.ensures c.in_ok-sound.was in begun_gives (rw c.sized_tree.ensures at c.begin.ensures) c.in_ok-sound.was (c.statement_at.ensures ∙ ap (λ ns. statement_of ns c.args.words.now c.args.at) (rw (o.bytes_are, o.ends_are) at c.mark_names.ensures))
