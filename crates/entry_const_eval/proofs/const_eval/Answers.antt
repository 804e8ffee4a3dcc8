-- The entry: 5, then 1, then the rest of its checks and its work. Assumes nothing.
use Rattle.std.proofs.Common.{rules, sym, ap, ◌∙◌, length, ◌≤◌}
use Rattle.entry_read.specs.Begun.{begun_opened, begun_stops, begun_gives}
use Rattle.entry_read.proofs.Laws.{few_strings}
use Rattle.entry_const_eval.specs.Evaluate.{eval_of}
use Rattle.entry_const_eval.proofs.Laws.{moved_by}
use Rattle.entry_const_eval.proofs.const_eval.Goals as goal

pub slice_bounds-names-end : goal.slice_bounds-names-end
slice_bounds-names-end c = let o = begun_opened c.begin.ensures c.in-Ok.is in let h : length c.args.ends.now ≤ 1024 = few_strings c.args.bytes.now c.args.ends.now c.args.words.now (sym c.sized_tree.ensures ∙ o.within) in search rules

pub slice_bounds-marks-end : goal.slice_bounds-marks-end
slice_bounds-marks-end c = let o = begun_opened c.begin.ensures c.in-Ok.is in let h : length c.args.ends.now ≤ 1024 = few_strings c.args.bytes.now c.args.ends.now c.args.words.now (sym c.sized_tree.ensures ∙ o.within) in search rules

pub mark_names-requires : goal.mark_names-requires
mark_names-requires c = let o = begun_opened c.begin.ensures c.in-Ok.is in let h : length c.args.ends.now ≤ 1024 = few_strings c.args.bytes.now c.args.ends.now c.args.words.now (sym c.sized_tree.ensures ∙ o.within) in rw o.ends_are (search rules)

pub returns-in-Ok : goal.returns-in-Ok
returns-in-Ok c =
    let o = begun_opened c.begin.ensures c.in-Ok.is in
    record { answers = begun_gives (rw c.sized_tree.ensures at c.begin.ensures) c.in-Ok.is (c.eval_at.ensures.told ∙ ap (λ ns. eval_of ns c.args.words.now c.args.at c.args.rows.now) (rw (o.bytes_are, o.ends_are) at c.mark_names.ensures)); moved = moved_by c.eval_at.ensures }

pub returns-in-Err : goal.returns-in-Err
returns-in-Err c = record { answers = begun_stops (rw c.sized_tree.ensures at c.begin.ensures) c.in-Err.is c.refused.ensures.told; moved = moved_by c.refused.ensures }
