-- A list that was read: the refusals of `ruled`, or its head and what `resolve_exprs` writes behind it. Assumes nothing.
use Prim.Native.Nat.{◌-◌}
use native.Mathlib.Omega.{arith}
use lib.ListN.{length-set, length}
use Rattle.std.proofs.lemmas.Result.{err_from_is_err_and}
use Rattle.entry_resolve.proofs.Laws.{stopped, ruled_as, passed_as, list_span, room_first, ready_args, name_fits, args_shut, args_told}
use Rattle.entry_resolve.proofs.arguments.Goals as goal

pub overflow_sub-end : goal.overflow_sub-end
overflow_sub-end c = omega (arith, (list_span c.args.source.now.names.now c.args.source.now.words.now c.args.rows.now (length c.args.out.now) c.args.scope c.args.name c.args.at c.args.end c.args.source.now.few c.requires).0)

pub offset_bounds-source-at : goal.offset_bounds-source-at
offset_bounds-source-at c = omega (arith, list_span c.args.source.now.names.now c.args.source.now.words.now c.args.rows.now (length c.args.out.now) c.args.scope c.args.name c.args.at c.args.end c.args.source.now.few c.requires)

pub bounds-source-at : goal.bounds-source-at
bounds-source-at c = omega (arith, list_span c.args.source.now.names.now c.args.source.now.words.now c.args.rows.now (length c.args.out.now) c.args.scope c.args.name c.args.at c.args.end c.args.source.now.few c.requires)

pub bounds-out-0 : goal.bounds-out-0
bounds-out-0 c = omega (arith, room_first c.args.source.now.names.now c.args.source.now.words.now c.args.rows.now (length c.args.out.now) c.args.scope c.args.name c.args.at c.args.end c.args.source.now.few c.requires (passed_as c.admits-right.ensures (rw c.in_ok-held.was at c.ruled.ensures).1))

pub offset_bounds-source-at-2 : goal.offset_bounds-source-at-2
offset_bounds-source-at-2 c = omega (arith, list_span c.args.source.now.names.now c.args.source.now.words.now c.args.rows.now (length c.args.out.now) c.args.scope c.args.name c.args.at c.args.end c.args.source.now.few c.requires)

pub slice_bounds-resolve_args-count : goal.slice_bounds-resolve_args-count
slice_bounds-resolve_args-count c = omega (arith, (list_span c.args.source.now.names.now c.args.source.now.words.now c.args.rows.now (length c.args.out.now) c.args.scope c.args.name c.args.at c.args.end c.args.source.now.few c.requires).0)

pub slice_bounds-resolve_args-start : goal.slice_bounds-resolve_args-start
slice_bounds-resolve_args-start c = omega (arith, (list_span c.args.source.now.names.now c.args.source.now.words.now c.args.rows.now (length c.args.out.now) c.args.scope c.args.name c.args.at c.args.end c.args.source.now.few c.requires).0)

pub slice_bounds-resolve_args-end : goal.slice_bounds-resolve_args-end
slice_bounds-resolve_args-end c = omega (arith, (list_span c.args.source.now.names.now c.args.source.now.words.now c.args.rows.now (length c.args.out.now) c.args.scope c.args.name c.args.at c.args.end c.args.source.now.few c.requires).1)

pub resolve_args-past-requires : goal.resolve_args-past-requires
resolve_args-past-requires c = rw (rw c.in_ok-held.was at c.ruled.ensures).0 ((ready_args c.args.source.now.names.now c.args.source.now.words.now c.args.rows.now (length c.args.out.now) c.args.scope c.args.name c.args.at c.args.end c.args.source.now.few c.requires (length-set c.args.out.now 0 _) (passed_as c.admits-right.ensures (rw c.in_ok-held.was at c.ruled.ensures).1), name_fits c.args.source.now.names.now c.args.source.now.words.now c.args.rows.now (length c.args.out.now) c.args.scope c.args.name c.args.at c.args.end c.args.source.now.few c.requires (passed_as c.admits-right.ensures (rw c.in_ok-held.was at c.ruled.ensures).1)))

pub returns-in_err-held : goal.returns-in_err-held
returns-in_err-held c = let p = err_from_is_err_and c.from_residual.result c.from_residual.ensures.1 in rw (p.1, p.2) (stopped _ _ (args_shut c.args.source.now.names.now c.args.source.now.words.now c.args.rows.now (length c.args.out.now) c.args.scope c.args.name c.args.at c.args.end c.args.source.now.few c.requires _ (ruled_as c.args.source.now.names.now c.args.rows.now (c.args.end - c.args.at) (length c.args.out.now) _ c.admits-right.ensures (rw c.in_err-held.was at c.ruled.ensures))))

pub returns : goal.returns
returns c = args_told c.args.source.now.names.now c.args.source.now.words.now c.args.rows.now (length c.args.out.now) c.args.scope c.args.name c.args.at c.args.end c.args.source.now.few c.requires (passed_as c.admits-right.ensures (rw c.in_ok-held.was at c.ruled.ensures).1) (rw (rw c.in_ok-held.was at c.ruled.ensures).0 at c.resolve_args-past.ensures)
