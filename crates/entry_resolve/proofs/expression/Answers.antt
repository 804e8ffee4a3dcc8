-- An expression that was read: the refusals of `ruled`, or what `resolve_exprs` writes from the part of the words that it spans. Assumes nothing.
use Prim.Native.Nat.{◌-◌}
use mathlib.Core.Path.{refl}
use native.Mathlib.Omega.{arith}
use lib.ListN.{length}
use Rattle.std.proofs.lemmas.Result.{err_from_is_err_and}
use Rattle.entry_resolve.proofs.Laws.{stopped, ruled_as, passed_as, expr_span, ready_expr, expr_shut, expr_told}
use Rattle.entry_resolve.proofs.expression.Goals as goal

pub overflow_sub-end : goal.overflow_sub-end
overflow_sub-end c = omega (arith, (expr_span c.args.source.now.names.now c.args.source.now.words.now c.args.rows.now (length c.args.out.now) c.args.scope c.args.at c.args.end c.args.source.now.few c.requires).0)

pub offset_bounds-source-at : goal.offset_bounds-source-at
offset_bounds-source-at c = omega (arith, expr_span c.args.source.now.names.now c.args.source.now.words.now c.args.rows.now (length c.args.out.now) c.args.scope c.args.at c.args.end c.args.source.now.few c.requires)

pub slice_bounds-resolve_expr-count : goal.slice_bounds-resolve_expr-count
slice_bounds-resolve_expr-count c = omega (arith, (expr_span c.args.source.now.names.now c.args.source.now.words.now c.args.rows.now (length c.args.out.now) c.args.scope c.args.at c.args.end c.args.source.now.few c.requires).0)

pub slice_bounds-resolve_expr-start : goal.slice_bounds-resolve_expr-start
slice_bounds-resolve_expr-start c = omega (arith, (expr_span c.args.source.now.names.now c.args.source.now.words.now c.args.rows.now (length c.args.out.now) c.args.scope c.args.at c.args.end c.args.source.now.few c.requires).0)

pub slice_bounds-resolve_expr-end : goal.slice_bounds-resolve_expr-end
slice_bounds-resolve_expr-end c = omega (arith, (expr_span c.args.source.now.names.now c.args.source.now.words.now c.args.rows.now (length c.args.out.now) c.args.scope c.args.at c.args.end c.args.source.now.few c.requires).1)

pub resolve_expr-past-requires : goal.resolve_expr-past-requires
resolve_expr-past-requires c = rw (rw c.in_ok-held.was at c.ruled.ensures).0 (ready_expr c.args.source.now.names.now c.args.source.now.words.now c.args.rows.now (length c.args.out.now) c.args.scope c.args.at c.args.end c.args.source.now.few c.requires (passed_as c.scope_ok-right.ensures (rw c.in_ok-held.was at c.ruled.ensures).1))

pub returns-in_err-held : goal.returns-in_err-held
returns-in_err-held c = let p = err_from_is_err_and c.from_residual.result c.from_residual.ensures.1 in rw (p.1, p.2) (stopped _ _ (expr_shut c.args.source.now.names.now c.args.source.now.words.now c.args.rows.now (length c.args.out.now) c.args.scope c.args.at c.args.end c.args.source.now.few c.requires _ (ruled_as c.args.source.now.names.now c.args.rows.now (c.args.end - c.args.at) (length c.args.out.now) _ c.scope_ok-right.ensures (rw c.in_err-held.was at c.ruled.ensures))))

pub returns : goal.returns
returns c = expr_told c.args.source.now.names.now c.args.source.now.words.now c.args.rows.now (length c.args.out.now) c.args.scope c.args.at c.args.end c.args.source.now.few c.requires refl (passed_as c.scope_ok-right.ensures (rw c.in_ok-held.was at c.ruled.ensures).1) (rw (rw c.in_ok-held.was at c.ruled.ensures).0 at c.resolve_expr-past.ensures)
