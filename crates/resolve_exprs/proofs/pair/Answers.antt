-- `pair` writes the pair that an argument keeps: laws in `Pairs`. Assumes nothing.
use mathlib.Core.Path.{sym, ◌∙◌}
use Rattle.resolve_exprs.proofs.Pairs.{kept, dropped, none}
use Rattle.resolve_exprs.proofs.Nodes.{moves}
use native.Mathlib.Omega.{arith}
use Rattle.resolve_exprs.proofs.pair.Goals.{else-words-spot-eq23-via-then-words-spot-eq23+else-by_ref, else-words-spot-eq23-via-else-words-spot-eq23}
use Rattle.resolve_exprs.proofs.pair.Goals as goal

pub returns-then-by_ref : goal.returns-then-by_ref
returns-then-by_ref c = kept c.args.f c.args.i c.args.words.now c.args.rows.now.words.now c.args.out.now c.args.rows.now.count c.args.spot.at c.args.spot.to c.if-words-spot-eq23.true (λ rs H. sym c.if-by_ref.true ∙ c.by_ref.ensures rs H)

pub returns : goal.returns
returns c = elim c.else-words-spot-eq23.branch [
  | else-words-spot-eq23-via-then-words-spot-eq23+else-by_ref w ↦ dropped c.args.f c.args.i c.args.words.now c.args.rows.now.words.now c.args.out.now c.args.rows.now.count c.args.spot.at c.args.spot.to w.if-words-spot-eq23.true (λ rs H. sym w.if-by_ref.false ∙ w.by_ref.ensures rs H)
  | else-words-spot-eq23-via-else-words-spot-eq23 w ↦ none c.args.f c.args.i c.args.words.now c.args.rows.now.words.now c.args.out.now c.args.rows.now.count c.args.spot.at c.args.spot.to w.if-words-spot-eq23.false
]

pub bounds-words-spot : goal.bounds-words-spot
bounds-words-spot c = omega (arith, moves c.requires.0.stands)
