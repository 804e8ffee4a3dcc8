-- CONST: a stopped run passes by; else the diagnostic and the folded constant follow each other. Assumes nothing.
use mathlib.Core.Path.{sym, subst}
use native.Mathlib.Omega.{arith}
use Rattle.fold_values.specs.Fold.{GoodFold}
use Rattle.fold_const_eval.proofs.Laws.{good}
use Rattle.collect_labels_const.proofs.Laws.{const_inside, const_ready, const_stopped, const_collects}
use Rattle.collect_labels_const.proofs.constant.Goals as goal

pub returns-then-s-ne0 : goal.returns-then-s-ne0
returns-then-s-ne0 c = const_stopped c.requires.1 c.if-s-ne0.true

pub bounds-words-at : goal.bounds-words-at
bounds-words-at c = omega (arith, const_inside c.requires.0)

pub bounds-words-at-2 : goal.bounds-words-at-2
bounds-words-at-2 c = const_inside c.requires.0

pub const_eval-f-requires : goal.const_eval-f-requires
const_eval-f-requires c = const_ready c.requires.0 c.if-s-ne0.false

pub fold_of-requires : goal.fold_of-requires
fold_of-requires c = good (λ i. (c.type_inv.words i).fits) (const_ready c.requires.0 c.if-s-ne0.false) c.const_eval-f.ensures

pub folded-requires : goal.folded-requires
folded-requires c = ((omega (arith, c.push_if-t.ensures.kept, c.requires.1.0), c.push_if-t.ensures.fit), omega arith, subst GoodFold (sym c.fold_of.ensures) (good (λ i. (c.type_inv.words i).fits) (const_ready c.requires.0 c.if-s-ne0.false) c.const_eval-f.ensures))

pub returns : goal.returns
returns c = const_collects c.fold_of.ensures c.requires.1 c.has-twice.ensures c.const_eval-f.ensures c.push_if-t.ensures c.folded.ensures
