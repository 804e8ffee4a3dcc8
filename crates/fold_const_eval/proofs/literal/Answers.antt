-- The literal there: each answer is a law of `Literals` at its kind. Assumes nothing.
use native.Mathlib.Omega.{arith}
use mathlib.Core.Path.{sym, subst}
use Rattle.fold_const_eval.specs.Evaluates.{EvaluatesAlone}
use Rattle.fold_const_eval.specs.declared.Folded.{Folded}
use Rattle.fold_const_eval.proofs.Literals.{eval_whole, eval_float, eval_28, word_2, float_inside}
use Rattle.fold_const_eval.proofs.literal.Goals as goal

pub bounds-words-at : goal.bounds-words-at
bounds-words-at c = omega (arith, word_2 c.requires)

pub bounds-words-at-2 : goal.bounds-words-at-2
bounds-words-at-2 c = word_2 c.requires

pub bounds-words-at-in-26 : goal.bounds-words-at-in-26
bounds-words-at-in-26 c = float_inside c.requires (omega arith) (omega arith)

pub returns-in-24 : goal.returns-in-24
returns-in-24 c = subst (λ (x : Folded). EvaluatesAlone c.args.words.now c.args.at x) (sym c.value.ensures) (eval_whole c.requires.kind (omega arith) (omega arith) c.sign-high.ensures)

pub returns-in-26 : goal.returns-in-26
returns-in-26 c = subst (λ (x : Folded). EvaluatesAlone c.args.words.now c.args.at x) (sym c.value-in-26.ensures) (eval_float c.requires.kind (omega arith) (omega arith))

pub returns-in_default : goal.returns-in_default
returns-in_default c = subst (λ (x : Folded). EvaluatesAlone c.args.words.now c.args.at x) (sym c.value-in_default.ensures) (eval_28 c.requires.kind (λ e. grind arith) (λ e. grind arith) (λ e. grind arith) (λ e. grind arith))
