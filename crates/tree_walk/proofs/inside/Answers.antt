-- `inside`: a SUB's or FUNCTION's name plus 1, else the scope around. Assumes nothing.
use mathlib.Core.Logic.{⊎_elim}
use Rattle.tree_walk.proofs.Walk.{head_range}
use Rattle.tree_walk.proofs.Scopes.{two_sub, two_function, in_sub, in_function, in_other}
use Rattle.tree_walk.proofs.inside.Goals as goal

pub bounds-words-at : goal.bounds-words-at
bounds-words-at c = (head_range c.requires.0.stands).2

pub bounds-words-at-then-kind-eq85 : goal.bounds-words-at-then-kind-eq85
bounds-words-at-then-kind-eq85 c =
    ⊎_elim (λ q. two_sub c.args.words.now c.args.at c.args.scope q c.requires.0) (λ q. two_function c.args.words.now c.args.at c.args.scope q.1 c.requires.0) c.if-kind-eq85.either

pub returns-then-kind-eq85 : goal.returns-then-kind-eq85
returns-then-kind-eq85 c =
    ⊎_elim (λ q. in_sub c.args.words.now c.args.at c.args.scope q) (λ q. in_function c.args.words.now c.args.at c.args.scope q.1) c.if-kind-eq85.either

pub returns-else-kind-eq85 : goal.returns-else-kind-eq85
returns-else-kind-eq85 c = in_other c.args.words.now c.args.at c.args.scope c.requires.1 c.if-kind-eq85.false.0 c.if-kind-eq85.false.1
