-- The use that an expression is: of its name, of its list, or none. Assumes nothing.
use native.Mathlib.Omega.{arith}
use mathlib.Core.Path.{refl}
use Rattle.tree_skip.proofs.Laws as S
use Rattle.collect_subscript_count.proofs.Expressions.{here_empty, here_list, here_other}
use Rattle.collect_subscript_count.proofs.here.Goals as goal

pub returns-then-n-eq0 : goal.returns-then-n-eq0
returns-then-n-eq0 c = here_empty c.in-18.is c.if-n-eq0.true (λ x. refl)

pub returns-else-n-eq0 : goal.returns-else-n-eq0
returns-else-n-eq0 c = here_list c.in-18.is c.if-n-eq0.false c.note.ensures

pub returns-in_default : goal.returns-in_default
returns-in_default c = here_other (λ e. omega arith) (λ x. refl)

pub bounds-words-at : goal.bounds-words-at
bounds-words-at c = S.here c.requires

pub bounds-words-at-in-18 : goal.bounds-words-at-in-18
bounds-words-at-in-18 c = S.list_word c.in-18.is c.requires
