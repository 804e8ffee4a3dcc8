-- The shape of the expression there: each arm is a law of `Laws` at its kind. Assumes nothing.
use Prim.Native.Nat.{◌+◌}
use lib.ListN.{get_or}
use Rattle.base_words.specs.Word.{kind_of}
use native.Mathlib.Omega.{arith}
use Rattle.tree_skip.proofs.Laws.{here, two_words, list_word, literal_few, told, shape_16, shape_17, shape_18, shape_19, shape_20, shape_22, shape_23}
use Rattle.tree_skip.proofs.shape_at.Goals as goal

pub bounds-words-at : goal.bounds-words-at
bounds-words-at c = here c.requires

pub bounds-words-at-in-16 : goal.bounds-words-at-in-16
bounds-words-at-in-16 c = two_words c.requires

pub overflow_add-literal : goal.overflow_add-literal
overflow_add-literal c = omega (arith, c.literal.ensures, literal_few (kind_of (get_or c.args.words.now (c.args.at + 1) 0)))

pub bounds-words-at-in-18 : goal.bounds-words-at-in-18
bounds-words-at-in-18 c = list_word c.in-18.is c.requires

pub returns-in-16 : goal.returns-in-16
returns-in-16 c = told c.sizes.ensures (shape_16 c.in-16.is c.literal.ensures)

pub returns-in-17 : goal.returns-in-17
returns-in-17 c = told c.sizes-in-17.ensures (shape_17 c.in-17.is)

pub returns-in-18 : goal.returns-in-18
returns-in-18 c = told c.sizes-in-18.ensures (shape_18 c.in-18.is)

pub returns-in-19 : goal.returns-in-19
returns-in-19 c = told c.sizes-in-19.ensures (shape_19 c.in-19.is)

pub returns-in-20 : goal.returns-in-20
returns-in-20 c = told c.sizes-in-20.ensures (shape_20 c.in-20.is)

pub returns-in-22 : goal.returns-in-22
returns-in-22 c = told c.sizes-in-22.ensures (shape_22 c.in-22.is)

pub returns-in_default : goal.returns-in_default
returns-in_default c = told c.sizes-in_default.ensures (shape_23 (λ q. omega arith) (λ q. omega arith) (λ q. grind arith) (λ q. omega arith) (λ q. omega arith) (λ q. omega arith))
