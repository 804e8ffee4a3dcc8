-- The proof of `const_eval`, which calls itself: the number of words left falls. Each answer is a law of `Laws` at the place. Assumes nothing.
use native.Mathlib.Omega.{arith}
use borrow.Author.Rules.{rules}
use Rattle.fold_const_eval.proofs.Laws.{no_value, some_expr, row, good, moves, here, alone, name_fits, name_is, operand, negated_is, not_is, left_side, right_side, failed_is, combined_is, inner, paren_is, other_is}
use Rattle.fold_const_eval.proofs.+const_eval.Goals as goal

pub bounds-words-at : goal.bounds-words-at
bounds-words-at t c = here c.requires

pub bounds-words-at-in-17 : goal.bounds-words-at-in-17
bounds-words-at-in-17 t c = name_fits c.in-17.is c.requires

pub bounds-words-at-in-19 : goal.bounds-words-at-in-19
bounds-words-at-in-19 t c = omega (arith, here (operand c.in-19.is c.requires))

pub returns-then-words-at-ne0 : goal.returns-then-words-at-ne0
returns-then-words-at-ne0 t c = not_is c.in-19.is c.if-words-at-ne0.true c.opaque.ensures

pub const_eval-requires : goal.const_eval-requires
const_eval-requires t c = (omega (arith, here (operand c.in-19.is c.requires), c.decreases), operand c.in-19.is c.requires)

pub negated-requires : goal.negated-requires
negated-requires t c = row {ws = c.args.words.now} (λ i. (c.type_inv.words i).fits) (operand c.in-19.is c.requires) c.const_eval.ensures

pub const_eval-l-requires : goal.const_eval-l-requires
const_eval-l-requires t c = (omega (arith, here (left_side c.in-20.is c.requires), c.decreases), left_side c.in-20.is c.requires)

pub failed-requires : goal.failed-requires
failed-requires t c = some_expr (right_side c.in-20.is c.const_eval-l.ensures c.requires)

pub returns-then-is_err : goal.returns-then-is_err
returns-then-is_err t c = failed_is c.in-20.is c.const_eval-l.ensures (no_value c.const_eval-l.result.value (search rules)) c.failed.ensures

pub const_eval-r-requires : goal.const_eval-r-requires
const_eval-r-requires t c = (omega (arith, moves (left_side c.in-20.is c.requires) c.const_eval-l.ensures, here (right_side c.in-20.is c.const_eval-l.ensures c.requires), c.decreases), right_side c.in-20.is c.const_eval-l.ensures c.requires)

pub bounds-words-at-in-20 : goal.bounds-words-at-in-20
bounds-words-at-in-20 t c = omega (arith, here (left_side c.in-20.is c.requires))

pub combined-requires-clause-good_fold : goal.combined-requires-clause-good_fold
combined-requires-clause-good_fold t c = good {ws = c.args.words.now} (λ i. (c.type_inv.words i).fits) (left_side c.in-20.is c.requires) c.const_eval-l.ensures

pub combined-requires-clause-good_fold_2 : goal.combined-requires-clause-good_fold_2
combined-requires-clause-good_fold_2 t c = good {ws = c.args.words.now} (λ i. (c.type_inv.words i).fits) (right_side c.in-20.is c.const_eval-l.ensures c.requires) c.const_eval-r.ensures

pub const_eval-requires-in-23 : goal.const_eval-requires-in-23
const_eval-requires-in-23 t c = (omega (arith, here (inner c.in-23.is c.requires), c.decreases), inner c.in-23.is c.requires)

pub returns-in-16 : goal.returns-in-16
returns-in-16 t c = alone c.literal.ensures

pub returns-in-17 : goal.returns-in-17
returns-in-17 t c = name_is c.in-17.is c.constant.ensures

pub returns-else-words-at-ne0 : goal.returns-else-words-at-ne0
returns-else-words-at-ne0 t c = negated_is c.in-19.is c.if-words-at-ne0.false c.const_eval.ensures c.negated.ensures

pub returns-else-is_err : goal.returns-else-is_err
returns-else-is_err t c = combined_is c.in-20.is c.const_eval-l.ensures c.const_eval-r.ensures c.combined.ensures

pub returns-in-23 : goal.returns-in-23
returns-in-23 t c = paren_is c.in-23.is c.const_eval-in-23.ensures

pub returns-in_default : goal.returns-in_default
returns-in_default t c = other_is (λ e. omega arith) (λ e. omega arith) (λ e. omega arith) (λ e. omega arith) (λ e. omega arith) c.opaque-in_default.ensures
