-- The least scope of an array decides, or else the scope's own row, or else the module's where it is shared. Assumes nothing.
use Prim.Native.Nat.{ℕ}
use native.Mathlib.Omega.{arith}
use mathlib.Core.Path.{sym, ap, ◌∙◌}
use Rattle.rows_runs.specs.Laws.{holds_keeps}
use Rattle.rows_kinds.specs.Kinds.{has}
use Rattle.resolve_definition.proofs.Arrays.{own_array, no_array, shared_array, from_first, first_some, first_none}
use borrow.Author.Tests.{ne_eqb}
use Rattle.resolve_definition.proofs.is_array.Goals as goal

pub returns-in_default : goal.returns-in_default
returns-in_default c = λ rows H.
    let F = first_none (c.first_scope.ensures rows H) c.in_default.is in
    no_array rows c.args.scope c.args.f (F.below c.args.scope (omega (arith, c.requires.0))) (F.below 0 (omega arith))

pub returns-then-scope-first : goal.returns-then-scope-first
returns-then-scope-first c = λ rows H. from_first rows c.args.scope c.args.f (first_some (c.first_scope.ensures rows H) c.in-Some.is) c.if-scope-first.true c.requires.0

pub returns-then-has : goal.returns-then-has
returns-then-has c = λ rows H. c.if-has.true ∙ own_array rows c.args.scope c.args.f (sym (c.has.ensures rows (holds_keeps H)) ∙ c.if-has.true)

pub returns-then-first-eq0 : goal.returns-then-first-eq0
returns-then-first-eq0 c = λ rows H.
    let F = first_some (c.first_scope.ensures rows H) c.in-Some.is in
    c.shares.ensures rows (holds_keeps H) ∙ shared_array rows c.args.scope c.args.f (omega (arith, c.if-scope-first.false)) (sym (c.has.ensures rows (holds_keeps H)) ∙ c.if-has.false) (ap (λ (i : ℕ). has rows 133 c.args.f i) (sym c.if-first-eq0.true) ∙ F.there (omega (arith, c.if-first-eq0.true)))

pub returns-else-first-eq0 : goal.returns-else-first-eq0
returns-else-first-eq0 c = λ rows H.
    let F = first_some (c.first_scope.ensures rows H) c.in-Some.is in
    ne_eqb c.in-Some.first 0 c.if-first-eq0.false ∙ no_array rows c.args.scope c.args.f (sym (c.has.ensures rows (holds_keeps H)) ∙ c.if-has.false) (F.below 0 (omega (arith, c.if-first-eq0.false)))
