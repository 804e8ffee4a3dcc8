-- `all_zero`: what `all` answers of the words from `from` on. Assumes nothing.
use mathlib.Core.List.{List}
use mathlib.Core.Path.{sym, ap, ◌∙◌}
use Prim.Native.Nat.{ℕ, ◌-◌}
use native.Mathlib.Omega.{arith}
use borrow.Author.Rules.{rules}
use borrow.Author.Tests.{tests}
use lib.Dec.{eqb}
use lib.ListN.{length, take, drop, length-drop}
use Rattle.std.specs.List.{list_all}
use Rattle.std.proofs.lemmas.List.{take_all}
use Rattle.std.proofs.lemmas.Iterator.{YieldsList-from_slice}
use Rattle.std.proofs.lemmas.Iterator.Search.{all_from_yields_List}
use Rattle.rows_lent.proofs.Words.{all_zero_is}
use Rattle.rows_lent.proofs.all_zero.Goals as goal

pub returns : goal.returns
returns c =
    let rest : List ℕ = drop c.args.from c.args.b.now in
    let count : ℕ = length c.args.b.now - c.args.from in
    all_from_yields_List (λ x. eqb x 0) _ _ _ c.all.ensures.ran (YieldsList-from_slice (take count rest) c.iter.ensures.rest) (λ x b q k. search (rules, tests))
    ∙ ap (list_all (λ x. eqb x 0)) (take_all count rest (omega (arith, length-drop c.args.from c.args.b.now)))
    ∙ sym (all_zero_is rest)
