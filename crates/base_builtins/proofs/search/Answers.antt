-- search: the first entry that has the name is the definition's.
use Rattle.std.proofs.Common.{ℕ, ◌≡◌, Bool, true, false, eqb, cond, List, [], ◌∷◌, map, Option, Some, refl, ap, ◌∙◌, arith, rules, tests}
use Rattle.std.specs.Cmp.Lexicographic.{pointwise}
use Rattle.std.specs.List.{find}
use Rattle.std.specs.Option.{option_map}
use Rattle.std.proofs.lemmas.Bool.Decides.{nat_tests}
use Rattle.std.proofs.Math.Option.{some}
use Rattle.base_words.specs.Word.{pick}
use Rattle.std.proofs.lemmas.Iterator.{YieldsList-from_slice}
use Rattle.std.proofs.lemmas.Iterator.Search.{find_from_yields_List}
use Rattle.base_builtins.specs.declared.Arguments.{Arguments}
use Rattle.base_builtins.specs.declared.Takes.{Takes}
use Rattle.base_builtins.specs.Builtins.{same, entry_of}
use Rattle.base_builtins.specs.Answers.{arguments_of, told}
use Rattle.base_builtins.proofs.search.Goals as goal

abbrev given : Takes → Arguments
given e = record { least = e.1; most = e.2 }

abbrev named : List ℕ → Takes → Bool
named name e = pointwise eqb e.0.now name

flip : (x y : ℕ) → eqb x y ≡ eqb y x
flip x y = grind (arith, nat_tests)

same_as : (a b : List ℕ) → same a b ≡ pointwise eqb b a
unfolding same
same_as [] [] = refl
same_as [] (y ∷ b) = refl
same_as (x ∷ a) [] = refl
same_as (x ∷ a) (y ∷ b) = rw (flip x y, same_as a b)

found : (name : List ℕ) (l : List Takes) → option_map given (find (named name) l) ≡ arguments_of (entry_of name (map told l))
unfolding entry_of
found name [] = refl
found name (e ∷ l) = rw (same_as name e.0.now) (go (named name e) (found name l))
  where
    go : (t : Bool) → option_map given (find (named name) l) ≡ arguments_of (entry_of name (map told l))
        → option_map given (cond t (Some e) (find (named name) l)) ≡ arguments_of (pick t (some (told e)) (entry_of name (map told l)))
    go true h = refl
    go false h = h

answer : (name : List ℕ) (l : List Takes) (r : Option Takes) → r ≡ find (named name) l → option_map given r ≡ arguments_of (entry_of name (map told l))
answer name l r e = ap (option_map given) e ∙ found name l

pub returns-in_err-entry : goal.returns-in_err-entry
returns-in_err-entry c =
    let name = c.args.name.now in
    let first = find_from_yields_List (named name) _ _ c.find.result c.find.ensures.ran (YieldsList-from_slice c.args.entries.now c.iter.ensures.rest) (λ x b q k. search (rules, tests)) in
    c.from_residual.ensures ∙ (rw c.in_err-entry.was at (answer name c.args.entries.now _ first))

pub returns : goal.returns
returns c =
    let name = c.args.name.now in
    let first = find_from_yields_List (named name) _ _ c.find.result c.find.ensures.ran (YieldsList-from_slice c.args.entries.now c.iter.ensures.rest) (λ x b q k. search (rules, tests)) in
    rw c.in_ok-entry.was at (answer name c.args.entries.now _ first)
