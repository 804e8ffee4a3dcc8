-- All kinds but six use arrays as their words stand, and all but eleven show collecting nothing. Assumes nothing.
use Rattle.std.specs.Prelude.{◌≡◌, refl, true, List, [], ◌∷◌}
use Rattle.std.proofs.Common.{ap}
use Rattle.base_words.specs.Each.{tuple}
use Rattle.tree_stmt.specs.Sorts.{Kind, sorts, kinds, number_of, label, label_name, let', print, input, line_input, dim, shared, static, redim, sub, function, swap, const, option_base, type_def, read}
use Rattle.tree_stmt.specs.Tree.{row, Tree}
use Rattle.tree_stmt.specs.KindLaws.{none_of, same_others}
use Rattle.tree_views.specs.View.{View, Other, view}
use Rattle.tree_views.specs.Uses.{Uses, plain, uses}

-- the kinds that have targets, or expressions in another order
unfoldable pub target_kinds : List Kind
target_kinds = let' ∷ print ∷ input ∷ line_input ∷ swap ∷ read ∷ []

-- a kind without targets, and with its expressions in the words' order
pub uses_plain : {E : Type 0} (k : Kind) → none_of target_kinds k ≡ true → (r : Tree E (row (sorts k))) → uses k r ≡ plain r
unfolding tuple kinds none_of target_kinds number_of uses
uses_plain {E} k o r = ap (λ (f : Tree E (row (sorts k)) → Uses E). f r) (same_others (λ k. Tree E (row (sorts k)) → Uses E) target_kinds (λ k. uses k) (λ k. plain) refl k o)

-- the kinds of collecting's match
unfoldable pub view_kinds : List Kind
view_kinds = label ∷ label_name ∷ dim ∷ shared ∷ static ∷ redim ∷ sub ∷ function ∷ const ∷ option_base ∷ type_def ∷ []

-- a kind of which collecting sees nothing
pub view_other : {E : Type 0} (k : Kind) → none_of view_kinds k ≡ true → (r : Tree E (row (sorts k))) → view k r ≡ Other
unfolding tuple kinds none_of view_kinds number_of view
view_other {E} k o r = ap (λ (f : Tree E (row (sorts k)) → View E). f r) (same_others (λ k. Tree E (row (sorts k)) → View E) view_kinds (λ k. view k) (λ k r. Other) refl k o)
