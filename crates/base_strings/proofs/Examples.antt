-- The definitions run: names, the order, and tables that meet or break the rule. Assumes nothing.
use mathlib.Core.Path.{◌≡◌, refl}
use mathlib.Core.Bool.{true, false}
use mathlib.Core.List.{[], ◌∷◌, ◌++◌}
use lib.ListN.{replicate}
use Rattle.base_strings.specs.Order.{order}
use Rattle.base_strings.specs.Name.{between, inner, suffix, rest, is_name}
use Rattle.base_strings.specs.Table.{start_of, string_at, all_printable, end_right, rises, last_right, right_at, all_below, sound, breaks_at, marks_below, names_of}

-- A. and A% are names; A%%, 1A and the empty string are none
names : names_of (49 ∷ 65 ∷ 65 ∷ 37 ∷ 65 ∷ 37 ∷ 37 ∷ 65 ∷ 46 ∷ []) (0 ∷ 2 ∷ 4 ∷ 7 ∷ 9 ∷ []) ≡ 0 ∷ 0 ∷ 1 ∷ 0 ∷ 1 ∷ []
unfolding names_of marks_below string_at start_of is_name rest inner suffix between
names = refl

-- 40 bytes are a name, 41 are none
forty : is_name (replicate 39 65 ++ (37 ∷ [])) ≡ true
unfolding is_name rest inner suffix between
forty = refl

forty_one : is_name (replicate 40 65 ++ (37 ∷ [])) ≡ false
unfolding is_name rest inner suffix between
forty_one = refl

-- the empty string first, then A, then AB
rising : sound (65 ∷ 65 ∷ 66 ∷ []) (0 ∷ 1 ∷ 3 ∷ []) ≡ true
unfolding sound all_below right_at end_right all_printable between string_at start_of rises order last_right
rising = refl

-- A twice breaks at the second
twice : breaks_at (65 ∷ 65 ∷ []) (1 ∷ 2 ∷ []) 1 ≡ true
unfolding breaks_at right_at end_right all_printable between string_at start_of rises order last_right
twice = refl

-- bytes without strings break at 0; no strings and no bytes are sound
bytes_only : breaks_at (65 ∷ []) [] 0 ≡ true
unfolding breaks_at
bytes_only = refl

nothing : sound [] [] ≡ true
unfolding sound
nothing = refl
