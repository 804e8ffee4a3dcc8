-- A few trees, read by computing. Assumes nothing.
use Prim.Native.Nat.{ℕ}
use mathlib.Core.Path.{◌≡◌, refl}
use mathlib.Core.List.{List, [], ◌∷◌}
use Rattle.tree_expr.specs.Expr.{Strings, Integer, Lit, Elem, Paren, none, more}
use Rattle.tree_expr.specs.Got.{got, wrong, deep, bind}
use Rattle.tree_expr.specs.Reader.{raw_at, test_at, leaf_at, name_at, head_at, float_at, literal_body, literal_at, exprs_at, list_at, body_at, expr_at}

-- one string, a name
abbrev strings : Strings
strings = record { count = 1; names = 1 ∷ [] }

-- (A(2))
abbrev ws : List ℕ
ws = 0x17000000 ∷ 0x12000000 ∷ 0x02000000 ∷ 0x01000001 ∷ 0x10000000 ∷ 0x18000000 ∷ 2 ∷ []

reads : expr_at ws strings 100 0 ≡ got (Paren (Elem 0 (more (Lit (Integer 2)) none))) 7
unfolding raw_at test_at leaf_at name_at head_at float_at literal_body literal_at exprs_at list_at body_at expr_at bind
reads = refl

too_deep : expr_at ws strings 2 0 ≡ deep 4
unfolding raw_at test_at leaf_at name_at head_at float_at literal_body literal_at exprs_at list_at body_at expr_at bind
too_deep = refl

-- a list that says 16777215 and ends early
early : expr_at (0x12000000 ∷ 0x02000000 ∷ 0x01ffffff ∷ 0x11000000 ∷ 0x02000000 ∷ []) strings 100 0 ≡ wrong 5
unfolding raw_at test_at leaf_at name_at head_at float_at literal_body literal_at exprs_at list_at body_at expr_at bind
early = refl
