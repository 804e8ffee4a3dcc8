-- The names of the entries; the quick test, which each builtin's name passes, and the search among the entries.
use mathlib.Core.Path.{◌≡◌, refl, sym, ap, ◌∙◌}
use mathlib.Core.Bool.{Bool, true, false, ◌&&◌, false≢true}
use mathlib.Core.List.{List, [], ◌∷◌, map}
use mathlib.Core.Option.{none, some}
use Prim.Native.Nat.{ℕ, zero, suc, ◌<◌}
use native.Mathlib.Omega.{arith}
use native.Mathlib.Nat.{le_of_suc-le-suc, not-suc-le-zero}
use lib.Dec.{eqb}
use lib.ListN.{length, get_or}
use borrow.Author.Tests.{eqb-true}
use Rattle.base_words.specs.Word.{pick}
use Rattle.base_text.specs.Text.{ascii}
use Rattle.base_builtins.specs.Builtins.{Builtin, takes, builtins, same, entry_of, builtin, name_at, length_fits, may_be}

-- ---- the entries

absent : Builtin
absent = record { name = []; least = 0; most = 0 }

-- builtin i
pub entry_at : ℕ → Builtin
entry_at i = get_or builtins i absent

-- there are 55
count : length builtins ≡ 55
unfolding builtins
count = refl

map_at : {A B : Type 0} (f : A → B) (l : List A) (i : ℕ) (d : A) (e : B) → i < length l → get_or (map f l) i e ≡ f (get_or l i d)
map_at f [] i d e h = absurd (not-suc-le-zero h)
map_at f (x ∷ xs) zero d e h = refl
map_at f (x ∷ xs) (suc i) d e h = map_at f xs i d e (le_of_suc-le-suc h)

-- its name
pub name_at_lem : (i : ℕ) → i < 55 → name_at i ≡ (entry_at i).name
unfolding name_at entry_at
name_at_lem i h = map_at (λ (b : Builtin). b.name) builtins i absent [] (omega (arith, count))

-- ---- the quick test

same_is : (a b : List ℕ) → same a b ≡ true → a ≡ b
unfolding same
same_is [] [] e = refl
same_is [] (y ∷ b) e = absurd (false≢true e)
same_is (x ∷ a) [] e = absurd (false≢true e)
same_is (x ∷ a) (y ∷ b) e = go (eqb x y) refl e (same_is a b)
  where
    go : (t : Bool) → eqb x y ≡ t → (t && same a b) ≡ true → (same a b ≡ true → a ≡ b) → (x ∷ a) ≡ (y ∷ b)
    go true q r ih = rw (eqb-true x y q, ih r) refl
    go false q r ih = absurd (false≢true r)

-- each name passes
passing : List Builtin → Bool
passing [] = true
passing (b ∷ bs) = may_be b.name && passing bs

all_pass : passing builtins ≡ true
unfolding passing may_be length_fits builtins takes ascii
all_pass = refl

none_of : (name : List ℕ) → may_be name ≡ false → (l : List Builtin) → passing l ≡ true → entry_of name l ≡ none
unfolding passing entry_of
none_of name n [] e = refl
none_of name n (b ∷ bs) e = go (may_be b.name) refl e (same name b.name) refl (none_of name n bs)
  where
    go : (t : Bool) → may_be b.name ≡ t → (t && passing bs) ≡ true → (u : Bool) → same name b.name ≡ u → (passing bs ≡ true → entry_of name bs ≡ none)
        → pick u (some b) (entry_of name bs) ≡ none
    go true p e false q ih = ih e
    go true p e true q ih = absurd (false≢true (sym n ∙ ap may_be (same_is name b.name q) ∙ p))
    go false p e u q ih = absurd (false≢true e)

-- what fails the test is no builtin
pub no_builtin : (name : List ℕ) → may_be name ≡ false → builtin name ≡ none
unfolding builtin
no_builtin name n = none_of name n builtins all_pass
