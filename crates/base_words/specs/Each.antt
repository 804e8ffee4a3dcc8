-- A fact of each of a list, and what a function gives for each of it. Assumes nothing.
use Rattle.std.specs.Prelude.{ℕ, zero, suc, ◌≡◌, List, [], ◌∷◌, get_or}
use Rattle.std.proofs.Common.{ap}

-- P holds of each element
unfoldable pub Each : {A : Type 0} → (A → Type 0) → List A → Type 0
Each P [] = Unit {0}
Each P (x ∷ xs) = P x × Each P xs

-- the fact of the one at a place, or of the default
pub each_or : {A : Type 0} (P : A → Type 0) (d : A) (xs : List A) → P d → Each P xs → (i : ℕ) → P (get_or xs i d)
unfolding Each
each_or P d [] p a i = p
each_or P d (x ∷ xs) p a zero = a.0
each_or P d (x ∷ xs) p a (suc i) = each_or P d xs p a.1 i

-- what the function gives for each
unfoldable pub tuple : {A : Type 0} {T : A → Type 0} → ((x : A) → T x) → (xs : List A) → Each T xs
unfolding Each
tuple f [] = tt
tuple f (x ∷ xs) = (f x, tuple f xs)

-- functions that give the same for each are alike at each
pub each_same : {A : Type 0} {T : A → Type 0} (f g : (x : A) → T x) (xs : List A) → tuple f xs ≡ tuple g xs → Each (λ x. f x ≡ g x) xs
unfolding Each tuple
each_same f g [] e = tt
each_same f g (x ∷ xs) e = (ap (λ p. p.0) e, each_same f g xs (ap (λ p. p.1) e))
