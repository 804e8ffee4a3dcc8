-- Laws of tests, of the arms of a `match` and of runs of stores that several crates cite and that no library has. Assumes nothing.
use Rattle.std.specs.Prelude.{ℕ, zero, suc, ◌+◌, ◌≤◌, ◌≡◌, refl, Bool, false, ◌||◌, List, [], ◌∷◌, ◌++◌, length, set}
use Rattle.std.proofs.Common.{add-zero, arith, sym, ap, ◌∙◌}
use Rattle.std.proofs.lemmas.List.Edits.{sets}

-- a disjunction whose first test fails is its second
pub or_false : (a b : Bool) → a ≡ false → (a || b) ≡ b
or_false a b e = rw e refl

-- what a `match` tells where none of its arms a to a + n - 1 was taken
unfoldable pub PastArms : ℕ → ℕ → ℕ → Type 0
PastArms a zero k = Unit {0}
PastArms a (suc n) k = PastArms a n k × (k ≡ a + n → ⊥)

-- past the arms for a, the number after it, and so on, n of them: the number is a + n or more
pub past_arms : (a n k : ℕ) → a ≤ k → PastArms a n k → a + n ≤ k
unfolding PastArms
past_arms a zero k h p = omega arith
past_arms a (suc n) k h p =
    let l : a + n ≤ k = past_arms a n k h p.0 in
    let f : k ≡ a + n → ⊥ = p.1 in
    omega arith

-- past the arms for 0 to n - 1: the number is n or more
pub beyond : (n k : ℕ) → PastArms 0 n k → n ≤ k
beyond n k p = let l : 0 + n ≤ k = past_arms 0 n k (omega arith) p in omega arith

-- two runs of stores, one after the other
pub sets_append : (xs ys l : List ℕ) (i : ℕ) → sets l i (xs ++ ys) ≡ sets (sets l i xs) (i + length xs) ys
sets_append [] ys l i = ap (λ (n : ℕ). sets l n ys) (sym (add-zero i))
sets_append (a ∷ xs) ys l i =
    let e : suc i + length xs ≡ i + suc (length xs) = omega arith in
    sets_append xs ys (set l i a) (suc i) ∙ ap (λ (n : ℕ). sets (sets (set l i a) (suc i) xs) n ys) e
