-- Lists of steps, perhaps empty: the reflexive and transitive closure of a relation. Assumes nothing.
use Rattle.std.specs.Prelude.{◌≡◌, refl}
use Rattle.std.proofs.Common.{subst, ◌∙◌}

-- steps of R from one end to the other
pub data Chain {A : Type 0} (R : A → A → Type 0) : A → A → Type 0 where
  empty : {a : A} → Chain R a a
  more : {a b c : A} → R a b → Chain R b c → Chain R a c

-- a list of one step
pub single : {A : Type 0} {R : A → A → Type 0} {a b : A} → R a b → Chain R a b
single r = more r empty

-- one list after another
pub then : {A : Type 0} {R : A → A → Type 0} {a b c : A} → Chain R a b → Chain R b c → Chain R a c
then empty t = t
then (more r s) t = more r (then s t)

-- a list of steps under a constructor
pub under : {A B : Type 0} {R : A → A → Type 0} {S : B → B → Type 0} {a b : A} (f : A → B) → ((x y : A) → R x y → S (f x) (f y)) → Chain R a b → Chain S (f a) (f b)
under f h empty = empty
under f h (more {a} {b} r s) = more (h a b r) (under f h s)

-- where each step can be undone, so can a list of them
pub back : {A : Type 0} {R : A → A → Type 0} {a b : A} → ((x y : A) → R x y → R y x) → Chain R a b → Chain R b a
back h empty = empty
back h (more {a} {b} r s) = then (back h s) (single (h a b r))

-- equal ends are linked by no step
pub same : {A : Type 0} {R : A → A → Type 0} {a b : A} → a ≡ b → Chain R a b
same {A} {R} {a} e = subst (λ (x : A). Chain R a x) e empty

-- what no step changes, no list of steps changes
pub keeps : {A B : Type 0} {R : A → A → Type 0} {a b : A} (f : A → B) → ((x y : A) → R x y → f x ≡ f y) → Chain R a b → f a ≡ f b
keeps f h empty = refl
keeps f h (more {a} {b} r s) = h a b r ∙ keeps f h s
