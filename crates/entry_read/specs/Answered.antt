-- What the code's answer of a reading says of what the definition gives: read up to a place, wrong at one, or too deep. Assumes nothing.
use Rattle.std.specs.Prelude.{ℕ, ◌≡◌, Ok, Err}
use Rattle.std.proofs.Common.{sym, ap, ◌∙◌, arith}
use Rattle.tree_expr.specs.Got.{Got, got, wrong, deep}
use Rattle.tree_expr.specs.Answer.{step_of, Step}
use Rattle.tree_expr.specs.declared.Cursor.{Cursor}
use Rattle.tree_expr.specs.declared.Misread.TheVariants.{Wrong, Deep}

-- something was read, up to an end
pub record ReadTo {A : Type 0} (g : Got A) (end : ℕ) : Type 0 where
  pub tree : A
  pub is : g ≡ got tree end

-- where an answer ended
unfoldable up_to : Step → ℕ
up_to (Ok c) = c.at
up_to (Err (Wrong p)) = p
up_to (Err (Deep p)) = p

-- the code read up to a place: so did the definition, and its tree is there
pub answer_read : {A : Type 0} (g : Got A) {s : Step} {c : Cursor} → s ≡ step_of g → s ≡ Ok c → ReadTo g c.at
unfolding step_of up_to
answer_read (got a k) {c = c} e q = let z : k ≡ c.at = ap up_to (sym e ∙ q) in record { tree = a; is = ap (got a) z }
answer_read (wrong p) e q = let z : ◌≡◌ {A = ℕ} 0 1 = cc in absurd (omega arith)
answer_read (deep p) e q = let z : ◌≡◌ {A = ℕ} 0 1 = cc in absurd (omega arith)

-- a wrong word at p: the definition says the same
pub answer_wrong : {A : Type 0} (g : Got A) {s : Step} {p : ℕ} → s ≡ step_of g → s ≡ Err (Wrong p) → g ≡ wrong p
unfolding step_of
answer_wrong (got a k) e q = let z : ◌≡◌ {A = ℕ} 0 1 = cc in absurd (omega arith)
answer_wrong (wrong p) e q = ap wrong (cc)
answer_wrong (deep p) e q = let z : ◌≡◌ {A = ℕ} 0 1 = cc in absurd (omega arith)

-- too deep at p: the definition says the same
pub answer_deep : {A : Type 0} (g : Got A) {s : Step} {p : ℕ} → s ≡ step_of g → s ≡ Err (Deep p) → g ≡ deep p
unfolding step_of
answer_deep (got a k) e q = let z : ◌≡◌ {A = ℕ} 0 1 = cc in absurd (omega arith)
answer_deep (wrong p) e q = let z : ◌≡◌ {A = ℕ} 0 1 = cc in absurd (omega arith)
answer_deep (deep p) e q = ap deep (cc)
