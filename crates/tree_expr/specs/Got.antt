-- What reading at a place gives: a value and the place past it, or the place of the first wrong word, or of a head that stands too deep.
use Rattle.std.specs.Prelude.{ℕ}

-- what was read and the place past it; the place of a wrong word; that of a head too deep
pub data Got (A : Type 0) : Type 0 where
  got : A → ℕ → Got A
  wrong : ℕ → Got A
  deep : ℕ → Got A

-- one reading after another
unfoldable pub bind : {A B : Type 0} → Got A → (A → ℕ → Got B) → Got B
bind (got a m) k = k a m
bind (wrong p) k = wrong p
bind (deep p) k = deep p
