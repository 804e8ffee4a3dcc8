-- Narrowing, rounding and whole numbers as floats, on the exact values of IEEE 754. Definitions only.
-- A finite float is `fin s m e`, the number m * 2 ^ e = m * up e / down e, negative where s is true.
use Rattle.std.specs.Prelude.{ℕ, suc, ◌+◌, ◌-◌, ◌*◌, ◌/◌, ◌%◌, ◌^◌, ◌<◌, ◌≤◌, Bool, true, false, cond, ℤ, pos, negsuc, neg_ℤ, nat_lt, Float, Option, Some, None}
use Prim.Native.Nat.{compare, Ordering}
use Rattle.std.specs.Int.Signed.{mag}
use Rattle.std.specs.Float.Ieee as Ieee
use Rattle.std.specs.Float.{nan, inf, fin, binary32, binary64}
use Rattle.std.specs.Float.Ieee.{up, down}
use Rattle.std.specs.Float.Ieee.Exact.{HasValue}
use Rattle.base_numbers.specs.declared.Halves.{Halves}
use Rattle.base_numbers.specs.declared.Halves.TheVariants.{Even}

-- ---- rounding to a whole number

-- where the half between q and q + 1 goes
abbrev pub half_of : Halves → ℕ → ℕ
half_of Even q = q + q % 2

-- q, q + 1 or the one where the half goes: the rest after q is below, above or at a half
abbrev pub by_half : Halves → ℕ → Ordering → ℕ
by_half h q Ordering.lt = q
by_half h q Ordering.eq = half_of h q
by_half h q Ordering.gt = suc q

-- the whole number nearest to a / b: by how twice the remainder compares with b
abbrev pub near : Halves → ℕ → ℕ → ℕ
near h a b = by_half h (a / b) (compare (a % b * 2) b)

-- a magnitude with its sign
abbrev pub signed : Bool → ℕ → ℤ
signed s n = cond s (neg_ℤ (pos n)) (pos n)

-- the whole number nearest to a float. Of what is not finite it is never asked: `rounded` (fold_values/specs/Fold.antt) asks it of finite values alone.
-- (`whole_of` of entry_read/specs/Program.antt asks whether all words are the tree's.)
unfoldable pub whole_of : Halves → Float → ℤ
whole_of h nan = pos 0
whole_of h (inf s) = pos 0
whole_of h (fin s m e) = signed s (near h (m * up e) (down e))

-- -2 ^ k ≤ z < 2 ^ k: `mag` (Rattle.std.specs.Int.Signed) is n both for n and for -(n + 1)
abbrev pub within : ℕ → ℤ → Bool
within k z = nat_lt (mag z) (2 ^ k)

-- the first where the test holds, else the second
abbrev pub pick_whole : Bool → Option ℤ → Option ℤ → Option ℤ
pick_whole true a b = a
pick_whole false a b = b

-- a float rounded, where the rounded number has 32 bits
abbrev pub long_of : Halves → Float → Option ℤ
long_of h x = pick_whole (within 31 (whole_of h x)) (Some (whole_of h x)) None

-- ---- narrowing to 32 bits: to nearest, ties to even; an infinity where it is too large

-- a float at 32 bits; what is not finite stays as it is
unfoldable pub narrowed : Float → Float
narrowed nan = nan
narrowed (inf s) = inf s
narrowed (fin s m e) = Ieee.round binary32 s (m * up e) (down e)

-- a float that is finite, else None
abbrev pub finite_to : Float → Option Float
finite_to nan = None
finite_to (inf s) = None
finite_to (fin s m e) = Some (fin s m e)

-- narrowed, then tested
abbrev pub narrow_of : Float → Option Float
narrow_of x = finite_to (narrowed x)

-- ---- a whole number as a float of 64 bits (law `double_exact`: below 2 ^ 53 either way it is the same number)

-- rounded to nearest, ties to even, where it isn't exact
abbrev pub double_of : ℤ → Float
double_of z = Ieee.of_int binary64 z

-- ---- 64 bits as two words, the low first: a float's, and a whole number's in two's complement

-- a float of these bits
abbrev pub of_words : (low high : ℕ) → Float
of_words low high = Ieee.of_bits binary64 (high * 4294967296 + low)

-- a whole number's 64 bits
abbrev pub bits_of : ℤ → ℕ
bits_of (pos n) = n
bits_of (negsuc n) = 18446744073709551615 - n

-- the whole number of these words
abbrev pub whole_at : (low high : ℕ) → ℤ
whole_at low high = cond (nat_lt high 2147483648) (pos (high * 4294967296 + low)) (negsuc (18446744073709551615 - (high * 4294967296 + low)))

-- ---- for contracts inside and proofs: x is sig * 2 ^ exp of the smallest f64, and sig has all 53 digits where exp is above 0
pub record PartsOf (x : Float) (neg : Bool) (exp sig : ℕ) : Type 0 where
  pub value : HasValue x neg (sig * 2 ^ exp) (2 ^ 1074)
  pub small : sig < 2 ^ 53
  pub lead : 0 < exp → 2 ^ 52 ≤ sig
  pub bound : exp < 2046
