-- The words of a value and the value of words are each other's inverse, and the rule of a CONST row says exactly which words a value in range has.
use Rattle.std.specs.Prelude.{◌≡◌, refl, Bool, true, false, cond, ◌&&◌, ◌||◌, ℕ, ◌+◌, ◌-◌, ◌*◌, ◌/◌, ◌%◌, ◌≤◌, ◌<◌, ℤ, pos, negsuc, T, eqb, ltb, leb}
use Rattle.std.proofs.Common.{sym, ap, ◌∙◌, subst, div-add-mod', arith, lt-ltb, le-ltb, eqb→eq, leb→le, le→leb, lt→ltb, ltb→lt}
use Rattle.std.proofs.Math.Dec.{eqb_refl}
use Rattle.std.specs.Float.Ieee as Ieee
use Rattle.std.specs.Float.{binary64}
use Rattle.std.specs.Float.Ieee.{to_bits, of_bits, fits}
use Rattle.std.specs.Float.Ieee.Bits.{of_bits-to_bits, to_bits-of_bits, to_bits-lt, of_bits-fits}
use Rattle.std.specs.Float.Ieee.Fits.{and_i, and_l, and_r}
use Rattle.std.specs.Float.Ieee.Scale.{finite}
use Rattle.base_words.specs.Word.{pick}
use Rattle.base_numbers.specs.Numbers.{of_words, bits_of, whole_at}
use Rattle.base_numbers.specs.NumbersLaws.{no_nan, words_finite}
use Rattle.fold_values.specs.Value.{InRange, Good, Known, literal_kind, low_of, high_of, value_of, whole_rule, float_rule, const_rule}
use Rattle.fold_values.specs.declared.Value.{Value}
use Rattle.fold_values.specs.declared.Value.TheVariants.{Integer, Long, Single, Float, Text}

-- 64 bits hold its number
abbrev pub Fit : Value → Type 0
Fit (Integer z) = Unit {0}
Fit (Long z) = Unit {0}
Fit (Single x) = T (fits binary64 x)
Fit (Float x) = T (fits binary64 x)
Fit (Text t) = t < 4294967296

-- a value that a CONST row may hold, with n strings
pub record RowValue (n : ℕ) (v : Value) : Type 0 where
  pub good : Good v
  pub known : Known n v
  pub fit : Fit v

-- ---- a word and the one above it
join : (b : ℕ) → b / 4294967296 * 4294967296 + b % 4294967296 ≡ b
join b = div-add-mod' b 4294967296

-- ---- whole numbers
sign_back : (low high : ℕ) → low < 4294967296 → high < 4294967296 → bits_of (whole_at low high) ≡ high * 4294967296 + low
sign_back low high h k = go (ltb high 2147483648)
  where
    go : (b : Bool) → bits_of (cond b (pos (high * 4294967296 + low)) (negsuc (18446744073709551615 - (high * 4294967296 + low)))) ≡ high * 4294967296 + low
    go true = refl
    go false = omega arith

back_sign : (z : ℤ) → InRange z → whole_at (bits_of z % 4294967296) (bits_of z / 4294967296) ≡ z
back_sign (pos n) h =
    ap (λ (b : Bool). cond b (pos (n / 4294967296 * 4294967296 + n % 4294967296)) (negsuc (18446744073709551615 - (n / 4294967296 * 4294967296 + n % 4294967296))))
    (lt-ltb (n / 4294967296) 2147483648 (omega arith))
    ∙ ap pos (join n)
back_sign (negsuc n) h =
    let b = 18446744073709551615 - n in
    ap (λ (t : Bool). cond t (pos (b / 4294967296 * 4294967296 + b % 4294967296)) (negsuc (18446744073709551615 - (b / 4294967296 * 4294967296 + b % 4294967296))))
    (le-ltb (b / 4294967296) 2147483648 (omega arith))
    ∙ ap negsuc (ap (λ (m : ℕ). 18446744073709551615 - m) (join b) ∙ omega arith)

-- ---- floats
float_back : (x : Ieee.Float) → T (fits binary64 x) → of_words (to_bits binary64 x % 4294967296) (to_bits binary64 x / 4294967296) ≡ x
float_back x f = ap (of_bits binary64) (join (to_bits binary64 x)) ∙ of_bits-to_bits binary64 x f

back_float : (low high : ℕ) → low < 4294967296 → high < 4294967296 → T (finite (of_words low high)) → to_bits binary64 (of_words low high) ≡ high * 4294967296 + low
back_float low high h k f = to_bits-of_bits binary64 (high * 4294967296 + low) (omega arith) (no_nan (of_words low high) f)

-- ---- the value of a value's words
-- of a value that a row may hold it is this value
pub value_words : (n : ℕ) (v : Value) → RowValue n v → value_of (literal_kind v) (low_of v) (high_of v) ≡ v
unfolding value_of
value_words n (Integer z) r = ap Integer (back_sign z r.good)
value_words n (Long z) r = ap Long (back_sign z r.good)
value_words n (Single x) r = ap Single (float_back x r.fit)
value_words n (Float x) r = ap Float (float_back x r.fit)
value_words n (Text t) r = let h : t < 4294967296 = r.fit in ap Text (omega arith)

-- ---- the rule by its five kinds
data RuleCase (n : ℕ) : ℕ → ℕ → ℕ → Type 0 where
  integer : {low high : ℕ} → T (whole_rule low high) → RuleCase n 24 low high
  long : {low high : ℕ} → T (whole_rule low high) → RuleCase n 25 low high
  single : {low high : ℕ} → T (float_rule high) → RuleCase n 26 low high
  float : {low high : ℕ} → T (float_rule high) → RuleCase n 27 low high
  text : {low high : ℕ} → T (ltb low n && eqb high 0) → RuleCase n 28 low high

rule_case : (n k low high : ℕ) → T (const_rule n k low high) → RuleCase n k low high
unfolding const_rule
rule_case n k low high t = go (eqb k 24) (eqb k 25) (eqb k 26) (eqb k 27) (eqb k 28) (eqb→eq k 24) (eqb→eq k 25) (eqb→eq k 26) (eqb→eq k 27) (eqb→eq k 28) t
  where
    at : (j : ℕ) → k ≡ j → RuleCase n j low high → RuleCase n k low high
    at j e c = subst (λ (i : ℕ). RuleCase n i low high) (sym e) c

    go : (a b c d e : Bool) → (T a → k ≡ 24) → (T b → k ≡ 25) → (T c → k ≡ 26) → (T d → k ≡ 27) → (T e → k ≡ 28)
        → T (pick (a || b) (whole_rule low high) (pick (c || d) (float_rule high) (e && (ltb low n && eqb high 0)))) → RuleCase n k low high
    go true b c d e ka kb kc kd ke u = at 24 (ka tt) (integer u)
    go false true c d e ka kb kc kd ke u = at 25 (kb tt) (long u)
    go false false true d e ka kb kc kd ke u = at 26 (kc tt) (single u)
    go false false false true e ka kb kc kd ke u = at 27 (kd tt) (float u)
    go false false false false true ka kb kc kd ke u = at 28 (ke tt) (text u)
    go false false false false false ka kb kc kd ke u = absurd u

-- ---- the rule of a whole number's words is its range
or_split : (a b : Bool) {X : Type 0} → T (a || b) → (T a → X) → (T b → X) → X
or_split true b t f g = f tt
or_split false b t f g = g t

rule_range : (low high : ℕ) → low < 4294967296 → T (whole_rule low high) → InRange (whole_at low high)
rule_range low high k t =
    or_split (eqb high 0 && leb low 2147483648) (eqb high 4294967295 && leb 2147483648 low) t
    (λ (u : T (eqb high 0 && leb low 2147483648)).
    below (eqb→eq high 0 (and_l (eqb high 0) (leb low 2147483648) u)) (leb→le low 2147483648 (and_r (eqb high 0) (leb low 2147483648) u)))
    (λ (u : T (eqb high 4294967295 && leb 2147483648 low)).
    above (eqb→eq high 4294967295 (and_l (eqb high 4294967295) (leb 2147483648 low) u)) (leb→le 2147483648 low (and_r (eqb high 4294967295) (leb 2147483648 low) u)))
  where
    at : (b : Bool) → ltb high 2147483648 ≡ b → InRange (cond b (pos (high * 4294967296 + low)) (negsuc (18446744073709551615 - (high * 4294967296 + low)))) → InRange (whole_at low high)
    at b e r = subst (λ (t : Bool). InRange (cond t (pos (high * 4294967296 + low)) (negsuc (18446744073709551615 - (high * 4294967296 + low))))) (sym e) r

    below : high ≡ 0 → low ≤ 2147483648 → InRange (whole_at low high)
    below e l = at true (lt-ltb high 2147483648 (omega arith)) (omega arith)

    above : high ≡ 4294967295 → 2147483648 ≤ low → InRange (whole_at low high)
    above e l = at false (le-ltb high 2147483648 (omega arith)) (omega arith)

or_left : (a b : Bool) → T a → T (a || b)
or_left true b t = tt
or_left false b t = absurd t

or_right : (a b : Bool) → T b → T (a || b)
or_right true b t = tt
or_right false b t = t

eq→T : (a b : ℕ) → a ≡ b → T (eqb a b)
eq→T a b e = subst (λ (x : ℕ). T (eqb a x)) e (eqb_refl a)

range_rule : (z : ℤ) → InRange z → T (whole_rule (bits_of z % 4294967296) (bits_of z / 4294967296))
range_rule (pos n) h =
    or_left (eqb (n / 4294967296) 0 && leb (n % 4294967296) 2147483648) (eqb (n / 4294967296) 4294967295 && leb 2147483648 (n % 4294967296))
    (and_i (eqb (n / 4294967296) 0) (leb (n % 4294967296) 2147483648) (eq→T (n / 4294967296) 0 (omega arith)) (le→leb (n % 4294967296) 2147483648 (omega arith)))
range_rule (negsuc n) h =
    let b = 18446744073709551615 - n in
    or_right (eqb (b / 4294967296) 0 && leb (b % 4294967296) 2147483648) (eqb (b / 4294967296) 4294967295 && leb 2147483648 (b % 4294967296))
    (and_i (eqb (b / 4294967296) 4294967295) (leb 2147483648 (b % 4294967296)) (eq→T (b / 4294967296) 4294967295 (omega arith)) (le→leb 2147483648 (b % 4294967296) (omega arith)))

-- ---- that of a float's words, that it is finite
float_rule_lem : (x : Ieee.Float) → T (fits binary64 x) → T (finite x) → T (float_rule (to_bits binary64 x / 4294967296))
float_rule_lem x f t =
    let b = to_bits binary64 x in
    let l : b < 2 * (4503599627370496 * 2048) = to_bits-lt binary64 x f in
    subst T (sym (words_finite (b % 4294967296) (b / 4294967296) (omega arith) (omega arith))) (subst (λ (y : Ieee.Float). T (finite y)) (sym (float_back x f)) t)

-- ---- a row's words that meet the rule are those of a value that the row may hold, and back
case_row : (n : ℕ) {k low high : ℕ} → low < 4294967296 → high < 4294967296 → RuleCase n k low high → RowValue n (value_of k low high)
unfolding value_of
case_row n {low = low} {high = high} h g (integer t) = record { good = rule_range low high h t; known = tt; fit = tt }
case_row n {low = low} {high = high} h g (long t) = record { good = rule_range low high h t; known = tt; fit = tt }
case_row n {low = low} {high = high} h g (single t) = record { good = subst T (words_finite low high h g) t; known = tt; fit = of_bits-fits binary64 (high * 4294967296 + low) }
case_row n {low = low} {high = high} h g (float t) = record { good = subst T (words_finite low high h g) t; known = tt; fit = of_bits-fits binary64 (high * 4294967296 + low) }
case_row n {low = low} {high = high} h g (text t) = record { good = tt; known = ltb→lt low n (and_l (ltb low n) (eqb high 0) t); fit = h }

-- words that meet the rule are those of a value that a row may hold
pub rule_row : (n k low high : ℕ) → low < 4294967296 → high < 4294967296 → T (const_rule n k low high) → RowValue n (value_of k low high)
rule_row n k low high h g t = case_row n h g (rule_case n k low high t)

-- the words of a value that a row may hold meet the rule
pub row_rule : (n : ℕ) (v : Value) → RowValue n v → T (const_rule n (literal_kind v) (low_of v) (high_of v))
unfolding const_rule
row_rule n (Integer z) r = range_rule z r.good
row_rule n (Long z) r = range_rule z r.good
row_rule n (Single x) r = float_rule_lem x r.fit r.good
row_rule n (Float x) r = float_rule_lem x r.fit r.good
row_rule n (Text t) r =
    let h : t < 4294967296 = r.fit in
    let k : t < n = r.known in
    and_i (ltb (t % 4294967296) n) (eqb (t / 4294967296) 0) (lt→ltb (t % 4294967296) n (omega arith)) (eq→T (t / 4294967296) 0 (omega arith))

-- ---- the words of the words' value
pub record SameWords (v : Value) (kind low high : ℕ) : Type 0 where
  pub kind_is : literal_kind v ≡ kind
  pub low_is : low_of v ≡ low
  pub high_is : high_of v ≡ high

same_words : (b low high : ℕ) → low < 4294967296 → b ≡ high * 4294967296 + low → (b % 4294967296 ≡ low) × (b / 4294967296 ≡ high)
same_words b low high h e = (omega arith, omega arith)

case_words : (n : ℕ) {k low high : ℕ} → low < 4294967296 → high < 4294967296 → RuleCase n k low high → SameWords (value_of k low high) k low high
unfolding value_of
case_words n {low = low} {high = high} h g (integer t) =
    let s = same_words (bits_of (whole_at low high)) low high h (sign_back low high h g) in record { kind_is = refl; low_is = s.0; high_is = s.1 }
case_words n {low = low} {high = high} h g (long t) =
    let s = same_words (bits_of (whole_at low high)) low high h (sign_back low high h g) in record { kind_is = refl; low_is = s.0; high_is = s.1 }
case_words n {low = low} {high = high} h g (single t) =
    let s = same_words (to_bits binary64 (of_words low high)) low high h (back_float low high h g (subst T (words_finite low high h g) t)) in record { kind_is = refl; low_is = s.0; high_is = s.1 }
case_words n {low = low} {high = high} h g (float t) =
    let s = same_words (to_bits binary64 (of_words low high)) low high h (back_float low high h g (subst T (words_finite low high h g) t)) in record { kind_is = refl; low_is = s.0; high_is = s.1 }
case_words n {low = low} {high = high} h g (text t) =
    let e : high ≡ 0 = eqb→eq high 0 (and_r (ltb low n) (eqb high 0) t) in
    let s = same_words low low high h (omega arith) in record { kind_is = refl; low_is = s.0; high_is = s.1 }

-- words that meet the rule are the words of their value
pub words_value : (n k low high : ℕ) → low < 4294967296 → high < 4294967296 → T (const_rule n k low high) → SameWords (value_of k low high) k low high
words_value n k low high h g t = case_words n h g (rule_case n k low high t)
