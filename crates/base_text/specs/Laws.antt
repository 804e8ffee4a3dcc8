-- Texts written one after the other: two texts written in turn are one text written (`then`), and writing a part or decimal digits comes
-- down to it.
use Rattle.std.specs.Prelude.{ℕ, zero, suc, ◌+◌, ◌-◌, ◌*◌, ◌/◌, ◌%◌, ◌^◌, ◌≤◌, ◌<◌, min, ◌≡◌, refl, Bool, true, false, List, [], ◌∷◌, ◌++◌, ltb, leb, length, take, drop, get_or, set, replicate}
use Rattle.std.proofs.Common.{pow-suc, div-one, add-one, arith, sym, ap, ◌∙◌, length-append, length-drop, take-append-drop, get_or-append-add, take-suc, get_or-drop, append_assoc, append-nil, take_all, take-take, length-take-le}
use mathlib.Core.List.{flat_map}
use borrow.Author.Tests.{le-ltb, lt-ltb, lt-leb}
use Rattle.std.proofs.Math.ListN.{get_or-append}
use Rattle.std.proofs.lemmas.List.Edits.{sets, sets-eq}
use Rattle.std.proofs.Math.Seq.{length-sets, set_out}
use Rattle.base_words.specs.Word.{pick}
use Rattle.base_words.specs.Laws.{sets_append}
use Rattle.base_text.specs.Text.{digit, hex8, pair, hex_pairs, digits, decimal}
use Rattle.base_text.specs.Wrote.{Wrote, size, laid}

sets_out : (vs l : List ℕ) (i : ℕ) → length l ≤ i → sets l i vs ≡ l
sets_out [] l i h = refl
sets_out (a ∷ vs) l i h = ap (λ x. sets x (suc i) vs) (set_out l i a h) ∙ sets_out vs l (suc i) (omega arith)

-- places past the end are alike
sets_alike : (vs l : List ℕ) (i j : ℕ) → min i (length l + 1) ≡ min j (length l + 1) → sets l i vs ≡ sets l j vs
sets_alike vs l i j e = go (ltb (length l) i) refl
  where
    go : (t : Bool) → ltb (length l) i ≡ t → sets l i vs ≡ sets l j vs
    go true q =
        let h : length l < i = borrow.Author.Tests.ltb-true (length l) i q in
        sets_out vs l i (omega arith) ∙ sym (sets_out vs l j (omega arith))
    go false q =
        let h : i ≤ length l = borrow.Author.Tests.ltb-false (length l) i q in
        let s : i ≡ j = omega arith in
        rw s

apart : (i j k s t n : ℕ) → min j n ≡ min (i + s) n → min k n ≡ min (j + t) n → min k n ≡ min (i + (s + t)) n
apart i j k s t n e f = f ∙ onward i j s t n e
  where
    onward : (i j s t n : ℕ) → min j n ≡ min (i + s) n → min (j + t) n ≡ min (i + (s + t)) n
    onward i j s t n e = omega arith

-- the empty text leaves all as it is
pub nothing : {b : List ℕ} {at : ℕ} → Wrote [] b b at at
nothing {b} {at} = record { now = refl; end = omega arith }

-- a text, and then another
pub then : {s t b c d : List ℕ} {i j k : ℕ} → Wrote s b c i j → Wrote t c d j k → Wrote (s ++ t) b d i k
then {s} {t} {b} {c} {d} {i} {j} {k} p q =
    let l : length c ≡ length b = ap length p.now ∙ length-sets b i s in
    let e : min j (length c + 1) ≡ min (i + length s) (length c + 1) = rw l p.end in
    let q_end : min k (length b + 1) ≡ min (j + length t) (length b + 1) = rw l at q.end in
    record {
      now = q.now ∙ sets_alike t c j (i + length s) e ∙ ap (λ x. sets x (i + length s) t) p.now ∙ sym (sets_append s t b i);
      end = simp length-append (apart i j k (length s) (length t) (length b + 1) p.end q_end);
    }

-- the same text, its end under another name
pub moved : {s b c : List ℕ} {at i j : ℕ} → i ≡ j → Wrote s b c at i → Wrote s b c at j
moved e p = rw e at p

-- the same place, the text under another name
pub same : {s t b c : List ℕ} {i j : ℕ} → s ≡ t → Wrote s b c i j → Wrote t b c i j
same e p = rw e at p

-- ---- items one after the other: what each stands for, in turn

module _ {A : Type 0} (f : A → List ℕ) where
  flat_map_snoc : (xs : List A) (x : A) → flat_map f (xs ++ (x ∷ [])) ≡ flat_map f xs ++ f x
  unfolding flat_map
  flat_map_snoc [] x = append-nil (f x)
  flat_map_snoc (y ∷ ys) x = ap (λ r. f y ++ r) (flat_map_snoc ys x) ∙ sym (append_assoc (f y) (flat_map f ys) (f x))

  -- none is written
  pub items_none : {b : List ℕ} {at : ℕ} (xs : List A) → Wrote (flat_map f (take 0 xs)) b b at at
  unfolding flat_map
  items_none xs = nothing

  -- one more
  pub items_more : {a b c : List ℕ} {i j k : ℕ} (xs : List A) (n : ℕ) (d : A) → n < length xs → Wrote (flat_map f (take n xs)) a b i j → Wrote (f (get_or xs n d)) b c j k → Wrote (flat_map f (take (n + 1) xs)) a c i k
  items_more xs n d h p q = same (sym (rw (add-one n, take-suc xs n d h) (flat_map_snoc (take n xs) (get_or xs n d)))) (then p q)

  -- all are
  pub items_all : {a b : List ℕ} {i j : ℕ} (xs : List A) (n : ℕ) → length xs ≤ n → Wrote (flat_map f (take n xs)) a b i j → Wrote (flat_map f xs) a b i j
  items_all xs n h p = same (ap (flat_map f) (take_all n xs h)) p

-- ---- a part

-- a part that ends at the end of the whole
pub cut : (s : List ℕ) (from to n : ℕ) → n ≡ min to (length s) → take (n - from) (drop from s) ≡ take (to - from) (drop from s)
cut s from to n e = go (ltb (length s) to) refl
  where
    go : (t : Bool) → ltb (length s) to ≡ t → take (n - from) (drop from s) ≡ take (to - from) (drop from s)
    go true q =
        let h : length s < to = borrow.Author.Tests.ltb-true (length s) to q in
        take_all (n - from) (drop from s) (simp length-drop (omega arith)) ∙ sym (take_all (to - from) (drop from s) (simp length-drop (omega arith)))
    go false q =
        let h : to ≤ length s = borrow.Author.Tests.ltb-false (length s) to q in
        let s : n ≡ to = omega arith in
        rw s

-- ---- decimal

tenth : (f n : ℕ) → n < 10 ^ suc (suc f) → n / 10 < 10 ^ suc f
tenth f n h =
    let e : 10 ^ suc (suc f) ≡ 10 ^ suc f * 10 = pow-suc 10 (suc f) in
    omega arith

-- room for more digits changes nothing
room : (f g n : ℕ) → n < 10 ^ suc f → n < 10 ^ suc g → digits (suc f) n ≡ digits (suc g) n
unfolding digits
room zero zero n h k = refl
room zero (suc g) n h k = rw (lt-ltb n 10 h)
room (suc f) zero n h k = rw (lt-ltb n 10 k)
room (suc f) (suc g) n h k = go (ltb n 10) refl (room f g (n / 10) (tenth f n h) (tenth g n k))
  where
    go : (t : Bool) → ltb n 10 ≡ t → digits (suc f) (n / 10) ≡ digits (suc g) (n / 10) → digits (suc (suc f)) n ≡ digits (suc (suc g)) n
    go true q r = rw q
    go false q r = rw (q, r)

-- a number below 10 is one digit
pub decimal_one : (n : ℕ) → n < 10 → decimal n ≡ digit n ∷ []
unfolding decimal digits
decimal_one n h = rw (lt-ltb n 10 h)

-- a word from 10 on: its tenth's digits, and then its last
pub decimal_more : (n : ℕ) → 10 ≤ n → n < 2 ^ 32 → decimal n ≡ decimal (n / 10) ++ (digit (n % 10) ∷ [])
unfolding decimal digits
decimal_more n h k = rw (le-ltb n 10 h, room 8 9 (n / 10) (omega arith) (omega arith))

-- ---- a part

-- one byte more of a copy
pub copied_more : (b s : List ℕ) (at from i : ℕ) → from + i < length s → set (sets b at (take i (drop from s))) (at + i) (get_or s (from + i) 0) ≡ sets b at (take (i + 1) (drop from s))
copied_more b s at from i h =
    let d = drop from s in
    let short : i < length d = simp length-drop (omega arith) in
    let g : get_or d i 0 ≡ get_or s (from + i) 0 = get_or-drop from s i 0 in
    let l : length (take i d) ≡ i = length-take-le i d (omega arith) in
    rw (add-one i, take-suc d i 0 short, g, sets_append (take i d) (get_or s (from + i) 0 ∷ []) b at, l)

-- what fits of a text is all that is written of it
sets_fit : (xs b : List ℕ) (at n : ℕ) → n ≡ min (length xs) (length b - at) → sets b at (take n xs) ≡ sets b at xs
sets_fit xs b at n e = go (leb (length xs) n) refl
  where
    go : (t : Bool) → leb (length xs) n ≡ t → sets b at (take n xs) ≡ sets b at xs
    go true q =
        let h : length xs ≤ n = borrow.Author.Tests.leb-true (length xs) n q in
        ap (sets b at) (take_all n xs h)
    go false q =
        let h : n < length xs = borrow.Author.Tests.leb-false (length xs) n q in
        let f = take n xs in
        let l : length f ≡ n = length-take-le n xs (omega arith) in
        let out : sets (sets b at f) (at + length f) (drop n xs) ≡ sets b at f = sets_out (drop n xs) (sets b at f) (at + length f) (simp length-sets (omega arith)) in
        sym (ap (sets b at) (sym (take-append-drop n xs)) ∙ sets_append f (drop n xs) b at ∙ out)

-- as much of a part as fits
pub part : {b c : List ℕ} {at next : ℕ} (s : List ℕ) (from to end n : ℕ) → end ≡ min to (length s) → from ≤ end → n ≡ min (end - from) (length b - at) → c ≡ sets b at (take n (drop from s)) → min next (length b + 1) ≡ min (at + (end - from)) (length b + 1) → Wrote (take (to - from) (drop from s)) b c at next
part {b} {c} {at} {next} s from to end n e h k w m =
    let d = drop from s in
    let l : end ≤ length s = (under end to (length s) e).1 in
    let size : length (take (end - from) d) ≡ end - from = length-take-le (end - from) d (simp length-drop (less end (length s) from l)) in
    let shorter : n ≤ end - from = (under n (end - from) (length b - at) k).0 in
    let short : n ≡ min (length (take (end - from) d)) (length b - at) = rw size k in
    same (cut s from to end e) (record {
      now = w ∙ ap (sets b at) (sym (take-take n (end - from) d shorter)) ∙ sets_fit (take (end - from) d) b at n short;
      end = rw size m;
    })
  where
    under : (a b c : ℕ) → a ≡ min b c → (a ≤ b) × (a ≤ c)
    under a b c e = (omega arith, omega arith)

    less : (a b c : ℕ) → a ≤ b → a - c ≤ b - c
    less a b c h = omega arith

-- past the end nothing is written
pub past : {b : List ℕ} {at : ℕ} (s : List ℕ) → length b < at → Wrote s b b at at
past {b} {at} s h = record { now = sym (sets_out s b at (omega arith)); end = omega arith }

-- a part that begins past the end is empty
pub no_part : {b : List ℕ} {at : ℕ} (s : List ℕ) (from to n : ℕ) → n < from → n ≡ min to (length s) → Wrote (take (to - from) (drop from s)) b b at at
no_part s from to n h e =
    let z : 0 ≡ n - from = omega arith in
    same (ap (λ k. take k (drop from s)) z ∙ cut s from to n e) nothing

-- the part from 0 to the end is the whole
pub whole : (s : List ℕ) → take (length s - 0) (drop 0 s) ≡ s
whole s = take_all (length s - 0) s (omega arith)

-- ---- a word

-- n bytes have twice as many digits
pub pairs_long : (n : ℕ) → length (hex_pairs n) ≡ n + n
unfolding hex_pairs
pairs_long zero = refl
pairs_long (suc n) = simp length-append (omega (arith, pairs_long n))

-- the table grows behind
pair_before : (n k : ℕ) → k < n + n → get_or (hex_pairs (suc n)) k 0 ≡ get_or (hex_pairs n) k 0
unfolding hex_pairs
pair_before n k h = get_or-append (hex_pairs n) (pair n) 0 k (omega (arith, pairs_long n))

pair_last : (n i k : ℕ) → k ≡ n + n + i → get_or (hex_pairs (suc n)) k 0 ≡ get_or (pair n) i 0
unfolding hex_pairs
pair_last n i k e =
    let f : k ≡ length (hex_pairs n) + i = omega (arith, pairs_long n) in
    rw f (get_or-append-add (hex_pairs n) (pair n) i 0)

-- a byte's two digits stand side by side in the table
pub pair_at : (n b k : ℕ) → b < n → k ≡ 2 * b → (get_or (hex_pairs n) k 0 ≡ digit (b / 16)) × (get_or (hex_pairs n) (k + 1) 0 ≡ digit (b % 16))
pair_at zero b k h e = absurd (omega arith)
pair_at (suc n) b k h e = go (ltb b n) refl (λ l. pair_at n b k l e)
  where
    go : (t : Bool) → ltb b n ≡ t → (b < n → (get_or (hex_pairs n) k 0 ≡ digit (b / 16)) × (get_or (hex_pairs n) (k + 1) 0 ≡ digit (b % 16))) → (get_or (hex_pairs (suc n)) k 0 ≡ digit (b / 16)) × (get_or (hex_pairs (suc n)) (k + 1) 0 ≡ digit (b % 16))
    go true q r =
        let l : b < n = borrow.Author.Tests.ltb-true b n q in
        (pair_before n k (omega arith) ∙ (r l).0, pair_before n (k + 1) (omega arith) ∙ (r l).1)
    go false q r =
        let l : n ≤ b = borrow.Author.Tests.ltb-false b n q in
        let s : b ≡ n = omega arith in
        (pair_last n 0 k (omega arith) ∙ ap (λ y. digit (y / 16)) (sym s), pair_last n 1 (k + 1) (omega arith) ∙ ap (λ y. digit (y % 16)) (sym s))

-- the table has 512 bytes
pub pairs_size : {t : List ℕ} → t ≡ hex_pairs 256 → length t ≡ 512
pairs_size e = ap length e ∙ pairs_long 256

-- a byte's two digits, copied from the table, are the pair written
pub pair_laid : (l t : List ℕ) (at b : ℕ) → b < 256 → t ≡ hex_pairs 256 → set (set l at (get_or t (2 * b) 0)) (at + 1) (get_or t (2 * b + 1) 0) ≡ sets l at (pair b)
pair_laid l t at b h e = rw (e, (pair_at 256 b (2 * b) h refl).0, (pair_at 256 b (2 * b) h refl).1, add-one at)

-- a blank and four pairs, stored one by one
pub word_laid : (l : List ℕ) (at w : ℕ) {a b c d : List ℕ} → w < 2 ^ 32 → a ≡ sets (set l at 32) (at + 1) (pair (w / 0x1000000)) → b ≡ sets a (at + 3) (pair (w / 0x10000 % 256)) → c ≡ sets b (at + 5) (pair (w / 0x100 % 256)) → d ≡ sets c (at + 7) (pair (w % 256)) → d ≡ sets l at (32 ∷ hex8 w)
unfolding hex8
word_laid l at w h p₁ p₂ p₃ p₄ =
    let e₁ : at + 1 ≡ suc at = omega arith in
    let e₃ : at + 3 ≡ suc (suc (suc at)) = omega arith in
    let e₅ : at + 5 ≡ suc (suc (suc (suc (suc at)))) = omega arith in
    let e₇ : at + 7 ≡ suc (suc (suc (suc (suc (suc (suc at)))))) = omega arith in
    let d₁ : w / 0x1000000 / 16 ≡ w / 0x10000000 % 16 = omega arith in
    let d₃ : w / 0x10000 % 256 / 16 ≡ w / 0x100000 % 16 = omega arith in
    let d₄ : w / 0x10000 % 256 % 16 ≡ w / 0x10000 % 16 = omega arith in
    let d₅ : w / 0x100 % 256 / 16 ≡ w / 0x1000 % 16 = omega arith in
    let d₆ : w / 0x100 % 256 % 16 ≡ w / 0x100 % 16 = omega arith in
    let d₇ : w % 256 / 16 ≡ w / 16 % 16 = omega arith in
    let d₈ : w % 256 % 16 ≡ w % 16 = omega arith in
    rw (p₄, p₃, p₂, p₁, e₁, e₃, e₅, e₇, d₁, d₃, d₄, d₅, d₆, d₇, d₈, div-one)

-- a text stored where there is room for it
pub fits : {b c : List ℕ} {at next : ℕ} (s : List ℕ) → c ≡ sets b at s → next ≡ at + length s → Wrote s b c at next
fits s e n = record { now = e; end = rw n }

-- ---- the end of a text

-- a text written from 0 on, and ended
pub done : {text b c last : List ℕ} {n r : ℕ} → Wrote text b c 0 n → (r ≡ pick (leb n (length c)) n 0) × (last ≡ pick (leb n (length c)) c (replicate (length c) 0)) → (r ≡ size text b) × (last ≡ laid text b)
unfolding size laid
done {text} {b} {c} {last} {n} {r} w f = go (leb n (length b)) refl
  where
    l : length c ≡ length b
    l = ap length w.now ∙ length-sets b 0 text

    f₀ : r ≡ pick (leb n (length b)) n 0
    f₀ = rw l at f.0

    f₁ : last ≡ pick (leb n (length b)) c (replicate (length b) 0)
    f₁ = rw l at f.1

    go : (t : Bool) → leb n (length b) ≡ t → (r ≡ size text b) × (last ≡ laid text b)
    go true q =
        let h : n ≤ length b = borrow.Author.Tests.leb-true n (length b) q in
        let e : n ≡ length text = omega (arith, w.end) in
        let k : leb (length text) (length b) ≡ true = rw e at q in
        let z : 0 + length text ≡ length text = omega arith in
        (rw k (f₀ ∙ rw q e), rw k (f₁ ∙ rw q (w.now ∙ sets-eq text b 0 (omega arith) ∙ rw z)))
    go false q =
        let h : length b < n = borrow.Author.Tests.leb-false n (length b) q in
        let k : leb (length text) (length b) ≡ false = lt-leb (length text) (length b) (omega (arith, w.end)) in
        (rw k (f₀ ∙ rw q), rw k (f₁ ∙ rw q))

-- the size of a text in a buffer is within it
pub size_le : (text b : List ℕ) → size text b ≤ length b
unfolding size
size_le text b = go (leb (length text) (length b)) refl
  where
    go : (t : Bool) → leb (length text) (length b) ≡ t → pick t (length text) 0 ≤ length b
    go true q = borrow.Author.Tests.leb-true (length text) (length b) q
    go false q = omega arith
