-- Words moved within a list: what `copy_within` leaves, as the contracts of `shift_up` and `shift_down` say it. Assumes nothing.
use Rattle.std.specs.Prelude.{◌≡◌, refl, length, List, [], ◌++◌, ℕ, ◌+◌, ◌-◌, ◌≤◌, take, drop}
use Rattle.std.specs.List.{copy_within}
use Rattle.std.proofs.Common.{◌∙◌, ap, sym, arith, take-take, take-append-drop}
use Rattle.std.proofs.Math.Seq.{slice, take-add, drop-drop}
use Rattle.std.proofs.lemmas.List.{append_assoc, append-nil, drop-take, drop_all, take_rest, length-drop, length-take-le, drop-append-le}

-- the words from `from` up to `to` stand at `dest`, up to `past`; the others stay
pub moved : (l : List ℕ) (from to dest past : ℕ) → from ≤ to → dest + (to - from) ≡ past → copy_within l from to dest ≡ take dest l ++ (slice from to l ++ drop past l)
moved l from to dest past h e =
    let n : from + (to - from) ≡ to = omega arith in
    let s : slice from to l ≡ take (to - from) (drop from l) = ap (λ (m : ℕ). drop from (take m l)) (sym n) ∙ drop-take from (to - from) l in
    rw (s, ← e) (append_assoc (take dest l) (take (to - from) (drop from l)) (drop (dest + (to - from)) l))

-- a part of the list is a list of its own
slice_part : (f n : ℕ) (l : List ℕ) → take n (drop f l) ≡ slice f (f + n) l
slice_part f n l = sym (drop-take f n l)

-- what moves up within the list's end moves up within the list
pub up_part : (l ys : List ℕ) (from to w : ℕ) → from ≤ to → to + w ≤ length l
    → ys ≡ copy_within (take (length l - from) (drop from l)) 0 (to - from) w
    → take from l ++ (ys ++ drop (length l - from) (drop from l)) ≡ take (from + w) l ++ (slice from to l ++ drop (to + w) l)
up_part l ys from to w h k e =
    let d = drop from l in
    let n = to - from in
    let q : from + (to - from) ≡ to = omega arith in
    let r : from + (to - from + w) ≡ to + w = omega arith in
    let none : drop (length l - from) d ≡ [] = drop_all (length l - from) d (omega (arith, length-drop from l)) in
    let e₁ : ys ≡ take w d ++ (take n d ++ drop (n + w) d) = (rw (take_rest l from) at e) ∙ moved d 0 n w (n + w) (omega arith) (omega arith) in
    let e₂ : take n d ≡ slice from to l = slice_part from n l ∙ ap (λ (m : ℕ). slice from m l) q in
    let e₃ : drop (n + w) d ≡ drop (to + w) l = drop-drop (n + w) from l ∙ ap (λ (m : ℕ). drop m l) r in
    rw (none, append-nil ys, e₁, e₂, e₃, take-add from w l, append_assoc (take from l) (take w d) (slice from to l ++ drop (to + w) l)) refl

-- what moves down to the beginning of a part of the list moves down within the list
pub down_part : (l ys : List ℕ) (from to w : ℕ) → from + w ≤ to → to ≤ length l
    → ys ≡ copy_within (take (to - from) (drop from l)) w (length (take (to - from) (drop from l))) 0
    → take from l ++ (ys ++ drop (to - from) (drop from l)) ≡ take from l ++ (slice (from + w) to l ++ drop (to - w) l)
down_part l ys from to w h k e =
    let d = drop from l in
    let n = to - from in
    let q : from + (to - from) ≡ to = omega arith in
    let r : from + (to - from - w) ≡ to - w = omega arith in
    let long : length (take n d) ≡ n = length-take-le n d (omega (arith, length-drop from l)) in
    let e₁ : ys ≡ slice w n (take n d) ++ drop (n - w) (take n d) = (rw long at e) ∙ moved (take n d) w n 0 (n - w) (omega arith) (omega arith) in
    let e₂ : slice w n (take n d) ≡ slice (from + w) to l =
    ap (drop w) (take-take n n d (omega arith) ∙ slice_part from n l) ∙ drop-drop w from (take (from + n) l) ∙ ap (λ (m : ℕ). slice (from + w) m l) q in
    let e₃ : drop (n - w) (take n d) ++ drop n d ≡ drop (to - w) l =
    sym (drop-append-le (n - w) (take n d) (drop n d) (omega (arith, long)))
    ∙ ap (drop (n - w)) (take-append-drop n d) ∙ drop-drop (n - w) from l ∙ ap (λ (m : ℕ). drop m l) r in
    rw (e₁, e₂, append_assoc (slice (from + w) to l) (drop (n - w) (take n d)) (drop n d), e₃) refl
