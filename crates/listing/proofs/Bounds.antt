-- A file longer than any image is `E 5`, so that its first bytes, if more than an image can have, list as the whole does.
use Prim.Native.Nat.{ℕ, ◌<◌}
use native.Mathlib.Omega.{arith}
use mathlib.Core.Path.{◌≡◌, refl, sym, ◌∙◌}
use mathlib.Core.Bool.{Bool, true, false}
use mathlib.Core.List.{List}
use borrow.Author.Tests.{leb-true, leb-false}
use lib.Dec.{leb}
use lib.ListN.{length, take}
use lib.Seq.{take_all, length-take-le}
use Rattle.list_image.specs.Laws.{longest}
use Rattle.list_page.specs.Page.{refusal}
use Rattle.listing.specs.Listing.{listed, listing}

-- a file of more than 57,356 bytes lists as `E 5`
pub oversized : (l : List ℕ) → 57356 < length l → listing l ≡ refusal 5
unfolding listing listed
oversized l h = rw (longest l h)

-- so its first bytes, where they are more than that, list as it does
pub first_bytes : (l : List ℕ) (n : ℕ) → 57356 < n → listing (take n l) ≡ listing l
first_bytes l n h = go (leb (length l) n) refl
  where
    go : (t : Bool) → leb (length l) n ≡ t → listing (take n l) ≡ listing l
    go true q = rw (take_all n l (leb-true (length l) n q))
    go false q =
        let more : n < length l = leb-false (length l) n q in
        let e : length (take n l) ≡ n = length-take-le n l (omega arith) in
        oversized (take n l) (rw e h) ∙ sym (oversized l (omega arith))
