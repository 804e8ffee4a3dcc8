-- Words that stand at a place, put together and taken apart. Assumes nothing.
use Prim.Native.Nat.{ℕ, suc, ◌+◌, ◌/◌, ◌%◌, ◌<◌, ◌≤◌}
use mathlib.Core.Path.{◌≡◌, refl, sym, ap, ◌∙◌}
use mathlib.Core.List.{List, [], ◌∷◌, ◌++◌, append_assoc}
use native.Mathlib.Omega.{arith}
use native.Mathlib.Numerals.{add-one}
use lib.ListN.{length, get_or, drop, length-append}
use lib.Seq.{drop-cons, drop-drop, drop-append_seam}
use Rattle.base_words.specs.Word.{word_of}
use Rattle.tree_expr.specs.Stands.{Wrote}

-- the empty run of words stands at every place up to the end
pub wrote_none : (ws : List ℕ) (at : ℕ) → at ≤ length ws → Wrote ws at [] at
wrote_none ws at h = record { span = omega arith; inside = h; is = refl }

-- the same words, their place told otherwise
pub wrote_at : {ws xs : List ℕ} {at at' end : ℕ} → at ≡ at' → Wrote ws at xs end → Wrote ws at' xs end
wrote_at e w = rw e at w

-- one word, and others after it
pub wrote_cons : {ws : List ℕ} {at w m end : ℕ} {xs : List ℕ} → at < length ws → get_or ws at 0 ≡ w → m ≡ at + 1 → Wrote ws m xs end → Wrote ws at (w ∷ xs) end
wrote_cons {ws} {at} {w} {m} {end} {xs} h e q r = record {
  span = omega (arith, r.span);
  inside = r.inside;
  is = drop-cons ws at 0 h ∙ ap (λ (x : ℕ). x ∷ drop (suc at) ws) e ∙ ap (λ (l : List ℕ). w ∷ l) (ap (λ (x : ℕ). drop x ws) (sym (add-one at) ∙ sym q) ∙ r.is);
}

-- some words, and others after them
pub wrote_cat : {ws : List ℕ} {at m end : ℕ} {xs ys : List ℕ} → Wrote ws at xs m → Wrote ws m ys end → Wrote ws at (xs ++ ys) end
wrote_cat {ws} {at} {m} {end} {xs} {ys} r s = record {
  span = omega (arith, length-append xs ys, r.span, s.span);
  inside = s.inside;
  is = r.is ∙ ap (λ (l : List ℕ). xs ++ l) s.is ∙ sym (append_assoc xs ys (drop end ws));
}

-- the first word
pub record First (ws : List ℕ) (at w : ℕ) (xs : List ℕ) (end : ℕ) : Type 0 where
  pub inside : at < length ws
  pub is : get_or ws at 0 ≡ w
  pub rest : Wrote ws (at + 1) xs end

-- the first word, and those after it
pub wrote_first : {ws : List ℕ} {at w end : ℕ} {xs : List ℕ} → Wrote ws at (w ∷ xs) end → First ws at w xs end
wrote_first {ws} {at} {w} {end} {xs} r =
    let h : at < length ws = omega (arith, r.span, r.inside) in
    let e : get_or ws at 0 ∷ drop (suc at) ws ≡ w ∷ (xs ++ drop end ws) = sym (drop-cons ws at 0 h) ∙ r.is in
    record { inside = h; is = cc; rest = record { span = omega (arith, r.span); inside = r.inside; is = ap (λ (x : ℕ). drop x ws) (add-one at) ∙ (cc) } }

-- the end of the last word
pub ends : {ws : List ℕ} {at w end : ℕ} → First ws at w [] end → at + 1 ≡ end
ends h = omega (arith, h.rest.span)

-- the first part
pub wrote_left : {ws : List ℕ} {at end : ℕ} (xs ys : List ℕ) → Wrote ws at (xs ++ ys) end → Wrote ws at xs (at + length xs)
wrote_left {ws} {at} {end} xs ys r = record {
  span = refl;
  inside = omega (arith, length-append xs ys, r.span, r.inside);
  is = r.is ∙ append_assoc xs ys (drop end ws) ∙ ap (λ (l : List ℕ). xs ++ l) (sym (sym (drop-drop (length xs) at ws) ∙ ap (λ (l : List ℕ). drop (length xs) l) (r.is ∙ append_assoc xs ys (drop end ws)) ∙ drop-append_seam xs (ys ++ drop end ws)));
}

-- the second part
pub wrote_right : {ws : List ℕ} {at end : ℕ} (xs : List ℕ) {ys : List ℕ} → Wrote ws at (xs ++ ys) end → Wrote ws (at + length xs) ys end
wrote_right {ws} {at} {end} xs {ys} r = record {
  span = omega (arith, length-append xs ys, r.span);
  inside = r.inside;
  is = sym (drop-drop (length xs) at ws) ∙ ap (λ (l : List ℕ). drop (length xs) l) (r.is ∙ append_assoc xs ys (drop end ws)) ∙ drop-append_seam xs (ys ++ drop end ws);
}

-- a word is made of its kind and its payload
pub word_is : (w k x : ℕ) → w / 16777216 ≡ k → w % 16777216 ≡ x → w ≡ word_of k x
word_is w k x a b = omega arith

-- a word's kind, where the payload fits
pub kind_is : (k x : ℕ) → x < 16777216 → word_of k x / 16777216 ≡ k
kind_is k x h = omega arith

-- and its payload
pub pay_is : (k x : ℕ) → x < 16777216 → word_of k x % 16777216 ≡ x
pay_is k x h = omega arith
