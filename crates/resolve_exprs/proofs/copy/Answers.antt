-- copy: a part with other bytes in its place is those bytes written there.
use Rattle.std.proofs.Common.{ℕ, ◌≡◌, ◌+◌, ◌-◌, ◌≤◌, List, ◌++◌, length, take, drop, ap, ◌∙◌, append_assoc, arith, drop-drop, length-drop, length-take-le}
use Rattle.std.proofs.lemmas.List.Edits.{sets, sets-eq}
use borrow.Rule.Slice.PartMut.{put_mid}
use Rattle.resolve_exprs.proofs.copy.Goals as goal

placed : (b part new : List ℕ) (at k : ℕ) → new ≡ part → k ≡ length part → at + length part ≤ length b → put_mid at k b new ≡ sets b at part
placed b part new at k e n h = rw (e, n, sets-eq part b at h, append_assoc (take at b) part (drop (at + length part) b)) (ap (λ (r : List ℕ). take at b ++ (part ++ r)) (drop-drop (length part) at b))

pub returns : goal.returns
returns c =
    let a = c.args in
    let part = take a.n (drop a.spot.at a.words.now) in
    let l : length part ≡ a.n = length-take-le a.n (drop a.spot.at a.words.now) (simp length-drop (omega arith)) in
    let n : a.spot.at + a.n - a.spot.at ≡ a.n = omega arith in
    placed a.out.now part c.copy_from_slice.new.self a.spot.to (a.spot.to + a.n - a.spot.to) (c.copy_from_slice.ensures.after ∙ ap (λ (k : ℕ). take k (drop a.spot.at a.words.now)) n) (omega arith) (omega arith)
