-- `test_replay::judge` meets its contract: the listing's length is within its buffer. Assumes nothing.
use Rattle.std.proofs.Common.{◌≡◌, ℕ, ◌≤◌, List, length, sym, arith, length-take-le}
use Rattle.base_text.specs.Wrote.{size}
use Rattle.base_text.specs.Laws.{size_le}
use Rattle.test_replay.proofs.judge.Goals as goal

within : (r : ℕ) (text b last : List ℕ) → r ≡ size text b → length last ≡ length b → r ≤ length last
within r text b last e l = omega (arith, size_le text b)

pub slice_bounds-eq-end : goal.slice_bounds-eq-end
slice_bounds-eq-end c = within _ _ _ c.patskneli_listing-k.new.out c.patskneli_listing-k.ensures.0 c.patskneli_listing-k.auto.out

pub slice_bounds-eq-end-2 : goal.slice_bounds-eq-end-2
slice_bounds-eq-end-2 c =
    sym (length-take-le _ _ (within _ _ _ c.patskneli_listing-k.new.out c.patskneli_listing-k.ensures.0 c.patskneli_listing-k.auto.out))
