-- `below` lends the first i rows to `lower_bound`, where not all of them stand before the key. Assumes nothing.
use mathlib.Core.Path.{◌≡◌}
use mathlib.Core.List.{List}
use Prim.Native.Nat.{ℕ, ◌+◌, ◌-◌, ◌*◌, ◌<◌}
use native.Mathlib.Omega.{arith}
use lib.ListN.{take, get_or}
use lib.Seq.{get_or-take}
use Rattle.rows_table.specs.Rows.{Row, width, key_of, rank, Holds}
use Rattle.rows_table.specs.Laws.{rank_le, rank_high}
use Rattle.rows_table.specs.Images.{key_of_row}
use Rattle.rows_merge.proofs.below.Goals as goal

-- the last row stands before the key, so all do
all_below : (b : List ℕ) (i k x : ℕ) → 0 < i → x ≡ key_of (get_or b ((i - 1) * width) 0) (get_or b ((i - 1) * width + 1) 0) → x < k
    → (rows : List Row) → Holds rows i (take (i * width) b) → i ≡ rank k rows
all_below b i k x z e h rows H =
    let one = get_or-take (i * width) b ((i - 1) * width) 0 (omega arith) in
    let two = get_or-take (i * width) b ((i - 1) * width + 1) 0 (omega arith) in
    let last = key_of_row H.filled (i - 1) (omega arith) in
    omega (arith, rank_le k rows, rank_high 0 k rows H.table (i - 1) (omega (arith, H.filled.count)) (omega (arith, e, one, two, last)), H.filled.count)

pub returns-then-key-k-clause-ranked : goal.returns-then-key-k-clause-ranked
returns-then-key-k-clause-ranked c =
    let s = c in
    all_below s.args.rows.now.words.now s.args.rows.now.count s.args.k _ c.if-count-gt0.true c.key.ensures c.if-key-k.true
