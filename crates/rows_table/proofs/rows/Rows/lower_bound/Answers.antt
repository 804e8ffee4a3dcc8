-- `lower_bound` is the key's rank: it lies between lo and hi, and a test at mid moves one of them. Assumes nothing.
use Rattle.std.specs.Prelude.{◌≡◌, List, ℕ, ◌≤◌, ◌<◌, ◌-◌, ◌+◌, ◌/◌, ◌*◌, get_or}
use Rattle.std.proofs.Common.{arith}
use Rattle.rows_table.specs.Rows.{Row, width, key_of, rank, Holds}
use Rattle.rows_table.specs.Laws.{rank_le, rank_low, rank_high}
use Rattle.rows_table.specs.Images.{key_of_row}
use Rattle.rows_table.proofs.rows.Rows.lower_bound.Goals as goal

-- the middle row's key is below k, so k's place is past it; else it is at most the middle
module _ (b : List ℕ) (count k m x : ℕ) (h : m < count) (e : x ≡ key_of (get_or b (m * width) 0) (get_or b (m * width + 1) 0)) (rows : List Row) (H : Holds rows count b) where
  up : x < k → m < rank k rows
  up q = rank_high 0 k rows H.table m (omega (arith, H.filled.count)) (omega (arith, key_of_row H.filled m h, e))

  down : k ≤ x → rank k rows ≤ m
  down q = rank_low k rows m (omega (arith, H.filled.count)) (omega (arith, key_of_row H.filled m h, e))

pub loop-lo-init : goal.loop-lo-init
loop-lo-init c = (omega arith, omega arith, λ rows H. (omega arith, omega (arith, rank_le c.args.k rows, H.filled.count)))

pub loop-lo-preserved-then-key-k : goal.loop-lo-preserved-then-key-k
loop-lo-preserved-then-key-k c =
    let b : List ℕ = c.args.self.now.words.now in
    let m : ℕ = c.loop-lo.lo + (c.loop-lo.hi - c.loop-lo.lo) / 2 in
    let h : m < c.args.self.now.count = omega arith in
    (omega arith, omega arith, λ rows H. (omega (arith, up b c.args.self.now.count c.args.k m c.key.result h c.key.ensures rows H c.if-key-k.true), (c.loop-lo.invariant.2 rows H).1))

pub loop-lo-preserved : goal.loop-lo-preserved
loop-lo-preserved c =
    let b : List ℕ = c.args.self.now.words.now in
    let m : ℕ = c.loop-lo.lo + (c.loop-lo.hi - c.loop-lo.lo) / 2 in
    let h : m < c.args.self.now.count = omega arith in
    (omega arith, omega arith, λ rows H. ((c.loop-lo.invariant.2 rows H).0, down b c.args.self.now.count c.args.k m c.key.result h c.key.ensures rows H c.if-key-k.false))

pub returns-clause-ranked : goal.returns-clause-ranked
returns-clause-ranked c = λ rows H. omega (arith, c.loop-lo.invariant.2 rows H)
