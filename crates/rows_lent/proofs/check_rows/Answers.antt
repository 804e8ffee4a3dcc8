-- `check_rows`: after n rows, `scan` from there is what the whole test comes to; each turn is a law of `LentLaws`. Assumes nothing.
use mathlib.Core.Path.{◌≡◌, refl, sym, ap, ◌∙◌}
use mathlib.Core.Bool.{Bool}
use mathlib.Core.List.{List, []}
use Prim.Native.Nat.{ℕ, ◌<◌, ◌-◌, ◌*◌, ◌/◌, suc}
use native.Mathlib.Omega.{arith}
use lib.ListN.{length, take, drop, get_or}
use Rattle.std.specs.Simd.{first_chunks}
use Rattle.rows_table.specs.Rows.{Row, width, key, key_of}
use Rattle.rows_lent.specs.Lent.{checked}
use Rattle.rows_lent.specs.Rules.{row_ok}
use Rattle.rows_lent.specs.LentLaws.{turn_ended, turn_done, turn_bad_row, turn_bad_key, turn_next}
use Rattle.rows_lent.proofs.Words.{row_at, row_first}
use Rattle.rows_lent.proofs.check_rows.Goals as goal

-- row n of the rows cut out of the buffer
module _ (rows : List Row) (b : List ℕ) (n : ℕ) (e : rows ≡ first_chunks width (length b / width) b) (h : n < length b / width) where
  row_is : get_or rows n [] ≡ take width (drop (n * width) b)
  row_is = ap (λ (r : List Row). get_or r n []) e ∙ row_at (length b / width) n b h

  first_is : get_or (get_or rows n []) 0 0 ≡ get_or b (n * width) 0
  first_is = ap (λ (r : Row). get_or r 0 0) row_is ∙ row_first n b

  ok_is : (names : List ℕ) (t : Bool) → t ≡ row_ok names (get_or rows n []) → t ≡ row_ok names (take width (drop (n * width) b))
  ok_is names t o = o ∙ ap (row_ok names) row_is

  key_is : (k : ℕ) → k ≡ key_of (get_or (get_or rows n []) 0 0) (get_or (get_or rows n []) 1 0) → k ≡ key (take width (drop (n * width) b))
  unfolding key
  key_is k o = o ∙ ap key row_is

pub loop-n-init : goal.loop-n-init
unfolding checked
loop-n-init c =
    let all : length c.args.b.now / width - 0 ≡ length c.args.b.now / width = omega arith in
    rw all refl

pub returns-then-row-eq0 : goal.returns-then-row-eq0
returns-then-row-eq0 c =
    let b = c.args.b.now in
    let n = c.loop-n.n in
    let under : n < length b / width = omega (arith, c.loop-n-test.true, c.as_chunks.ensures.front_len) in
    let first = first_is c.as_chunks.result.0.now b n c.as_chunks.ensures.front under in
    c.ended.ensures ∙ sym (c.loop-n.invariant ∙ turn_ended c.args.names.now b (length b / width) (suc c.loop-n.last) n (sym first ∙ c.if-row-eq0.true))

pub returns-then-not-row_ok : goal.returns-then-not-row_ok
returns-then-not-row_ok c =
    let b = c.args.b.now in
    let n = c.loop-n.n in
    let rows = c.as_chunks.result.0.now in
    let e = c.as_chunks.ensures.front in
    let under : n < length b / width = omega (arith, c.loop-n-test.true, c.as_chunks.ensures.front_len) in
    let bad = sym (ok_is rows b n e under c.args.names.now c.row_ok.result c.row_ok.ensures) ∙ c.if-not-row_ok.true in
    sym (c.loop-n.invariant ∙ turn_bad_row c.args.names.now b (length b / width) (suc c.loop-n.last) n under (λ z. c.if-row-eq0.false (first_is rows b n e under ∙ z)) bad)

pub returns-then-k-last : goal.returns-then-k-last
returns-then-k-last c =
    let b = c.args.b.now in
    let n = c.loop-n.n in
    let rows = c.as_chunks.result.0.now in
    let e = c.as_chunks.ensures.front in
    let under : n < length b / width = omega (arith, c.loop-n-test.true, c.as_chunks.ensures.front_len) in
    let good = sym (ok_is rows b n e under c.args.names.now c.row_ok.result c.row_ok.ensures) ∙ c.if-not-row_ok.false in
    let k = key_is rows b n e under c.key_of-k.result c.key_of-k.ensures in
    sym (c.loop-n.invariant
    ∙ turn_bad_key c.args.names.now b (length b / width) (suc c.loop-n.last) n under (λ z. c.if-row-eq0.false (first_is rows b n e under ∙ z)) good (omega (arith, k, c.if-k-last.true)))

pub loop-n-preserved : goal.loop-n-preserved
loop-n-preserved c =
    let b = c.args.b.now in
    let n = c.loop-n.n in
    let rows = c.as_chunks.result.0.now in
    let e = c.as_chunks.ensures.front in
    let under : n < length b / width = omega (arith, c.loop-n-test.true, c.as_chunks.ensures.front_len) in
    let good = sym (ok_is rows b n e under c.args.names.now c.row_ok.result c.row_ok.ensures) ∙ c.if-not-row_ok.false in
    let k = key_is rows b n e under c.key_of-k.result c.key_of-k.ensures in
    rw k (c.loop-n.invariant
    ∙ turn_next c.args.names.now b (length b / width) (suc c.loop-n.last) n under (λ z. c.if-row-eq0.false (first_is rows b n e under ∙ z)) good (omega (arith, k, c.if-k-last.false)))

pub returns : goal.returns
returns c =
    let cap = length c.args.b.now / width in
    let all : c.loop-n.n ≡ cap = omega (arith, c.loop-n-test.false, c.loop-n.auto.n-end, c.as_chunks.ensures.front_len) in
    (rw c.as_chunks.ensures.front_len at c.ended-2.ensures)
    ∙ sym (rw all at (c.loop-n.invariant ∙ turn_done c.args.names.now c.args.b.now cap (suc c.loop-n.last) c.loop-n.n (omega (arith, all))))
