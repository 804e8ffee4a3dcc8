-- `insert` writes over the row with the key, or puts the row into the late run; each is a law of `Entering`. Assumes nothing.
use mathlib.Core.Path.{◌≡◌, subst}
use mathlib.Core.Option.{none}
use Prim.Native.Nat.{ℕ, ◌≤◌}
use native.Mathlib.Omega.{arith}
use Rattle.std.specs.Prelude.{Option as RustOption, Some, None}
use Rattle.rows_table.specs.Rows.{key, find}
use Rattle.rows_table.specs.Answers.{Within}
use Rattle.rows_runs.specs.Runs.{Old, Parted, Keeps}
use Rattle.rows_runs.specs.Entering.{key_words, old_first, put_set}
use borrow.Author.Rules.{rules}
use Rattle.rows_runs.proofs.insert.Goals as goal

-- what is among the first m rows is among all n
within_all : (m n : ℕ) → m ≤ n → (r : RustOption ℕ) → Within m r → Within n r
within_all m n h None w = w
within_all m n h (Some i) w = omega arith

pub shape_of-b-in-Some : goal.shape_of-b-in-Some
shape_of-b-in-Some c = search rules

pub returns-in-Some-clause-after : goal.returns-in-Some-clause-after
returns-in-Some-clause-after c =
    let key_is : c.key_of-k.result ≡ key c.args.row.now = key_words c.args.row.now c.key_of-k.result c.key_of-k.ensures in
    λ rows K.
    let P : Parted rows c.split-m.result c.args.count c.args.b.now = c.split-m.ensures.parted rows K in
    let N : Keeps rows c.args.count c.args.b.now = record { at = c.split-m.result; near = c.split-m.ensures.near; parted = P } in
    let found = old_first P c.key_of-k.result c.find_first.result (c.find_first.ensures.found P.first P.late c.args.count P.runs) in
    put_set N c.args.row.now c.told-row _ key_is c.find_first.result c.in-Some.i c.in-Some.is (within_all _ _ c.split-m.ensures.within _ c.find_first.ensures.within) found c.put_words.new.b c.put_words.ensures (shape_of-b-in-Some c)

pub returns-in-None-clause-after : goal.returns-in-None-clause-after
returns-in-None-clause-after c =
    let key_is : c.key_of-k.result ≡ key c.args.row.now = key_words c.args.row.now c.key_of-k.result c.key_of-k.ensures in
    λ rows K.
    let P : Parted rows c.split-m.result c.args.count c.args.b.now = c.split-m.ensures.parted rows K in
    let found = old_first P c.key_of-k.result c.find_first.result (c.find_first.ensures.found P.first P.late c.args.count P.runs) in
    let none_there : find c.key_of-k.result P.first ≡ none = subst (Old c.key_of-k.result rows P.first c.args.b.now) c.in-None.is found in
    c.put_late.ensures.after rows P c.split-m.ensures.near (subst (λ (k : ℕ). find k P.first ≡ none) key_is none_there)
