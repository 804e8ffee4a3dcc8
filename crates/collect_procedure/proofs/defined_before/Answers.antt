-- `defined_before`: what the rows say, asked before the diagnostic; without a row nothing is said. Assumes nothing.
use mathlib.Core.Path.{◌≡◌, refl, sym, ap, ◌∙◌}
use mathlib.Core.Bool.{true, false}
use mathlib.Core.List.{List, [], ◌∷◌}
use mathlib.Core.Option.{none, some}
use Prim.Native.Nat.{ℕ, ◌+◌, ◌*◌}
use native.Mathlib.Omega.{arith}
use lib.ListN.{get_or}
use Rattle.rows_table.specs.Rows.{Row, width, find}
use Rattle.rows_runs.specs.Runs.{row_of, row_in, Keeps}
use Rattle.rows_runs.specs.Places.{row_word_lem}
use Rattle.rows_kinds.specs.Kinds.{entry_key, has_row, row_word}
use Rattle.collect_buffers.proofs.Laws.{no_note, noting_is}
use Rattle.collect_procedure.proofs.Does.{defined_acts}
use Rattle.collect_procedure.proofs.defined_before.Goals as goal

pub returns-in_default : goal.returns-in_default
returns-in_default c =
    let is : (rows : List Row) → Keeps rows c.args.s.rows c.args.b.now → none ≡ find (entry_key 135 c.args.p.name 0) rows =
    λ rows H. ap (row_in c.args.b.now) (sym c.in_default.is) ∙ c.find_entry.ensures.found rows H in
    defined_acts c.args.p.line c.args.p.name 0 false c.requires.0 (λ rows H. ap has_row (is rows H)) (λ rows H. ap (row_word 3) (is rows H)) (no_note c.args.s c.args.d.now _ c.requires.1 false refl)

pub returns : goal.returns
returns c =
    let i : ℕ = c.in-Some.i in
    let is : (rows : List Row) → Keeps rows c.args.s.rows c.args.b.now → some (row_of c.args.b.now i) ≡ find (entry_key 135 c.args.p.name 0) rows =
    λ rows H. ap (row_in c.args.b.now) (sym c.in-Some.is) ∙ c.find_entry.ensures.found rows H in
    let prev : ℕ = get_or c.args.b.now (i * width + 3) 0 in
    defined_acts c.args.p.line c.args.p.name prev true c.requires.0 (λ rows H. ap has_row (is rows H)) (λ rows H. sym (row_word_lem c.args.b.now i 3 (omega arith)) ∙ ap (row_word 3) (is rows H)) (noting_is (25 ∷ c.args.p.line ∷ (c.args.p.name + 1) ∷ 0 ∷ 0 ∷ prev ∷ []) true refl c.push.ensures)
