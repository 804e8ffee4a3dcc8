-- Rows of a lent table name their arrays; what a state gives to the check. Assumes nothing.
use Rattle.std.specs.Prelude.{ℕ, ◌≡◌, true, List, [], get_or}
use Rattle.std.proofs.Common.{sym, ◌∙◌, arith}
use Rattle.rows_lent.specs.Rules.{row_ok}
use Rattle.rows_lent.specs.RuleLaws.{array_name}
use Rattle.rows_lent.specs.Lent.{AllOk}
use Rattle.rows_table.specs.Rows.{Row}
use Rattle.rows_table.specs.Each.{each_at}
use Rattle.collect_buffers.specs.State.{State, running, stopped}
use Rattle.collect_buffers.specs.declared.Counts.{Counts}
use Rattle.collect_buffers.specs.Held.{Held, Settles}
use Rattle.entry_collisions.specs.Collisions.{ArraysNamed, NamesHeld}

-- rows that are in order by themselves name their arrays
pub arrays_named : (names : List ℕ) (rows : List Row) → AllOk names rows → ArraysNamed names rows
arrays_named names rows o i h k = array_name names (get_or rows i []) k (each_at (λ r. row_ok names r ≡ true) [] rows o i h)

-- where it runs, the rows of the state are in order by themselves
abbrev pub OkIn : List ℕ → State → Type 0
OkIn names (running rows notes) = AllOk names rows
OkIn names (stopped k) = Unit {0}

-- the settled buffer of a run that goes on holds such rows
pub names_held : {N D : ℕ} {names : List ℕ} {s : Counts} {b b' d : List ℕ} (st : State) → Held N D st s b d → OkIn names st → Settles s b b' → s.stop ≡ 0 → NamesHeld names s b'
names_held {names = names} (running rows notes) H o S go = record { rows = rows; holds = S.flat go rows H.inside.1; named = arrays_named names rows o }
names_held (stopped k) H o S go =
    let z : k ≡ 0 = sym H.inside.0 ∙ go in
    absurd (omega (arith, H.inside.1))
